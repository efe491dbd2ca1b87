-- What a leaf of a survey reads as.
use Rattle.std.specs.Prelude.{ℕ, ◌++◌, List, codes, decimal}
use Rattle.bw_keys.specs.Texts.{fence_text}
use Rattle.bw_step.specs.declared.survey.Leaf.{Leaf}

abbrev pub leaf_text : Leaf → List ℕ
leaf_text leaf =
    decimal leaf.range.low ++ codes " " ++ fence_text leaf.range.high ++ codes " "
    ++ decimal leaf.count
