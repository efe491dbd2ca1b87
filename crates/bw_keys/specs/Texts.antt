-- What the parts of a configuration and the ends of ranges read as.
use Rattle.std.specs.Prelude.{ℕ, List, codes, decimal}
use Rattle.bw_keys.specs.declared.config.Field.{Field}
use Rattle.bw_keys.specs.declared.config.Field.TheVariants.{Fanout, Chain, Pages, Tries}
use Rattle.bw_keys.specs.declared.range.Fence.{Fence}
use Rattle.bw_keys.specs.declared.range.Fence.TheVariants.{Key, Top}

abbrev pub field_text : Field → List ℕ
field_text Fanout = codes "fanout"
field_text Chain = codes "chain"
field_text Pages = codes "pages"
field_text Tries = codes "tries"

abbrev pub fence_text : Fence → List ℕ
fence_text (Key high) = decimal high
fence_text Top = codes "top"
