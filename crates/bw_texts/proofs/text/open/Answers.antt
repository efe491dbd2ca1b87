use Rattle.std.proofs.Common.{◌∙◌, ap, refl, sym}
use Rattle.std.specs.Prelude.{option_map}
use Rattle.csv.specs.Reading.{Reached, strip_bom}
use Rattle.bw_texts.proofs.text.open.Goals as goal

pub returns-clause-start : goal.returns-clause-start
unfolding Reached
returns-clause-start g c = λ bytes known.
    let made = c.from_reader.ensures in
    (strip_bom bytes, made.source ∙ ap (option_map strip_bom) known, (sym made.state, refl))
