use Rattle.bw_texts.specs.Reading.{IsOpen}
use Rattle.bw_texts.proofs.found.row_fields.Given as goal

abbrev pub invariant-loop : goal.invariant-loop
invariant-loop l = IsOpen l.reader
