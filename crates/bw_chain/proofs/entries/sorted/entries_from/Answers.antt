use Rattle.std.proofs.Common.{◌≤◌, sym, ◌∙◌, arith}
use Rattle.bw_keys.specs.Ranges.{end_of}
use Rattle.bw_delta.specs.Slices.{list_of}
use Rattle.bw_chain.proofs.Passing.Around.{from-least}
use Rattle.bw_chain.proofs.Sorted.{from-nothing}
use Rattle.bw_chain.proofs.entries.sorted.entries_from.Goals as goal

pub returns-else-is_above : goal.returns-else-is_above
returns-else-is_above g c =
    let least = c.in-Some.least in
    let le : end_of c.args.fence ≤ least.0 = grind (arith, c.is_above.ensures, c.if-is_above.false) in
    sym (from-least (end_of c.args.fence) least (list_of c.args.entries) c.requires.ascending (sym c.in-Some.ensures) le)

pub returns-in_default : goal.returns-in_default
returns-in_default g c = from-nothing (end_of c.args.fence) (list_of c.args.entries) (sym c.first.ensures ∙ c.in_default.is)
