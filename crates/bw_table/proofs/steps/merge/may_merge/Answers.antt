use Rattle.std.proofs.Common.{rules}
use Rattle.bw_table.proofs.steps.merge.may_merge.Goals as goal

pub returns-then-into-slot : goal.returns-then-into-slot
returns-then-into-slot g c = search rules

pub returns-then-ne : goal.returns-then-ne
returns-then-ne g c = search rules

pub returns-then-ne-2 : goal.returns-then-ne-2
returns-then-ne-2 g c = search rules

pub returns-then-max-ge-MAX_DEPTH : goal.returns-then-max-ge-MAX_DEPTH
returns-then-max-ge-MAX_DEPTH g c = search rules

pub returns-then-is_worn : goal.returns-then-is_worn
returns-then-is_worn g c = search rules

pub returns : goal.returns
returns g c = search rules

pub returns-then-eq : goal.returns-then-eq
returns-then-eq g c = search rules
