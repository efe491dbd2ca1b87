use Rattle.std.proofs.Common.{◌≡◌, ◌-◌, arith}
use Rattle.bw_table.proofs.fresh.first_slots.Goals as goal

pub returns-clause-slots : goal.returns-clause-slots
returns-clause-slots g c = let all : c.loop-page._page ≡ c.args.pages - 1 = omega arith in rw all at c.loop-page.invariant
