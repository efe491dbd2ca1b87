use Rattle.std.proofs.Common.{◌≡◌, ◌∷◌, replicate}
use Rattle.bw_law.specs.Slots.{free_slot}
use Rattle.bw_law.specs.Tables.{first_slot}
use Rattle.bw_table.proofs.fresh.first_slots.Given as goal

abbrev pub invariant-loop-page : goal.invariant-loop-page
invariant-loop-page g l = l.slots.items ≡ first_slot l.version ∷ replicate l._page (free_slot l.version)
