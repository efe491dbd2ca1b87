use Rattle.std.proofs.Common.{◌≡◌, ◌+◌, ◌-◌, ◌≤◌, ◌++◌, length, replicate, vec_capacity}
use Rattle.bw_law.specs.Slots.{free_slot}
use Rattle.bw_table.proofs.pages.push_free.Given as goal

abbrev pub invariant-loop-page : goal.invariant-loop-page
invariant-loop-page g l = record {
  slots : l.slots.items ≡ l.fn.slots.items ++ replicate l._page (free_slot l.version);
  room : length l.fn.slots.items + l.more ≤ vec_capacity l.slots;
}
