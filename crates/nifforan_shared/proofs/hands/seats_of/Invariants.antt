use Rattle.std.proofs.Common.{◌≡◌, ◌+◌, ◌++◌, length, map}
use Rattle.std.specs.Prelude.{All}
use Rattle.bw_tree.specs.Shares.{no_changes}
use Rattle.nifforan_shared.proofs.hands.seats_of.Given as goal

abbrev pub invariant-loop-kit : goal.invariant-loop-kit
invariant-loop-kit g l = record {
  shares : length l.shares.items ≡ length l.kit-iterator.rest.items;
  new : All (λ share. share ≡ no_changes) l.shares.items;
  count : length l.seats.items ≡ l.worker;
  worker : l.worker + length l.kit-iterator.rest.items ≡ length l.fn.kits.items;
  kits : map (λ seat. seat.kit) l.seats.items ++ l.kit-iterator.rest.items ≡ l.fn.kits.items;
}
