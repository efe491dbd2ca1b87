use Rattle.std.proofs.Common.{◌≡◌, ◌+◌, ◌++◌, ◌≤◌, length, map}
use Rattle.std.specs.Prelude.{vec_capacity}
use Rattle.bw_crew.specs.Workers.{share_by}
use Rattle.nifforan_forest.proofs.hands.Hands.finish.Given as goal

abbrev pub invariant-loop-hand : goal.invariant-loop-hand
invariant-loop-hand g l = record {
  count : length l.trails.items + length l.hand-iterator.rest.items ≡ length l.fn.self.members.items;
  room_for_trails : length l.fn.self.members.items ≤ vec_capacity l.trails;
  room_for_shares : length l.shares.items + length l.hand-iterator.rest.items ≤ vec_capacity l.shares;
  capacity : vec_capacity l.shares ≡ vec_capacity l.fn.shares;
  trails : map g.L.Trail.added l.trails.items ++ map (λ hand. hand.seen.trail) l.hand-iterator.rest.items ≡ map (λ hand. hand.seen.trail)
      l.fn.self.members.items;
  shares : l.shares.items ≡ l.fn.shares.items ++ map (λ trail. share_by (g.L.Trail.added trail)) l.trails.items;
}
