use Rattle.std.proofs.Common.{◌≡◌, ◌+◌, ◌++◌, ◌<◌, ◌≤◌, length, map}
use Rattle.std.specs.Prelude.{vec_capacity}
use Rattle.bw_crew.specs.Workers.{share_by}
use Rattle.nifforan_shared.proofs.hands.gather.Given as goal

abbrev pub invariant-loop-worked : goal.invariant-loop-worked
invariant-loop-worked g l = record {
  count : length l.shares.items + length l.worked-iterator.rest.items ≡ length l.fn.all.items;
  room_for_shares : length l.fn.all.items < vec_capacity l.shares;
  room_for_trails : length l.fn.all.items ≤ vec_capacity l.trails;
  room_for_outputs : length l.fn.all.items ≤ vec_capacity l.outputs;
  trails : map g.L.Trail.added l.trails.items ++ map (λ worked. worked.hands.seen.trail) l.worked-iterator.rest.items
      ≡ map (λ worked. worked.hands.seen.trail) l.fn.all.items;
  outputs : l.outputs.items ++ map (λ worked. worked.output) l.worked-iterator.rest.items ≡ map (λ worked. worked.output) l.fn.all.items;
  trailed : length l.trails.items ≡ length l.shares.items;
  answered : length l.outputs.items ≡ length l.shares.items;
  counted : l.shares.items ≡ map (λ trail. share_by (g.L.Trail.added trail)) l.trails.items;
}
