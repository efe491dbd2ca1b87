use Rattle.std.proofs.Common.{◌≡◌, ◌+◌, ◌*◌, ◌++◌, ◌≤◌, length, map}
use Rattle.std.specs.Prelude.{All, vec_capacity}
use Rattle.bw_crew.specs.Workers.{ByNumber, share_by}
use Rattle.nifforan_forest.specs.Workers.{AllReturn, trails_of}
use Rattle.nifforan_forest.proofs.crew.gather.Given as goal

abbrev pub invariant-loop-worked : goal.invariant-loop-worked
invariant-loop-worked g l = record {
  shares_fit : length l.shares.items + length l.worked-iterator.rest.items * length g.I.Divides.bounds ≤ vec_capacity l.shares;
  workers_fit : length l.workers.items + length l.worked-iterator.rest.items ≤ vec_capacity l.workers;
  count : length l.workers.items + length l.worked-iterator.rest.items ≡ length l.fn.all.items;
  shares : l.shares.items ≡ l.fn.opening.items ++ map share_by (trails_of g.L.Trail.added l.workers.items);
  trails : All (λ it. length it.trails.items ≡ length g.I.Divides.bounds) l.workers.items;
  promised : AllReturn g.L.Trail.added (g.J.ForestJob.promised l.job) g.I.Divides.bounds l.workers.items;
  rest : ByNumber (λ worker worked. g.J.ForestJob.promised l.job g.I.Divides.bounds worker worked.output
      (map (λ hand. hand.seen.trail) worked.hands.members.items))
      (length l.workers.items) l.worked-iterator.rest.items;
}
