use Rattle.std.proofs.Common.{rules, ◌≡◌, ◌∷◌, ◌+◌, ℕ, length, map, ap, sym, subst, arith, append-nil, length-append}
use Rattle.std.proofs.lemmas.List.{length-map}
use Rattle.std.proofs.lemmas.List.Elements.{All-push}
use Rattle.bw_crew.specs.Workers.{ByNumber, share_by}
use Rattle.bw_crew.proofs.Workers.{by_number_more, one_longer}
use Rattle.nifforan_forest.proofs.Gathering.{counted_then}
use Rattle.nifforan_forest.proofs.crew.gather.Goals as goal

pub loop-worked-init : goal.loop-worked-init
loop-worked-init g c =
    let workers = c.requires.empty in
    let whole : c.into_iter-worked-iterator.result.rest.items ≡ c.args.all.items = search rules in
    record {
      shares_fit = rw whole c.requires.shares_fit;
      workers_fit = omega (arith, ap length workers, ap length whole, c.requires.room);
      count = omega (arith, ap length workers, ap length whole);
      shares = rw workers (sym (append-nil c.args.opening.items));
      trails = rw workers (λ k d less. absurd (omega (arith, less)));
      promised = rw workers tt;
      rest = rw workers (rw whole c.requires.promised);
    }

pub finish-trails-requires : goal.finish-trails-requires
finish-trails-requires g c =
    let split : c.loop-worked.worked-iterator.rest.items ≡ c.in-Some.worked ∷ c.next.new.self.rest.items = search rules in
    let fit = rw split at c.loop-worked.invariant.shares_fit in
    omega (arith, fit)

pub loop-worked-preserved : goal.loop-worked-preserved
loop-worked-preserved g c =
    let inv = c.loop-worked.invariant in
    let trees = length g.I.Divides.bounds in
    let promised = g.J.ForestJob.promised c.args.job.now g.I.Divides.bounds in
    let worked = c.in-Some.worked in
    let rest = c.next.new.self.rest.items in
    let split : c.loop-worked.worked-iterator.rest.items ≡ worked ∷ rest = search rules in
    let pushed = c.push_reserved.ensures.items in
    let back = c.finish-trails.ensures in
    let trails = c.finish-trails.result.items in
    let fit = rw split at inv.shares_fit in
    let left = rw split at inv.rest in
    let many : length trails ≡ trees =
    omega (
      arith,
      worked.hands.each,
      length-map trails g.L.Trail.added,
      ap length back.trails,
      length-map worked.hands.members.items (λ hand. hand.seen.trail),
    ) in
    let more : length c.finish-trails.new.shares.items ≡ length c.loop-worked.shares.items + trees =
    omega (
      arith,
      ap length back.shares,
      length-append c.loop-worked.shares.items (map (λ trail. share_by (g.L.Trail.added trail)) trails),
      length-map trails (λ trail. share_by (g.L.Trail.added trail)),
      many,
    ) in
    let longer : length c.push_reserved.new.self.items ≡ length c.loop-worked.workers.items + 1 =
    one_longer _ _ _ pushed in
    record {
      shares_fit = omega (arith, fit, more, back.capacity);
      workers_fit = rw c.push_reserved.ensures.capacity (omega (arith, longer, ap length split, inv.workers_fit));
      count = omega (arith, longer, ap length split, inv.count);
      shares = counted_then g.L.Trail.added c.args.opening.items c.loop-worked.shares.items _ c.loop-worked.workers.items _ _ back.shares
          pushed inv.shares;
      trails = rw pushed (All-push (λ it. length it.trails.items ≡ trees) c.loop-worked.workers.items _ inv.trails many);
      promised = by_number_more (λ worker it. promised worker it.output (map g.L.Trail.added it.trails.items))
          c.loop-worked.workers.items _ _ (length c.loop-worked.workers.items) pushed inv.promised
          (subst (promised (length c.loop-worked.workers.items) worked.output) (sym back.trails) left.0)
          (omega arith);
      rest = subst (λ (k : ℕ). ByNumber (λ worker worked. promised worker worked.output
          (map (λ hand. hand.seen.trail) worked.hands.members.items)) k rest) (sym longer) left.1;
    }
