use Rattle.std.proofs.Common.{rules, ◌≡◌, ◌∷◌, ◌+◌, length, ap, arith}
use Rattle.bw_crew.proofs.Workers.{one_longer, summed_more, trails_more}
use Rattle.nifforan_forest.proofs.hands.Hands.finish.Goals as goal

pub loop-hand-preserved : goal.loop-hand-preserved
loop-hand-preserved g c =
    let inv = c.loop-hand.invariant in
    let hand = c.in-Some.hand in
    let rest = c.next.new.self.rest.items in
    let split : c.loop-hand.hand-iterator.rest.items ≡ hand ∷ rest = search rules in
    let share = c.finish-share.result.0 in
    let trail = c.finish-share.result.1 in
    let shares = c.push_reserved.ensures.items in
    let trails = c.push_reserved-in-loop-hand.ensures.items in
    let more : length c.push_reserved.new.self.items ≡ length c.loop-hand.shares.items + 1 =
    one_longer _ _ _ shares in
    let longer : length c.push_reserved-in-loop-hand.new.self.items ≡ length c.loop-hand.trails.items + 1 =
    one_longer _ _ _ trails in
    record {
      count = omega (arith, longer, ap length split, inv.count);
      room_for_trails = rw c.push_reserved-in-loop-hand.ensures.capacity inv.room_for_trails;
      room_for_shares = rw c.push_reserved.ensures.capacity (omega (arith, more, ap length split, inv.room_for_shares));
      capacity = omega (arith, c.push_reserved.ensures.capacity, inv.capacity);
      trails =
          trails_more g.L.Trail.added (λ hand. hand.seen.trail) c.loop-hand.trails.items _ trail hand rest _ trails
          c.finish-share.ensures.trail (rw split at inv.trails);
      shares =
          summed_more g.L.Trail.added _ c.loop-hand.shares.items _ c.loop-hand.trails.items _ share trail shares trails inv.shares
          c.finish-share.ensures.share;
    }
