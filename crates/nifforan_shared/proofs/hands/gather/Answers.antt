use Rattle.std.proofs.Common.{rules, ◌≡◌, ◌∷◌, ◌+◌, [], length, map, ap, ◌∙◌, append_assoc, arith}
use Rattle.bw_crew.proofs.Workers.{one_longer, summed_more, trails_more}
use Rattle.nifforan_shared.proofs.hands.gather.Goals as goal

pub loop-worked-preserved : goal.loop-worked-preserved
loop-worked-preserved g c =
    let inv = c.loop-worked.invariant in
    let worked = c.in-Some.worked in
    let share = c.finish-share.result.0 in
    let trail = c.finish-share.result.1 in
    let rest = c.next.new.self.rest.items in
    let split : c.loop-worked.worked-iterator.rest.items ≡ worked ∷ rest = search rules in
    let trails_so_far = rw split at inv.trails in
    let outputs_so_far = rw split at inv.outputs in
    let shares = c.push_reserved.ensures.items in
    let trails = c.push_reserved-in-loop-worked.ensures.items in
    let outputs = c.push_reserved-in-loop-worked-2.ensures.items in
    let more : length c.push_reserved.new.self.items ≡ length c.loop-worked.shares.items + 1 = one_longer _ _ _ shares in
    let longer : length c.push_reserved-in-loop-worked.new.self.items ≡ length c.loop-worked.trails.items + 1 = one_longer _ _ _ trails in
    let larger : length c.push_reserved-in-loop-worked-2.new.self.items ≡ length c.loop-worked.outputs.items + 1 = one_longer _ _ _ outputs in
    record {
      count = omega (arith, more, ap length split, inv.count);
      room_for_shares = rw c.push_reserved.ensures.capacity inv.room_for_shares;
      room_for_trails = rw c.push_reserved-in-loop-worked.ensures.capacity inv.room_for_trails;
      room_for_outputs = rw c.push_reserved-in-loop-worked-2.ensures.capacity inv.room_for_outputs;
      trails = trails_more g.L.Trail.added (λ it. it.hands.seen.trail) c.loop-worked.trails.items _ trail worked rest _ trails c.finish-share.ensures.trail trails_so_far;
      outputs = rw outputs (append_assoc c.loop-worked.outputs.items (worked.output ∷ []) (map (λ it. it.output) rest) ∙ outputs_so_far);
      trailed = omega (arith, more, longer, inv.trailed);
      answered = omega (arith, more, larger, inv.answered);
      counted = summed_more g.L.Trail.added [] c.loop-worked.shares.items c.push_reserved.new.self.items c.loop-worked.trails.items c.push_reserved-in-loop-worked.new.self.items share trail shares trails inv.counted c.finish-share.ensures.share;
    }
