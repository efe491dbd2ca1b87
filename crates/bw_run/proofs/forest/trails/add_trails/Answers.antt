use Rattle.std.proofs.Common.{rules, ◌≡◌, ◌∷◌, ◌++◌, ◌+◌, [], ◌<◌, ap, sym, length, map, ◌∙◌, arith}
use Rattle.std.proofs.lemmas.Grind.{common_steps}
use Rattle.std.proofs.lemmas.List.{length-map, length-set, map-append, take_all}
use Rattle.bw_step.specs.Trails.{lists_of}
use Rattle.bw_run.specs.ForestRuns.{with_last}
use Rattle.bw_run.proofs.ForestColumns.{pushed_at, put_next}
use Rattle.bw_run.proofs.forest.trails.add_trails.Goals as goal

pub loop-trail-preserved : goal.loop-trail-preserved
loop-trail-preserved c =
    let inv = c.loop-trail.invariant in
    let all = c.args.trails.items in
    let trail = c.in-Some.trail in
    let rest = c.next.new.self.rest.items in
    let split : c.loop-trail.trail-iterator.rest.items ≡ trail ∷ rest = search rules in
    let old = map (λ its. lists_of its.items) c.args.by_tree.now.items in
    let many : length old ≡ length c.args.by_tree.now.items = length-map c.args.by_tree.now.items (λ its. lists_of its.items) in
    let inside : c.loop-trail.tree < length all = omega (arith, ap length split, inv.left) in
    let there = c.index_mut.result.now in
    let pushed = pushed_at (λ its. lists_of its.items) c.loop-trail.by_tree.items c.loop-trail.tree there c.push.new.self trail.items
    (omega (arith, inside, inv.count, c.requires))
    (ap lists_of c.in_ok-push.ensures.items ∙ (map-append (λ trail. trail.items) there.items (trail ∷ [])
    ∙ ap (λ its. lists_of its.items ++ trail.items ∷ []) c.index_mut.ensures.value)) in
    let next = put_next (λ (it : _). it.items) all c.loop-trail.tree trail rest old _ _ (sym split ∙ inv.rest) inside
    (omega (arith, inside, many, c.requires)) inv.added pushed in
    record {
      left = omega (arith, ap length split, inv.left);
      rest = next.left;
      count = length-set c.loop-trail.by_tree.items c.loop-trail.tree c.push.new.self ∙ inv.count;
      added = next.put;
    }

pub returns-clause-added : goal.returns-clause-added
returns-clause-added c =
    let inv = c.loop-trail.invariant in
    let all = lists_of c.args.trails.items in
    let many : length all ≡ length c.args.trails.items = length-map c.args.trails.items (λ trail. trail.items) in
    let past : length c.loop-trail.trail-iterator.rest.items ≡ 0 = grind (arith, common_steps) in
    inv.added
    ∙ ap (λ row. with_last row (map (λ its. lists_of its.items) c.args.by_tree.now.items))
    (take_all c.loop-trail.tree all (omega (arith, many, inv.left, past)))
