use Rattle.std.proofs.Common.{rules, ◌≡◌, ◌+◌, ◌≤◌, ◌∙◌, Some, length, ap, sym, arith}
use Rattle.std.specs.Vec.{vec_len, vec_capacity}
use Rattle.std.proofs.lemmas.List.{take_all}
use Rattle.std.proofs.lemmas.List.Elements.{All-take}
use Rattle.bw_tree.specs.Shares.{no_changes}
use Rattle.bw_forest.specs.Bounds.{ranges_of}
use Rattle.bw_forest.proofs.Closing.{length_ranges}
use Rattle.bw_forest.proofs.Opening.{new_within, range_taken}
use Rattle.bw_forest.proofs.forest.plant.Goals as goal

pub in_forest-requires-clause-within : goal.in_forest-requires-clause-within
in_forest-requires-clause-within g c =
    new_within c.args.config c.range.result c.in-Ok.table c.in-Ok.ensures.ok c.requires.fine (omega arith)

pub loop-i-preserved : goal.loop-i-preserved
loop-i-preserved g c =
    let inv = c.loop-i.invariant in
    let left : length c.pop.new.self.items + (c.loop-i.i + 1) ≡ length c.args.bounds.now = search rules in
    let room : (vec_len c.push_reserved.new.self ≡ c.loop-i.i + 1) × (length c.args.bounds.now ≤ vec_capacity c.push_reserved.new.self) =
    search rules in
    record {
      left = left;
      none = rw c.pop.ensures.rest (All-take (λ stock. stock ≡ no_changes) _ _ inv.none);
      placed =
          range_taken (λ tree. tree.range) c.loop-i.trees.items c.push_reserved.new.self.items c.in_forest.result
          (ranges_of c.args.bounds.now) c.loop-i.i c.push_reserved.ensures.items
          (c.range.ensures.range ∙ ap Some (sym c.in_forest.ensures.range)) inv.placed;
      room = room;
    }

pub returns-clause-placed : goal.returns-clause-placed
returns-clause-placed g c =
    let all = length_ranges c.args.bounds.now in
    let past : length c.args.bounds.now ≤ c.loop-i.i = search rules in
    c.loop-i.invariant.placed ∙ take_all c.loop-i.i (ranges_of c.args.bounds.now) (omega (arith, all, past))
