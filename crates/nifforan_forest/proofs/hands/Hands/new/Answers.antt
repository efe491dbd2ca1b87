use Rattle.std.proofs.Common.{rules, ◌≡◌, ◌+◌, [], length, ap, arith, ◌∙◌}
use Rattle.std.proofs.lemmas.List.Elements.{All-push, All-take}
use Rattle.bw_tree.specs.Shares.{no_changes}
use Rattle.bw_crew.proofs.Workers.{one_longer}
use Rattle.nifforan_forest.proofs.Placing.{placed_more}
use Rattle.nifforan_forest.proofs.hands.Hands.new.Goals as goal

pub loop-i-preserved : goal.loop-i-preserved
loop-i-preserved g c =
    let inv = c.loop-i.invariant in
    let pushed = c.push_reserved.ensures.items in
    let more : length c.push_reserved.new.self.items ≡ length c.loop-i.members.items + 1 =
    one_longer _ _ _ pushed in
    record {
      shares = search rules;
      new = rw c.pop.ensures.rest (All-take (λ share. share ≡ no_changes) _ c.loop-i.shares.items inv.new);
      count = omega (arith, more, inv.count);
      room = rw c.push_reserved.ensures.capacity inv.room;
      quiet = rw pushed (All-push (λ hand. hand.seen.trail ≡ []) c.loop-i.members.items c.new.result inv.quiet c.new.ensures.trail);
      placed =
          placed_more (λ hand. hand.range) g.S.Shared.range c.loop-i.members.items c.push_reserved.new.self.items c.new.result
          c.args.trees.now c.loop-i.i c.index-trees-i.result pushed (c.new.ensures.range ∙ ap g.S.Shared.range c.index-trees-i.is)
          c.loop-i-test.true inv.placed;
    }
