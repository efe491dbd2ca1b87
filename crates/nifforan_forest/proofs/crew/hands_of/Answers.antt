use Rattle.std.proofs.Common.{rules, ◌≡◌, ◌∷◌, ◌+◌, [], length, ap, arith}
use Rattle.std.specs.Prelude.{All}
use Rattle.std.proofs.lemmas.List.Elements.{All-tail}
use Rattle.bw_tree.specs.Shares.{no_changes}
use Rattle.bw_crew.proofs.Workers.{by_number_more, one_longer}
use Rattle.nifforan_forest.proofs.crew.hands_of.Goals as goal

pub loop-its-preserved : goal.loop-its-preserved
loop-its-preserved g c =
    let inv = c.loop-its.invariant in
    let its = c.in-Some.its in
    let rest = c.next.new.self.rest.items in
    let split : c.loop-its.its-iterator.rest.items ≡ its ∷ rest = search rules in
    let pushed = c.in_ok-push.ensures.items in
    let more : length c.push.new.self.items ≡ length c.loop-its.hands.items + 1 = one_longer _ _ _ pushed in
    record {
      count = omega (arith, more, ap length split, inv.count);
      worker = omega (arith, more, inv.worker);
      quiet = by_number_more (λ worker it. All (λ hand. hand.seen.trail ≡ []) it.members.items) c.loop-its.hands.items _ _
          c.loop-its.worker pushed inv.quiet c.in_ok-new.ensures inv.worker;
      each = All-tail (λ its. length its.items ≡ length g.I.Divides.bounds) its rest (rw split at inv.each);
      new = All-tail (λ its. All (λ share. share ≡ no_changes) its.items) its rest (rw split at inv.new);
    }
