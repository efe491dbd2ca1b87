use Rattle.std.proofs.Common.{rules, ◌≡◌, ◌∷◌, length, ap, arith}
use Rattle.std.proofs.lemmas.List.Elements.{All-take}
use Rattle.bw_tree.specs.Shares.{no_changes}
use Rattle.bw_crew.proofs.Workers.{one_longer, one_more_has}
use Rattle.nifforan_shared.proofs.hands.seats_of.Goals as goal

pub loop-kit-preserved : goal.loop-kit-preserved
loop-kit-preserved g c =
    let inv = c.loop-kit.invariant in
    let split : c.loop-kit.kit-iterator.rest.items ≡ c.in-Some.kit ∷ c.next.new.self.rest.items = search rules in
    let kits = rw split at inv.kits in
    record {
      shares = search rules;
      new = rw c.pop.ensures.rest (All-take (λ share. share ≡ no_changes) _ c.loop-kit.shares.items inv.new);
      count = omega (arith, one_longer _ _ _ c.in_ok-push.ensures.items, inv.count);
      worker = omega (arith, inv.worker, ap length split);
      kits = rw c.in_ok-push.ensures.items (one_more_has (λ seat. seat.kit) c.loop-kit.seats.items _ c.next.new.self.rest.items _ kits);
    }
