use Rattle.std.proofs.Common.{rules, ◌≡◌, ◌∷◌, suc, length, ap, sym, ◌∙◌}
use Rattle.std.proofs.lemmas.List.{nil_from_length}
use Rattle.bw_crew.proofs.Workers.{one_more_has}
use Rattle.bw_run.proofs.Readers.{handed_next, none_left}
use Rattle.bw_run.proofs.kits.kits_of.Goals as goal

pub loop-acts-preserved : goal.loop-acts-preserved
loop-acts-preserved g c =
    let inv = c.loop-acts.invariant in
    let split : c.loop-acts.acts-iterator.rest.items ≡ c.in-Some.acts ∷ c.next.new.self.rest.items = search rules in
    let counted : length c.loop-acts.acts-iterator.rest.items ≡ suc (length c.next.new.self.rest.items) = ap length split in
    let next = c.next-in-loop-acts in
    let left = c.loop-acts.left.rest.items in
    let handed =
    handed_next (length c.next.new.self.rest.items) next.result left next.new.self.rest.items next.ensures.items (λ is. nil_from_length left (sym c.loop-acts.left.rest.ok.0 ∙ none_left next.result c.loop-acts.left.rest.len next.ensures.variant is)) in
    let readers = rw (counted, handed) at inv.readers in
    let acts = rw split at inv.acts in
    record {
      readers = rw c.in_ok-push.ensures.items (one_more_has (λ kit. kit.reader) c.loop-acts.kits.items _ _ _ readers);
      acts = rw c.in_ok-push.ensures.items (one_more_has (λ kit. kit.acts.items) c.loop-acts.kits.items _ _ _ acts);
    }
