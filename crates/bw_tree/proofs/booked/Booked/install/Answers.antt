use Rattle.std.proofs.Common.{refl, sym, ◌∙◌}
use Rattle.bw_law.proofs.TakenSteps.{config_kept, is_reported}
use Rattle.bw_tree.proofs.Trees.{book_kept, map_after}
use Rattle.bw_tree.proofs.booked.Booked.install.Goals as goal

pub invariant_of-self-2 : goal.invariant_of-self-2
invariant_of-self-2 g c =
    let reported = c.in_ok-receipt.ensures in
    let kept = c.self.invariant in
    let book = book_kept _ _ _ _ _ _ kept.0 (reported.accepted.0 refl) reported.taken c.count.ensures.stock in
    (book, config_kept _ _ _ _ reported.taken ∙ kept.1, kept.2)

pub returns-clause-map : goal.returns-clause-map
returns-clause-map g c = rw (sym c.self.view_is) (map_after _ _ _ c.self.invariant.0 (c.in_ok-receipt.ensures.accepted.0 refl))

pub returns-clause-reported : goal.returns-clause-reported
returns-clause-reported g c = is_reported _ _ _ _ c.in_ok-receipt.ensures.taken
