use Rattle.std.proofs.Common.{ℕ, ◌≡◌, ◌+◌, ◌∙◌, rules, sym, ap}
use Rattle.bw_audit.specs.Indexed.{IsCountUpto}
use Rattle.bw_audit.proofs.Indexing.{none_before, by_other, by_own}
use Rattle.bw_audit.proofs.index.Index.value_after.Goals as goal

pub returns-in_err-last : goal.returns-in_err-last
returns-in_err-last c =
    let s = c.self.inside in
    let i = c.self.invariant.0 in
    let count : IsCountUpto s.rows.items c.args.key c.args.number c.count_upto.result = rw c.as_slice.ensures.value at c.count_upto.ensures in
    c.from_residual.ensures ∙
    rw (← c.self.view_is)
    (sym (none_before s.changes.items s.rows.items i.kept i.in_order c.args.key c.args.number c.count_upto.result (rw (← c.self.view_is) at c.requires) count.bound count.point (search rules)))

pub returns-then-index-key : goal.returns-then-index-key
returns-then-index-key c =
    let s = c.self.inside in
    let i = c.self.invariant.0 in
    let count : IsCountUpto s.rows.items c.args.key c.args.number c.count_upto.result = rw c.as_slice.ensures.value at c.count_upto.ensures in
    let next : c.count_upto.result ≡ c.in_ok-last.last + 1 = search rules in
    c.index-then-index-key.ensures ∙
    rw (← c.self.view_is)
    (by_own s.changes.items s.rows.items i.kept i.in_order c.args.key c.args.number c.count_upto.result (rw (← c.self.view_is) at c.requires) count.bound count.point
    c.in_ok-last.last next c.index.result.now s.left.items c.self.invariant.1 _ (sym (ap (λ (row : ℕ × ℕ). row.0) c.index.ensures) ∙ c.if-index-key.true))

pub returns-else-index-key : goal.returns-else-index-key
returns-else-index-key c =
    let s = c.self.inside in
    let i = c.self.invariant.0 in
    let count : IsCountUpto s.rows.items c.args.key c.args.number c.count_upto.result = rw c.as_slice.ensures.value at c.count_upto.ensures in
    let next : c.count_upto.result ≡ c.in_ok-last.last + 1 = search rules in
    rw (← c.self.view_is)
    (sym (by_other s.changes.items s.rows.items i.kept i.in_order c.args.key c.args.number c.count_upto.result (rw (← c.self.view_is) at c.requires) count.bound count.point
    c.in_ok-last.last next c.index.result.now (λ same. c.if-index-key.false (ap (λ (row : ℕ × ℕ). row.0) c.index.ensures ∙ same))))
