use Rattle.std.proofs.Common.{◌≡◌, rules, ℕ, false, true, [], ◌∷◌, ◌++◌, ap, sym, subst, ◌∙◌, append_assoc}
use Rattle.std.specs.Iterator.{Drains}
use Rattle.nifforan.specs.Maps.{PairList}
use Rattle.nifforan.specs.Rising.{CutsBehind, IsUnsortedBehind, is_above}
use Rattle.nifforan.proofs.Appending.{none_behind, rise_with, last_with, unsorted_fault, has_all}
use Rattle.nifforan.proofs.Filled.{cuts_behind}
use Rattle.nifforan.proofs.map.Map.append_all.Goals as goal

pub returns-then-not-is_above-clause-appends : goal.returns-then-not-is_above-clause-appends
returns-then-not-is_above-clause-appends g c =
    let items = c.loop-key.yielded in
    let pair : ℕ × ℕ = (c.in-Some.key, c.in-Some.value) in
    let above : is_above c.in-Some.key c.loop-key.last ≡ false = sym c.if-not-is_above.ensures.above in
    let Behind : PairList → Type 0 = λ ps. IsUnsortedBehind ps c.unsorted.result in
    let fault : Behind (c.loop-key.self.pairs ++ c.loop-key.run) = rw c.as_slice.ensures at c.unsorted.ensures.fault in
    unsorted_fault g.U.IntoIterator.into_iter_gives g.U.IntoIter.Iterator.next_gives c.args.pairs c.into_iter-left.result c.loop-key.left
    c.next.new.self items c.unsorted.new.self.pairs pair c.unsorted.result
    c.into_iter-left.ensures.into_iter_gives c.loop-key.yielded_by c.in-Some.ensures.steps c.loop-key.invariant.4
    (none_behind c.loop-key.last c.in-Some.key c.in-Some.value items c.loop-key.invariant.3 above)
    (subst Behind c.loop-key.invariant.2 fault)

pub returns-then-not-is_above-clause-cut : goal.returns-then-not-is_above-clause-cut
returns-then-not-is_above-clause-cut g c =
    let Cuts : PairList → Type 0 = λ ps. CutsBehind ps c.unsorted.new.self c.unsorted.result in
    let cut : Cuts (c.loop-key.self.pairs ++ c.loop-key.run) = rw c.as_slice.ensures at c.unsorted.ensures.cut in
    cuts_behind g.U.IntoIterator.into_iter_gives g.U.IntoIter.Iterator.next_gives c.args.pairs c.unsorted.new.self c.unsorted.result
    c.into_iter-left.result c.loop-key.left c.loop-key.yielded c.into_iter-left.ensures.into_iter_gives c.loop-key.yielded_by
    (subst Cuts c.loop-key.invariant.2 cut)

pub loop-key-preserved : goal.loop-key-preserved
loop-key-preserved g c =
    let items = c.loop-key.yielded in
    let key = c.in-Some.key in
    let value = c.in-Some.value in
    let pair : ℕ × ℕ = (key, value) in
    let last = c.loop-key.invariant.3 in
    let rise = c.loop-key.invariant.4 in
    let above : is_above key c.loop-key.last ≡ true = sym c.if-not-is_above.ensures.above in (
      search rules,
      search rules,
      c.in_default-keep.ensures.kept
          ∙ (sym (append_assoc c.loop-key.self.pairs c.loop-key.run (pair ∷ []))
          ∙ ap (λ (l : PairList). l ++ pair ∷ []) c.loop-key.invariant.2),
      last_with c.loop-key.last key value items last rise above c.is_above.ensures.key,
      rise_with c.loop-key.last key value items last rise above c.is_above.ensures.key,
      c.keep.ensures.config ∙ c.loop-key.invariant.5,
    )

pub returns-clause-appends : goal.returns-clause-appends
returns-clause-appends g c =
    let drains : Drains g.U.IntoIter.Iterator.next_gives c.into_iter-left.result c.loop-key.yielded = search rules in
    let puts : c.append_each.new.self.pairs ≡ c.loop-key.self.pairs ++ c.loop-key.run = rw c.as_slice-2.ensures at
    c.in_default-append_each.ensures.puts in
    has_all g.U.IntoIterator.into_iter_gives g.U.IntoIter.Iterator.next_gives c.args.pairs c.into_iter-left.result c.loop-key.yielded
    c.tend_edge.new.self.pairs
    c.into_iter-left.ensures.into_iter_gives drains c.loop-key.invariant.4 (c.tend_edge.ensures.pairs ∙ (puts ∙ c.loop-key.invariant.2))
