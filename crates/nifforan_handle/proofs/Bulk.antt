-- Many pairs, set one after the other or made a map of.
use Rattle.std.proofs.Common.{◌≡◌, ℕ, ◌+◌, ◌<◌, List, [], ◌∷◌, ◌++◌, length, take, slice_index_or, sym, ap, subst, ◌∙◌, append_assoc, append-nil}
use Rattle.std.specs.Prelude.{Result, Ok, Err, IfErr, map}
use Rattle.std.specs.Iterator.{Yields, YieldsFirst, Drains}
use Rattle.std.proofs.lemmas.List.{take_more, take_at, get_or-map, length-map, length_push}
use Rattle.bw_delta.specs.Entries.{put, rises}
use Rattle.bw_keys.specs.Ranges.{key_count}
use Rattle.bw_keys.specs.declared.config.Config.{Config}
use Rattle.nifforan.specs.Calls.{set_all}
use Rattle.nifforan.specs.Maps.{PairList}
use Rattle.nifforan.specs.Rising.{HasAllOf, StopsRising, IsSortedFault}
use Rattle.nifforan.specs.declared.sorted.SortedFault.{SortedFault}
use Rattle.nifforan.specs.declared.sorted.SortedFault.TheVariants as faults
use Rattle.nifforan.proofs.Fills.{set_all-append}
use Rattle.nifforan_handle.specs.Filling.{StopRisingAt, WhyNotSorted}
use Rattle.nifforan_handle.specs.Reading.{are_pairs}
use Rattle.nifforan_handle.specs.declared.answer.Pair.{Pair}

more_pairs : (ps : List Pair) (n : ℕ) (d : Pair) → n < length ps
    → take (n + 1) (are_pairs ps) ≡ take n (are_pairs ps) ++ ((slice_index_or ps n d).key, (slice_index_or ps n d).value) ∷ []
more_pairs ps n d inside =
    take_more (are_pairs ps) n (d.key, d.value) (subst (λ (k : ℕ). n < k) (sym (length-map ps (λ (p : Pair). (p.key, p.value)))) inside)
    ∙ ap (λ (p : ℕ × ℕ). take n (are_pairs ps) ++ p ∷ []) (get_or-map (λ (p : Pair). (p.key, p.value)) ps n d (d.key, d.value) inside)

-- one more of them is set
pub set_next : (ps : List Pair) (n : ℕ) (d : Pair) (old now new : PairList) → n < length ps
    → now ≡ set_all (take n (are_pairs ps)) old → new ≡ put (slice_index_or ps n d).key (slice_index_or ps n d).value now
    → new ≡ set_all (take (n + 1) (are_pairs ps)) old
set_next ps n d old now new inside so_far next =
    let p : Pair = slice_index_or ps n d in
    let set : new ≡ put p.key p.value (set_all (take n (are_pairs ps)) old) = next ∙ ap (put p.key p.value) so_far in
    set
    ∙ (sym (set_all-append (p.key, p.value) (take n (are_pairs ps)) old)
    ∙ sym (ap (λ (l : PairList). set_all l old) (more_pairs ps n d inside)))

-- what an iterator has left is what it yields, and what it has left then
yields_rest : {S : Type 0} (left : S → PairList) (s t : S) (items : PairList) → Yields (YieldsFirst left) s items t
    → left s ≡ items ++ left t
yields_rest left s t [] yields = ap left yields
yields_rest left s t (item ∷ items) yields =
    yields.1 ∙ ap (λ (l : PairList). item ∷ l) (yields_rest left yields.0 t items yields.2)

drained : {S : Type 0} (left : S → PairList) (s : S) (items : PairList) → Drains (YieldsFirst left) s items → items ≡ left s
drained left s items drains =
    let none_left : items ++ left drains.1.0 ≡ items = ap (λ (l : PairList). items ++ l) drains.1.2.0 ∙ append-nil items in
    sym (yields_rest left s drains.1.0 items drains.1.1 ∙ none_left)

-- the map has what the iterator had at first
pub has_array : {U S : Type 0} (becomes : U → S → Type 0) (left : S → PairList) (pairs : U) (all made : PairList)
    → ((s : S) → becomes pairs s → left s ≡ all) → HasAllOf becomes (YieldsFirst left) pairs made → made ≡ all
has_array becomes left pairs all made starts has = drained left has.start made has.drains ∙ starts has.start has.begins

-- the first of all items don't rise any more where the iterator stops rising
stops : {U S : Type 0} (becomes : U → S → Type 0) (left : S → PairList) (pairs : U) (all : PairList) (n : ℕ)
    → ((s : S) → becomes pairs s → left s ≡ all) → StopsRising becomes (YieldsFirst left) pairs n → StopRisingAt n all
stops becomes left pairs all n starts it =
    let rising = it.rising in
    let with_next : PairList = rising ++ it.next ∷ [] in
    let whole : all ≡ with_next ++ left it.rest =
    sym (starts it.start it.begins) ∙ yields_rest left it.start it.rest with_next it.yields in
    let after : all ≡ rising ++ (it.next ∷ left it.rest) = whole ∙ append_assoc rising (it.next ∷ []) (left it.rest) in
    let many : length with_next ≡ n + 1 = length_push rising it.next ∙ ap (λ (k : ℕ). k + 1) (sym it.many) in
    let first : take n all ≡ rising = ap (take n) after ∙ take_at rising (it.next ∷ left it.rest) n (sym it.many) in
    let more : take (n + 1) all ≡ with_next = ap (take (n + 1)) whole ∙ take_at with_next (left it.rest) (n + 1) many in
    record {
      rise = ap (rises 0 key_count) first ∙ it.rise;
      not_with_next = ap (rises 0 key_count) more ∙ it.not_with_next;
    }

-- the same of why there is no map
module _ {U S : Type 0} (becomes : U → S → Type 0) (left : S → PairList) (config : Config) (pairs : U) (all : PairList)
    (starts : (s : S) → becomes pairs s → left s ≡ all) where
  why_not : (fault : SortedFault) → IsSortedFault becomes (YieldsFirst left) config pairs fault → WhyNotSorted config all fault
  why_not (faults.New fault) is = is
  why_not (faults.Unsorted n) is = (is.0, stops becomes left pairs all n starts is.1)
  why_not (faults.Put fault) is = is.0

  pub why_no_map : {M : Type 0} (result : Result M SortedFault)
      → IfErr result (IsSortedFault becomes (YieldsFirst left) config pairs) → IfErr result (WhyNotSorted config all)
  why_no_map (Ok map) is = tt
  why_no_map (Err fault) is = why_not fault is
