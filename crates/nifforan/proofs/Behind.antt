-- The previous pair up to a key, found leaf by leaf from the one that is held, and what is left of a range before it.
use Rattle.std.proofs.Common.{◌≡◌, ℕ, ◌+◌, ◌*◌, ◌<◌, ◌≤◌, Bool, true, false, cond, ltb, [], ◌∷◌, ◌++◌, length, Option, Some, None, refl, sym, ◌∙◌, ap, subst, append_assoc, append-nil, ⊎_elim, arith}
use Rattle.std.specs.Prelude.{nat_le, min, IfSome, IfNone}
use Rattle.std.specs.Iterator.{YieldsLast, MakesProgress, item_count}
use Rattle.std.proofs.lemmas.Bool.{cases_lt}
use Rattle.std.proofs.lemmas.Bool.Decides.{nat_tests}
use Rattle.std.proofs.lemmas.List.{append_cancel_right, length-append}
use Rattle.std.proofs.lemmas.List.Elements.{filter-append}
use Rattle.bw_keys.specs.Ranges.{key_count, end_of}
use Rattle.bw_delta.specs.Entries.{rises, from, below, last_entry, last_below, last_upto}
use Rattle.bw_chain.specs.Passing.Heads.{EndsWith}
use Rattle.bw_chain.proofs.Lasts.{last_from_low, last_below-bound, below_low}
use Rattle.bw_law.specs.Tables.{TableValue, Lawful}
use Rattle.bw_table.specs.Orders.{HasNoKeyWithin, IsPreviousAt, LeafValue}
use Rattle.bw_table.proofs.Orders.{previous_in_leaf, none_up_in_leaf}
use Rattle.nifforan.specs.Maps.{PairList, pairs_of, within}
use Rattle.nifforan.specs.Reading.{IsLeafUnder, from_start, end_before}
use Rattle.nifforan.proofs.Neighbours.{within_none, previous_is_last}
use Rattle.nifforan.proofs.Listing.{pairs_are}

-- Lists.

-- a list without a last entry is empty, and one that ends with an entry has it as its last
no_last : (es : PairList) → last_entry es ≡ None → es ≡ []
no_last [] none = refl
no_last (d ∷ es) none = cc

last_of_end : (pair : ℕ × ℕ) (es : PairList) → last_entry (es ++ pair ∷ []) ≡ Some pair
last_of_end pair [] = refl
last_of_end pair (d ∷ es) = rw (last_of_end pair es) refl

-- the last entry below an end, and those before it
below_step : (low past end : ℕ) (pair : ℕ × ℕ) (es : PairList) → rises low past es ≡ true → last_below end es ≡ Some pair → below end es ≡ below pair.0 es ++ pair ∷ []
below_step low past end pair [] rise last = cc
below_step low past end pair (d ∷ es) rise last = ⊎_elim
    (λ (under : d.0 < end). by_last under (λ q is. below_step (d.0 + 1) past end q es rest_rises is) (last_below end es) refl)
    (λ (over : end ≤ d.0). let none = below_low (d.0 + 1) past end es rest_rises (omega (arith, over)) in grind (arith, nat_tests))
    (cases_lt d.0 end)
  where
    rest_rises : rises (d.0 + 1) past es ≡ true
    rest_rises = grind (arith, nat_tests)

    by_last : d.0 < end → ((q : ℕ × ℕ) → last_below end es ≡ Some q → below end es ≡ below q.0 es ++ q ∷ []) → (found : Option (ℕ × ℕ)) → last_below end es ≡ found → below end (d ∷ es) ≡ below pair.0 (d ∷ es) ++ pair ∷ []
    by_last under rest None is =
        let none = no_last (below end es) is in
        let its : d ≡ pair = grind (arith, nat_tests) in
        let before = below_low (d.0 + 1) past d.0 es rest_rises (omega arith) in
        subst (λ (p : ℕ × ℕ). below end (d ∷ es) ≡ below p.0 (d ∷ es) ++ p ∷ []) its (grind (arith, nat_tests))
    by_last under rest (Some q) is =
        let its : q ≡ pair = grind (arith, nat_tests) in
        let later = last_from_low (d.0 + 1) past end q es rest_rises is in
        let before = rest q is in
        subst (λ (p : ℕ × ℕ). below end (d ∷ es) ≡ below p.0 (d ∷ es) ++ p ∷ []) its (grind (arith, nat_tests))

-- a list ends with none
pub ends_with_none : (es rest : PairList) → rest ≡ [] → EndsWith es rest
ends_with_none es [] none = (es, sym (append-nil es))
ends_with_none es (d ∷ rest) none = absurd (cc)

-- what lies between two keys is what lies below the second, from the first on
within_below : (low end : ℕ) (es : PairList) → within low end es ≡ from low (below end es)
within_below low end [] = refl
within_below low end (d ∷ es) = grind (arith, nat_tests, within_below low end es)

-- the last pair below an end is the last of those in a range, if it lies in it
within_last : (a b low end : ℕ) (pair : ℕ × ℕ) (es : PairList) → rises a b es ≡ true → last_below end es ≡ Some pair → within low end es ≡ within low pair.0 es ++ from low (pair ∷ [])
within_last a b low end pair es rise last =
    within_below low end es ∙ (ap (from low) (below_step a b end pair es rise last) ∙ (filter-append (λ e. nat_le low e.0) (below pair.0 es) (pair ∷ []) ∙ ap (λ (front : PairList). front ++ from low (pair ∷ [])) (sym (within_below low pair.0 es))))

pub within_last_in : (a b low end : ℕ) (pair : ℕ × ℕ) (es : PairList) → rises a b es ≡ true → last_below end es ≡ Some pair → low ≤ pair.0 → within low end es ≡ within low pair.0 es ++ pair ∷ []
within_last_in a b low end pair es rise last here =
    let one : from low (pair ∷ []) ≡ pair ∷ [] = grind (arith, nat_tests) in within_last a b low end pair es rise last ∙ ap (λ (back : PairList). within low pair.0 es ++ back) one

pub within_last_out : (a b low end : ℕ) (pair : ℕ × ℕ) (es : PairList) → rises a b es ≡ true → last_below end es ≡ Some pair → pair.0 < low → within low end es ≡ []
within_last_out a b low end pair es rise last out =
    let none : from low (pair ∷ []) ≡ [] = grind (arith, nat_tests) in
    let before : within low pair.0 es ≡ [] = within_none low pair.0 es (omega (arith, out)) in
    within_last a b low end pair es rise last ∙ (ap (λ (back : PairList). within low pair.0 es ++ back) none ∙ ap (λ (front : PairList). front ++ []) before)

pub within_no_last : (low end : ℕ) (es : PairList) → last_below end es ≡ None → within low end es ≡ []
within_no_last low end es none = within_below low end es ∙ ap (from low) (no_last (below end es) none)

-- Pairs that are lent.

module _ (low past end : ℕ) (es : PairList) (rise : rises low past es ≡ true) (pair : ℕ × ℕ) (rest : PairList) (lent : EndsWith (below end es) (rest ++ pair ∷ [])) where
  joined : below end es ≡ (lent.0 ++ rest) ++ pair ∷ []
  joined = lent.1 ∙ sym (append_assoc lent.0 rest (pair ∷ []))

  -- the last of them is the leaf's last one
  pub lent_is_last : last_below end es ≡ Some pair
  lent_is_last = ap last_entry joined ∙ last_of_end pair (lent.0 ++ rest)

  -- the others lie before it
  pub rest_is_under : EndsWith (below pair.0 es) rest
  rest_is_under = (lent.0, append_cancel_right (below pair.0 es) (lent.0 ++ rest) (pair ∷ []) (sym (below_step low past end pair es rise lent_is_last) ∙ joined))

-- Leaves.

-- no key of the map lies between the key and the one up to which the search goes on, for which the leaf is held
pub record IsSearchBack (table : TableValue) (leaf : LeafValue) (key upto : ℕ) : Type 0 where
  pub earlier : upto ≤ key
  pub none : HasNoKeyWithin table (upto + 1) (key + 1)
  pub held : IsLeafUnder table leaf (upto + 1)

-- how many keys are left, each twice, and one more where the leaf begins after the last of them
abbrev pub back_left : LeafValue → ℕ → ℕ
back_left leaf upto = upto * 2 + cond (ltb upto leaf.low) 1 0

module _ (table : TableValue) (leaf : LeafValue) (key upto : ℕ) (search : IsSearchBack table leaf key upto) where
  pub previous_is_here : (pair : ℕ × ℕ) → last_upto upto leaf.pairs ≡ Some pair → IsPreviousAt table key pair
  previous_is_here pair last = previous_in_leaf table leaf.low (end_of leaf.high) leaf.pairs search.held.pairs key upto search.earlier (omega (arith, search.held.ends)) search.none pair last

  none_from_low : last_upto upto leaf.pairs ≡ None → HasNoKeyWithin table leaf.low (key + 1)
  none_from_low last = none_up_in_leaf table leaf.low (end_of leaf.high) leaf.pairs search.held.pairs key upto search.earlier (omega (arith, search.held.ends)) search.none last

  pub none_past : (before next : ℕ) → before + 1 ≡ leaf.low → next ≡ min upto before → last_upto upto leaf.pairs ≡ None → HasNoKeyWithin table (next + 1) (key + 1)
  none_past before next low is last k value above below maps = ⊎_elim
      (λ (past : upto < k). search.none k value (omega (arith, past)) below maps)
      (λ (held : k ≤ upto). none_from_low last k value (omega (arith, low, is, held, above)) below maps)
      (cases_lt upto k)

  pub none_at_all : leaf.low ≡ 0 → last_upto upto leaf.pairs ≡ None → HasNoKeyWithin table 0 (key + 1)
  none_at_all is last k value above below maps = none_from_low last k value (omega (arith, is)) below maps

  -- the leaf serves for lesser keys too
  pub held_under : (end : ℕ) → end ≤ upto + 1 → IsLeafUnder table leaf end
  held_under end le = record { pairs = search.held.pairs; ends = omega (arith, search.held.ends, le) }

-- a search begins at the key
pub back_at_once : (table : TableValue) (leaf : LeafValue) (key : ℕ) → IsLeafUnder table leaf (key + 1) → IsSearchBack table leaf key key
back_at_once table leaf key held = record { earlier = omega arith; none = λ k value above below maps. absurd (omega (arith, above, below)); held = held }

-- the last pair that is lent is the previous one, the leaf serves for those before it, and they are lent
module _ (table : TableValue) (leaf : LeafValue) (key upto : ℕ) (search : IsSearchBack table leaf key upto) (pair : ℕ × ℕ) (rest : PairList) (lent : EndsWith (below (upto + 1) leaf.pairs) (rest ++ pair ∷ [])) where
  lent_last : last_upto upto leaf.pairs ≡ Some pair
  lent_last = lent_is_last leaf.low (end_of leaf.high) (upto + 1) leaf.pairs search.held.pairs.rise pair rest lent

  pub lent_is_previous : IsPreviousAt table key pair
  lent_is_previous = previous_is_here table leaf key upto search pair lent_last

  pub lent_is_under : IsLeafUnder table leaf pair.0
  lent_is_under = let less = last_below-bound (upto + 1) pair leaf.pairs lent_last in held_under table leaf key upto search pair.0 (omega (arith, less))

  pub rest_is_before : EndsWith (below pair.0 leaf.pairs) rest
  rest_is_before = rest_is_under leaf.low (end_of leaf.high) (upto + 1) leaf.pairs search.held.pairs.rise pair rest lent

-- Ranges.

module _ (table : TableValue) (law : Lawful table) where
  -- the last pair below an end is taken, if it lies at the start or past it, and those before it are left
  pub last_is_taken : (start end : ℕ) (found taken : Option (ℕ × ℕ)) → found ≡ last_below end (pairs_of table.slots) → taken ≡ from_start start found
      → YieldsLast (λ (left : PairList). left) (within start end (pairs_of table.slots)) taken (within start (end_before taken) (pairs_of table.slots))
  last_is_taken start end None taken is its = subst (λ (o : Option (ℕ × ℕ)). YieldsLast (λ (left : PairList). left) (within start end es) o (within start (end_before o) es)) (sym its)
      (within_no_last start end es (sym is), within_none start 0 es (omega arith))
    where
      es : PairList
      es = pairs_of table.slots
  last_is_taken start end (Some pair) taken is its = subst (λ (o : Option (ℕ × ℕ)). YieldsLast (λ (left : PairList). left) (within start end es) o (within start (end_before o) es)) (sym its) (by_test (nat_le start pair.0) refl)
    where
      es : PairList
      es = pairs_of table.slots

      rise : rises 0 key_count es ≡ true
      rise = (pairs_are table law).rise

      by_test : (test : Bool) → nat_le start pair.0 ≡ test → YieldsLast (λ (left : PairList). left) (within start end es) (cond test (Some pair) None) (within start (end_before (cond test (Some pair) None)) es)
      by_test true here = within_last_in 0 key_count start end pair es rise (sym is) (grind (arith, nat_tests, here))
      by_test false out = (within_last_out 0 key_count start end pair es rise (sym is) (grind (arith, nat_tests, out)), within_none start 0 es (omega arith))

  -- so a range goes on from the back
  pub steps_back : (start end upto less : ℕ) (found taken : Option (ℕ × ℕ)) (left : PairList) → upto + 1 ≡ end → within start end (pairs_of table.slots) ≡ left
      → IfSome found (IsPreviousAt table upto) → IfNone found (HasNoKeyWithin table 0 (upto + 1)) → taken ≡ from_start start found → less ≡ end_before taken
      → YieldsLast (λ (left : PairList). left) left taken (within start less (pairs_of table.slots))
  steps_back start end upto less found taken left is view previous none its ends =
      let es = pairs_of table.slots in
      let step = last_is_taken start (upto + 1) found taken (previous_is_last table law upto found previous none) its in
      subst (λ (s : PairList). YieldsLast (λ (left : PairList). left) s taken (within start less es)) (ap (λ (n : ℕ). within start n es) is ∙ view)
      (subst (λ (n : ℕ). YieldsLast (λ (left : PairList). left) (within start (upto + 1) es) taken (within start n es)) (sym ends) step)

-- an iterator that yields the last of a list and leaves the others comes to its end
pub yields_back_progress : (can : PairList → Type 0) → ((left : PairList) → can left) → (old : PairList) (taken : Option (ℕ × ℕ)) (new : PairList) → YieldsLast (λ (left : PairList). left) old taken new
    → MakesProgress can (item_count (λ (left : PairList). left)) old taken new
yields_back_progress can each old None new yields = record { on = λ finite. tt; keeps = tt; rests = λ finite. finite }
yields_back_progress can each old (Some pair) new yields =
    record { on = λ finite. (each new, finite, omega (arith, ap length yields ∙ length-append new (pair ∷ []))); keeps = each new; rests = λ finite. tt }
