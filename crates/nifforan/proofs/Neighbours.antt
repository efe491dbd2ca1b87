-- The first pair from a key on, the last one up to it, and what is left of a range.
use Rattle.std.proofs.Common.{◌≡◌, ◌≢◌, ℕ, ◌+◌, ◌<◌, ◌≤◌, Bool, true, false, cond, [], ◌∷◌, length, Option, Some, None, refl, sym, ◌∙◌, ap, subst, ⊎_elim, arith}
use Rattle.std.specs.Prelude.{nat_lt, IfSome, IfNone}
use Rattle.std.specs.Iterator.{YieldsFirst, MakesProgress, item_count}
use Rattle.std.proofs.lemmas.Bool.{cases_eq, cases_lt}
use Rattle.std.proofs.lemmas.Bool.Decides.{nat_tests}
use Rattle.bw_keys.specs.Ranges.{key_count}
use Rattle.bw_delta.specs.Entries.{at, rises, first_entry, last_entry, first_from, last_below, last_upto}
use Rattle.bw_chain.proofs.Firsts.{at-before, from_zero}
use Rattle.bw_delta.proofs.Rises.{below_all}
use Rattle.bw_law.specs.Tables.{TableValue, Lawful, Maps}
use Rattle.bw_table.specs.Orders.{HasNoKeyWithin, IsNextAt, IsPreviousAt, LeafValue, last_key}
use Rattle.nifforan.specs.Maps.{PairList, pairs_of, within}
use Rattle.nifforan.specs.Reading.{IsLeafFor, below_end, end_past}
use Rattle.nifforan.proofs.Listing.{pairs_are}

-- Lists.

none_is_some : (e : ℕ × ℕ) (es : PairList) (k value : ℕ) → at k es ≡ None → at k es ≡ Some value → ⊥
none_is_some e es k value none some = cc (none, some)

-- the entry at the key, where none comes before it
first_is : (low end key : ℕ) (pair : ℕ × ℕ) (es : PairList) → rises low end es ≡ true → key ≤ pair.0 → at pair.0 es ≡ Some pair.1 → ((k : ℕ) → key ≤ k → k < pair.0 → at k es ≡ None) → first_from key es ≡ Some pair
first_is low end key pair [] rise from there none = cc
first_is low end key pair (d ∷ es) rise from there none = ⊎_elim
    (λ (before : d.0 < key).
    let rest = first_is (d.0 + 1) end key pair es (grind (arith, nat_tests)) from (grind (arith, nat_tests)) (λ k from_k below. let n = none k from_k below in grind (arith, nat_tests)) in grind (arith, nat_tests))
    (λ (not_before : key ≤ d.0). ⊎_elim
    (λ (less : d.0 < pair.0). let n = none d.0 not_before less in grind (arith, nat_tests))
    (λ (more : pair.0 ≤ d.0). ⊎_elim
    (λ (same : d.0 ≡ pair.0). grind (arith, nat_tests))
    (λ (other : d.0 ≢ pair.0). grind (arith, nat_tests, at-before (d.0 + 1) end pair.0 es))
    (cases_eq d.0 pair.0))
    (cases_lt d.0 pair.0))
    (cases_lt d.0 key)

first_is_none : (low end key : ℕ) (es : PairList) → rises low end es ≡ true → ((k : ℕ) → key ≤ k → k < end → at k es ≡ None) → first_from key es ≡ None
first_is_none low end key [] rise none = refl
first_is_none low end key (d ∷ es) rise none = ⊎_elim
    (λ (before : d.0 < key).
    let rest = first_is_none (d.0 + 1) end key es (grind (arith, nat_tests)) (λ k from_k below. let n = none k from_k below in grind (arith, nat_tests)) in grind (arith, nat_tests))
    (λ (not_before : key ≤ d.0). let below : d.0 < end = grind (arith, nat_tests) in let n = none d.0 not_before below in grind (arith, nat_tests))
    (cases_lt d.0 key)

last_is_none : (end : ℕ) (es : PairList) → ((k : ℕ) → k < end → at k es ≡ None) → last_below end es ≡ None
last_is_none end [] none = refl
last_is_none end (d ∷ es) none = ⊎_elim
    (λ (below : d.0 < end). let n = none d.0 below in grind (arith, nat_tests))
    (λ (past : end ≤ d.0). let rest = last_is_none end es (λ k less. let n = none k less in grind (arith, nat_tests)) in grind (arith, nat_tests))
    (cases_lt d.0 end)

last_is : (low past end : ℕ) (pair : ℕ × ℕ) (es : PairList) → rises low past es ≡ true → pair.0 < end → at pair.0 es ≡ Some pair.1 → ((k : ℕ) → pair.0 + 1 ≤ k → k < end → at k es ≡ None) → last_below end es ≡ Some pair
last_is low past end pair [] rise under there none = cc
last_is low past end pair (d ∷ es) rise under there none = ⊎_elim
    (λ (same : d.0 ≡ pair.0).
    let rest = last_is_none end es (λ k less. ⊎_elim
    (λ (before : k < pair.0 + 1). at-before (d.0 + 1) past k es (grind (arith, nat_tests)) (omega (arith, before, same)))
    (λ (after : pair.0 + 1 ≤ k). let n = none k after less in grind (arith, nat_tests))
    (cases_lt k (pair.0 + 1)))
    in grind (arith, nat_tests))
    (λ (other : d.0 ≢ pair.0).
    let rest = last_is (d.0 + 1) past end pair es (grind (arith, nat_tests)) under (grind (arith, nat_tests)) (λ k after less. ⊎_elim
    (λ (its : d.0 ≡ k). at-before (d.0 + 1) past k es (grind (arith, nat_tests)) (omega (arith, its)))
    (λ (not_its : d.0 ≢ k). let n = none k after less in grind (arith, nat_tests))
    (cases_eq d.0 k))
    in grind (arith, nat_tests, at-before (d.0 + 1) past pair.0 es))
    (cases_eq d.0 pair.0)

-- what lies between two keys is empty where they don't lie so
pub within_none : (low end : ℕ) (es : PairList) → end ≤ low → within low end es ≡ []
within_none low end [] le = refl
within_none low end (d ∷ es) le = grind (arith, nat_tests, within_none low end es)

within_past : (a b low end : ℕ) (es : PairList) → rises a b es ≡ true → end ≤ a → within low end es ≡ []
within_past a b low end [] rise le = refl
within_past a b low end (d ∷ es) rise le = grind (arith, nat_tests, within_past (d.0 + 1) b low end es)

within_later : (a b low more end : ℕ) (es : PairList) → rises a b es ≡ true → low ≤ a → more ≤ a → within low end es ≡ within more end es
within_later a b low more end [] rise le also = refl
within_later a b low more end (d ∷ es) rise le also = grind (arith, nat_tests, within_later (d.0 + 1) b low more end es)

-- the first pair from a key on is the first of those in a range, if it lies in it
pub within_first : (a b low end : ℕ) (pair : ℕ × ℕ) (es : PairList) → rises a b es ≡ true → first_from low es ≡ Some pair → pair.0 < end → within low end es ≡ pair ∷ within (pair.0 + 1) end es
within_first a b low end pair [] rise first under = cc
within_first a b low end pair (d ∷ es) rise first under = ⊎_elim
    (λ (before : d.0 < low).
    let rest = within_first (d.0 + 1) b low end pair es (grind (arith, nat_tests)) (grind (arith, nat_tests)) under in
    let past = first_past low pair es (grind (arith, nat_tests)) in grind (arith, nat_tests))
    (λ (here : low ≤ d.0).
    let its : d ≡ pair = grind (arith, nat_tests) in
    let rest = within_later (d.0 + 1) b low (d.0 + 1) end es (grind (arith, nat_tests)) (omega (arith, here)) (omega arith) in
    subst (λ (p : ℕ × ℕ). within low end (d ∷ es) ≡ p ∷ within (p.0 + 1) end (d ∷ es)) its (inside d es here (subst (λ (p : ℕ × ℕ). p.0 < end) (sym its) under) rest))
    (cases_lt d.0 low)
  where
    first_past : (low : ℕ) (pair : ℕ × ℕ) (es : PairList) → first_from low es ≡ Some pair → low ≤ pair.0
    first_past low pair [] first = cc
    first_past low pair (d ∷ es) first = grind (arith, nat_tests, first_past low pair es)

    inside : (d : ℕ × ℕ) (es : PairList) → low ≤ d.0 → d.0 < end → within low end es ≡ within (d.0 + 1) end es → within low end (d ∷ es) ≡ d ∷ within (d.0 + 1) end (d ∷ es)
    inside d es here under rest = grind (arith, nat_tests)

pub within_ends : (a b low end : ℕ) (es : PairList) → rises a b es ≡ true → ((pair : ℕ × ℕ) → first_from low es ≡ Some pair → end ≤ pair.0) → within low end es ≡ []
within_ends a b low end [] rise past = refl
within_ends a b low end (d ∷ es) rise past = ⊎_elim
    (λ (before : d.0 < low).
    let rest = within_ends (d.0 + 1) b low end es (grind (arith, nat_tests)) (λ pair first. past pair (grind (arith, nat_tests))) in grind (arith, nat_tests))
    (λ (here : low ≤ d.0).
    let over : end ≤ d.0 = past d (grind (arith, nat_tests)) in
    grind (arith, nat_tests, within_past (d.0 + 1) b low end es))
    (cases_lt d.0 low)

within_same : (low end : ℕ) (es : PairList) → rises low end es ≡ true → within 0 end es ≡ es
within_same low end [] rise = refl
within_same low end (d ∷ es) rise = grind (arith, nat_tests, within_same (d.0 + 1) end es)

-- no key lies past the end
within_beyond : (a b low end : ℕ) (es : PairList) → rises a b es ≡ true → b ≤ low → within low end es ≡ []
within_beyond a b low end [] rise le = refl
within_beyond a b low end (d ∷ es) rise le = grind (arith, nat_tests, within_beyond (d.0 + 1) b low end es)

-- Tables.

module _ (table : TableValue) (law : Lawful table) where
  absent : (low end : ℕ) → HasNoKeyWithin table low end → (k : ℕ) → low ≤ k → k < end → at k (pairs_of table.slots) ≡ None
  absent low end none k from below = by_option (at k (pairs_of table.slots)) refl
    where
      by_option : (found : Option ℕ) → at k (pairs_of table.slots) ≡ found → at k (pairs_of table.slots) ≡ None
      by_option None is = is
      by_option (Some value) is = absurd (none k value from below (((pairs_are table law).same k value).0 is))

  there : (pair : ℕ × ℕ) → Maps table.slots pair.0 pair.1 → at pair.0 (pairs_of table.slots) ≡ Some pair.1
  there pair maps = ((pairs_are table law).same pair.0 pair.1).1 maps

  pub next_is_first : (key : ℕ) (result : Option (ℕ × ℕ)) → IfSome result (IsNextAt table key) → IfNone result (HasNoKeyWithin table key key_count) → result ≡ first_from key (pairs_of table.slots)
  next_is_first key None next none = sym (first_is_none 0 key_count key (pairs_of table.slots) (pairs_are table law).rise (absent key key_count none))
  next_is_first key (Some pair) next none =
      sym (first_is 0 key_count key pair (pairs_of table.slots) (pairs_are table law).rise next.at_or_past (there pair next.there) (absent key pair.0 next.none_between))

  pub previous_is_last : (key : ℕ) (result : Option (ℕ × ℕ)) → IfSome result (IsPreviousAt table key) → IfNone result (HasNoKeyWithin table 0 (key + 1)) → result ≡ last_upto key (pairs_of table.slots)
  previous_is_last key None previous none = sym (last_is_none (key + 1) (pairs_of table.slots) (λ k below. absent 0 (key + 1) none k (omega arith) below))
  previous_is_last key (Some pair) previous none =
      sym (last_is 0 key_count (key + 1) pair (pairs_of table.slots) (pairs_are table law).rise (omega (arith, previous.at_or_before)) (there pair previous.there) (absent (pair.0 + 1) (key + 1) previous.none_between))

  pub first_is_head : (result : Option (ℕ × ℕ)) → IfSome result (IsNextAt table 0) → IfNone result (HasNoKeyWithin table 0 key_count) → result ≡ first_entry (pairs_of table.slots)
  first_is_head result first none = next_is_first 0 result first none ∙ ap first_entry (from_zero (pairs_of table.slots))

  -- every key lies below the end of the keys
  pub last_is_end : (result : Option (ℕ × ℕ)) → IfSome result (IsPreviousAt table last_key) → IfNone result (HasNoKeyWithin table 0 key_count) → result ≡ last_entry (pairs_of table.slots)
  last_is_end result last none = previous_is_last last_key result last none ∙ ap last_entry (below_all 0 key_count (pairs_of table.slots) (pairs_are table law).rise)

  -- all pairs lie among the keys
  pub within_all : within 0 key_count (pairs_of table.slots) ≡ pairs_of table.slots
  within_all = within_same 0 key_count (pairs_of table.slots) (pairs_are table law).rise

  -- nothing is left past all keys
  pub none_left : (end : ℕ) → within key_count end (pairs_of table.slots) ≡ []
  none_left end = within_beyond 0 key_count key_count end (pairs_of table.slots) (pairs_are table law).rise (omega arith)

  -- the first pair from a key on is taken, if it lies below the end, and those past it are left
  pub first_is_taken : (from end : ℕ) (found taken : Option (ℕ × ℕ)) → found ≡ first_from from (pairs_of table.slots) → taken ≡ below_end end found
      → YieldsFirst (λ (left : PairList). left) (within from end (pairs_of table.slots)) taken (within (end_past taken) end (pairs_of table.slots))
  first_is_taken from end None taken is below = subst (λ (o : Option (ℕ × ℕ)). YieldsFirst (λ (left : PairList). left) (within from end es) o (within (end_past o) end es)) (sym below)
      (within_ends 0 key_count from end es rise (λ pair first. absurd (cc (is, first))), none_left end)
    where
      es : PairList
      es = pairs_of table.slots

      rise : rises 0 key_count es ≡ true
      rise = (pairs_are table law).rise
  first_is_taken from end (Some pair) taken is below = subst (λ (o : Option (ℕ × ℕ)). YieldsFirst (λ (left : PairList). left) (within from end es) o (within (end_past o) end es)) (sym below) (by_test (nat_lt pair.0 end) refl)
    where
      es : PairList
      es = pairs_of table.slots

      rise : rises 0 key_count es ≡ true
      rise = (pairs_are table law).rise

      by_test : (test : Bool) → nat_lt pair.0 end ≡ test → YieldsFirst (λ (left : PairList). left) (within from end es) (cond test (Some pair) None) (within (end_past (cond test (Some pair) None)) end es)
      by_test true less = within_first 0 key_count from end pair es rise (sym is) (grind (arith, nat_tests, less))
      by_test false more = (within_ends 0 key_count from end es rise (λ other first. let same : pair ≡ other = cc (is, first) in subst (λ (p : ℕ × ℕ). end ≤ p.0) same (grind (arith, nat_tests, more))), none_left end)

-- an iterator that yields the first of a list and leaves the others comes to its end
pub yields_progress : (can : PairList → Type 0) → ((left : PairList) → can left) → (old : PairList) (taken : Option (ℕ × ℕ)) (new : PairList) → YieldsFirst (λ (left : PairList). left) old taken new
    → MakesProgress can (item_count (λ (left : PairList). left)) old taken new
yields_progress can each old None new yields = record { on = λ finite. tt; keeps = tt; rests = λ finite. finite }
yields_progress can each old (Some pair) new yields = record { on = λ finite. (each new, finite, omega (arith, ap length yields)); keeps = each new; rests = λ finite. tt }

-- the leaf that is held serves for what is left
pub leaf_is_held : (table : TableValue) (leaf : LeafValue) (end : ℕ) (found taken : Option (ℕ × ℕ)) → IfSome found (λ pair. IsLeafFor table leaf pair.0) → IsLeafFor table leaf key_count → taken ≡ below_end end found → IsLeafFor table leaf (end_past taken)
leaf_is_held table leaf end None taken held last below = subst (λ (o : Option (ℕ × ℕ)). IsLeafFor table leaf (end_past o)) (sym below) last
leaf_is_held table leaf end (Some pair) taken held last below = subst (λ (o : Option (ℕ × ℕ)). IsLeafFor table leaf (end_past o)) (sym below) (by_test (nat_lt pair.0 end))
  where
    by_test : (test : Bool) → IsLeafFor table leaf (end_past (cond test (Some pair) None))
    by_test true = record { lawful = held.lawful; in_row = held.in_row; is_leaf = held.is_leaf; lent = held.lent; pairs = held.pairs; begins = omega (arith, held.begins) }
    by_test false = last
