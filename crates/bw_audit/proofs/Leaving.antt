-- The pairs that the last rows of the keys leave are those of the map after all changes.
use Rattle.std.proofs.Common.{◌≡◌, ◌≢◌, ◌∙◌, ◌+◌, ◌-◌, ◌<◌, ◌≤◌, ◌==◌, ◌&&◌, ◌||◌, ℕ, true, false, cond, List, Option, Some, None, refl, arith, sym, ap, subst, Bool, ◌++◌, ◌∷◌, [], length, get_or}
use Rattle.std.proofs.lemmas.Bool.Decides.{nat_tests}
use Rattle.std.specs.Prelude.{nat_lt, nat_le}
use Rattle.std.specs.Bool.{Decides, nat_eq}
use Rattle.std.specs.List.Sorted.{IsPermutation, IsSorted, IsPartitionPoint}
use Rattle.std.proofs.lemmas.List.{get_or_default}
use Rattle.std.proofs.lemmas.List.Elements.{All-get_or}
use Rattle.std.proofs.lemmas.List.Sorted.{sorted_far, All-permutation}
use Rattle.std.specs.Ordering.{nat_cmp, ordering_then, is_lt}
use Rattle.bw_keys.specs.Ranges.{key_count}
use Rattle.bw_delta.specs.Entries.{at, rises}
use Rattle.bw_delta.proofs.Rises.{rises-append}
use Rattle.bw_chain.specs.Ascends.{IsAscending}
use Rattle.bw_chain.proofs.Overlays.{same_entries}
use Rattle.bw_audit.specs.declared.change.Change.{Change}
use Rattle.bw_audit.specs.Changes.{bearer, value_at}
use Rattle.bw_audit.specs.Verdicts.{leaves}
use Rattle.bw_audit.specs.Indexed.{IsLeftBy, after_of, goes_on, is_upto, pair_cmp, pair_left, pair_of, rows_upto}
use Rattle.bw_audit.proofs.Laws.{left_from}
use Rattle.bw_audit.proofs.Converse.{leaves_fine}
use Rattle.bw_audit.proofs.Indexing.{IsRow, pair_order, rows_are, none_before, other_last, own_last}

-- nothing stands past the end, and what one more entry adds
at_past : (low end key : ℕ) (es : List (ℕ × ℕ)) → rises low end es ≡ true → end ≤ key → at key es ≡ None
at_past low end key [] h past = refl
at_past low end key (e ∷ es) h past = grind (arith, nat_tests, at_past (e.0 + 1) end key es)

at_more_other : (es : List (ℕ × ℕ)) (key value other : ℕ) → key ≢ other → at other (es ++ (key, value) ∷ []) ≡ at other es
at_more_other [] key value other apart = let is : (key == other) ≡ false = grind (arith, nat_tests) in rw is refl
at_more_other (e ∷ es) key value other apart =
    let rest = at_more_other es key value other apart in
    grind (arith, nat_tests, rest)

at_more_own : (es : List (ℕ × ℕ)) (key value : ℕ) → at key es ≡ None → at key (es ++ (key, value) ∷ []) ≡ Some value
at_more_own [] key value none = let is : (key == key) ≡ true = grind (arith, nat_tests) in rw is refl
at_more_own (e ∷ es) key value none = grind (arith, nat_tests, at_more_own es key value)

rises_wider : (low end more : ℕ) (es : List (ℕ × ℕ)) → end ≤ more → rises low end es ≡ true → rises low more es ≡ true
rises_wider low end more [] wider h = refl
rises_wider low end more (e ∷ es) wider h = grind (arith, nat_tests, rises_wider (e.0 + 1) end more es)

rises_more : (end key value : ℕ) (es : List (ℕ × ℕ)) → rises 0 key es ≡ true → key < end → rises 0 end (es ++ (key, value) ∷ []) ≡ true
rises_more end key value es h below = rises-append end 0 key es ((key, value) ∷ []) (omega arith) below h (grind (arith, nat_tests))

upto_true : (key n k i : ℕ) → k ≤ key → i ≤ n → (nat_lt k key || (k == key && nat_le i n)) ≡ true
upto_true key n k i low within = grind (arith, nat_tests)

upto_false : (key n k i : ℕ) → key < k → (nat_lt k key || (k == key && nat_le i n)) ≡ false
upto_false key n k i above = grind (arith, nat_tests)

no_lower : (a b k i : ℕ) → is_lt (ordering_then (nat_cmp a k) (nat_cmp b i)) ≡ false → k ≤ a
no_lower a b k i far = grind (arith, nat_tests)

abbrev pub key_at : List (ℕ × ℕ) → ℕ → ℕ
key_at rows place = (get_or rows place (0, 0)).0

-- the pairs that the rows before a place leave
pub record IsLeftBefore (cs : List Change) (rows : List (ℕ × ℕ)) (place : ℕ) (pairs : List (ℕ × ℕ)) : Type 0 where
  pub ascending : IsAscending pairs
  pub lower : place < length rows → rises 0 (key_at rows place) pairs ≡ true
  pub reported : (key : ℕ) → (place < length rows → key < key_at rows place) → at key pairs ≡ value_at cs (length cs) key

module _ (cs : List Change) (rows : List (ℕ × ℕ)) (kept : IsPermutation (rows_upto cs (length cs)) rows) (up : IsSorted pair_cmp rows) where
  far : (i j : ℕ) (d : ℕ × ℕ) → i ≤ j → j < length rows → (get_or rows i d).0 ≤ (get_or rows j d).0
  far i j d before inside =
      no_lower (get_or rows j d).0 (get_or rows j d).1 (get_or rows i d).0 (get_or rows i d).1 (sorted_far (λ x y. is_lt (pair_cmp x y)) pair_order rows up i j d before inside)

  same_key : (i : ℕ) (d : ℕ × ℕ) → i < length rows → (get_or rows i d).0 ≡ key_at rows i
  same_key i d inside = ap (λ (row : ℕ × ℕ). row.0) (get_or_default rows i d (0, 0) inside)

  pub row_at : (i : ℕ) (d : ℕ × ℕ) → i < length rows → IsRow cs (length cs) (get_or rows i d)
  row_at i d inside = All-get_or (IsRow cs (length cs)) rows i d inside (All-permutation (IsRow cs (length cs)) (rows_upto cs (length cs)) rows kept (rows_are cs (length cs)))

  parts_at : (key end : ℕ) → end ≤ length rows → (0 < end → key_at rows (end - 1) ≤ key) → (end < length rows → key < key_at rows end)
      → IsPartitionPoint (λ y. is_upto key (length cs) y ≡ true) (λ y. is_upto key (length cs) y ≡ false) rows end
  parts_at key end bound low high = (
    (λ k d from below.
        let inside : end - 1 < length rows = omega (arith, below, bound) in
        let last = same_key (end - 1) d inside in
        let before = far k (end - 1) d (omega (arith, below)) inside in
        let least = low (omega (arith, below)) in
        upto_true key (length cs) (get_or rows k d).0 (get_or rows k d).1 (omega (arith, last, before, least)) (row_at k d (omega (arith, below, bound))).1),
    (λ k d from inside.
        let here : end < length rows = omega (arith, from, inside) in
        let first = same_key end d here in
        let after = far end k d from inside in
        let most = high here in
        upto_false key (length cs) (get_or rows k d).0 (get_or rows k d).1 (omega (arith, first, after, most))),
  )

  none_first : (key : ℕ) → (0 < length rows → key < key_at rows 0) → value_at cs (length cs) key ≡ None
  none_first key high =
      none_before cs rows kept up key (length cs) 0 (omega arith) (omega arith) (parts_at key 0 (omega arith) (λ some. absurd (omega (arith, some))) high) refl

  module _ (i : ℕ) (inside : i < length rows) where
    one_back : i + 1 - 1 ≡ i
    one_back = omega arith

    next_parts : (key : ℕ) → key_at rows i ≤ key → (i + 1 < length rows → key < key_at rows (i + 1))
        → IsPartitionPoint (λ y. is_upto key (length cs) y ≡ true) (λ y. is_upto key (length cs) y ≡ false) rows (i + 1)
    next_parts key low high = parts_at key (i + 1) (omega (arith, inside)) (λ some. rw one_back low) high

    own_reported : (i + 1 < length rows → key_at rows i < key_at rows (i + 1)) → value_at cs (length cs) (key_at rows i) ≡ after_of (bearer cs (get_or rows i (0, 0)).1)
    own_reported high =
        rw one_back at
        (own_last cs rows kept up (key_at rows i) (length cs) (i + 1) (omega arith) (omega (arith, inside)) (next_parts (key_at rows i) (omega arith) high) (omega arith) (0, 0) (rw one_back refl))

    other_reported : (key : ℕ) → key_at rows i < key → (i + 1 < length rows → key < key_at rows (i + 1)) → value_at cs (length cs) key ≡ None
    other_reported key low high =
        other_last cs rows kept up key (length cs) (i + 1) (omega arith) (omega (arith, inside)) (next_parts key (omega (arith, low)) high) (omega arith) (0, 0)
        (λ same. let e : key_at rows i ≡ key = rw one_back at same in absurd (omega (arith, e, low)))

    -- the row is the last of its key
    module _ (pairs : List (ℕ × ℕ)) (is : IsLeftBefore cs rows i pairs) (rest : i + 1 < length rows → key_at rows i < key_at rows (i + 1)) where
      next_reported : (more : List (ℕ × ℕ)) → at (key_at rows i) more ≡ after_of (bearer cs (get_or rows i (0, 0)).1) → ((key : ℕ) → key_at rows i ≢ key → at key more ≡ at key pairs)
          → (key : ℕ) → (i + 1 < length rows → key < key_at rows (i + 1)) → at key more ≡ value_at cs (length cs) key
      next_reported more own others key high = by_less (nat_lt key (key_at rows i)) refl
        where
          by_more : (t : Bool) → nat_lt (key_at rows i) key ≡ t → nat_lt key (key_at rows i) ≡ false → at key more ≡ value_at cs (length cs) key
          by_more true above least =
              let past : key_at rows i < key = grind (arith, nat_tests) in
              others key (λ e. omega (arith, e, past)) ∙ (at_past 0 (key_at rows i) key pairs (is.lower inside) (omega (arith, past)) ∙ sym (other_reported key past high))
          by_more false above least =
              let same : key_at rows i ≡ key = grind (arith, nat_tests) in
              rw (← same) (own ∙ sym (own_reported rest))

          by_less : (t : Bool) → nat_lt key (key_at rows i) ≡ t → at key more ≡ value_at cs (length cs) key
          by_less true below =
              let before : key < key_at rows i = grind (arith, nat_tests) in
              others key (λ e. omega (arith, e, before)) ∙ is.reported key (λ same. before)
          by_less false below = by_more (nat_lt (key_at rows i) key) refl below

      nothing_there : at (key_at rows i) pairs ≡ None
      nothing_there = at_past 0 (key_at rows i) (key_at rows i) pairs (is.lower inside) (omega arith)

      with_pair : (value : ℕ) → after_of (bearer cs (get_or rows i (0, 0)).1) ≡ Some value → key_at rows i < key_count → IsLeftBefore cs rows (i + 1) (pairs ++ (key_at rows i, value) ∷ [])
      with_pair value after fits = record {
        ascending = rises_more key_count (key_at rows i) value pairs (is.lower inside) fits;
        lower = λ more. rises_more (key_at rows (i + 1)) (key_at rows i) value pairs (is.lower inside) (rest more);
        reported = next_reported (pairs ++ (key_at rows i, value) ∷ []) (at_more_own pairs (key_at rows i) value nothing_there ∙ sym after)
            (λ key apart. at_more_other pairs (key_at rows i) value key apart);
      }

      with_none : after_of (bearer cs (get_or rows i (0, 0)).1) ≡ None → IsLeftBefore cs rows (i + 1) pairs
      with_none after = record {
        ascending = is.ascending;
        lower = λ more. rises_wider 0 (key_at rows i) (key_at rows (i + 1)) pairs (omega (arith, rest more)) (is.lower inside);
        reported = next_reported pairs (nothing_there ∙ sym after) (λ key apart. refl);
      }

    -- or the next one is of the same key
    going_on : (pairs : List (ℕ × ℕ)) → IsLeftBefore cs rows i pairs → i + 1 < length rows → key_at rows (i + 1) ≡ key_at rows i → IsLeftBefore cs rows (i + 1) pairs
    going_on pairs is more same = record {
      ascending = is.ascending;
      lower = λ again. rw same (is.lower inside);
      reported = λ key high. is.reported key (λ here. rw same at (high more));
    }

    ends_there : goes_on rows i ≡ false → i + 1 < length rows → key_at rows i < key_at rows (i + 1)
    ends_there ends more =
        let step = far i (i + 1) (0, 0) (omega arith) more in
        grind (arith, nat_tests)

    on_there : goes_on rows i ≡ true → (i + 1 < length rows) × (key_at rows (i + 1) ≡ key_at rows i)
    on_there on = (grind (arith, nat_tests), grind (arith, nat_tests))

    pub left_none : (pairs : List (ℕ × ℕ)) → IsLeftBefore cs rows i pairs → pair_left cs rows i ≡ None → IsLeftBefore cs rows (i + 1) pairs
    left_none pairs is none =
        elim (goes_on rows i) as (λ t. goes_on rows i ≡ t → cond t None (pair_of (key_at rows i) (after_of (bearer cs (get_or rows i (0, 0)).1))) ≡ None → IsLeftBefore cs rows (i + 1) pairs) [
          | true ↦ λ on e. going_on pairs is (on_there on).0 (on_there on).1
          | false ↦ λ ends e. with_none pairs is (ends_there ends) (no_pair (key_at rows i) (after_of (bearer cs (get_or rows i (0, 0)).1)) e)
        ] refl none
      where
        no_pair : (key : ℕ) (o : Option ℕ) → pair_of key o ≡ None → o ≡ None
        no_pair key None e = refl
        no_pair key (Some value) e = cc

    pub left_some : (pairs : List (ℕ × ℕ)) → IsLeftBefore cs rows i pairs → (pair : ℕ × ℕ) → pair_left cs rows i ≡ Some pair → pair.0 < key_count → IsLeftBefore cs rows (i + 1) (pairs ++ pair ∷ [])
    left_some pairs is pair some fits =
        elim (goes_on rows i) as (λ t. goes_on rows i ≡ t → cond t None (pair_of (key_at rows i) (after_of (bearer cs (get_or rows i (0, 0)).1))) ≡ Some pair → IsLeftBefore cs rows (i + 1) (pairs ++ pair ∷ [])) [
          | true ↦ λ on e. cc
          | false ↦ λ ends e.
              let parts = a_pair (key_at rows i) (after_of (bearer cs (get_or rows i (0, 0)).1)) pair e in
              subst (λ (p : ℕ × ℕ). IsLeftBefore cs rows (i + 1) (pairs ++ p ∷ [])) (sym parts.1)
              (with_pair pairs is (ends_there ends) pair.1 parts.0 (rw (ap (λ (p : ℕ × ℕ). p.0) parts.1) at fits))
        ] refl some
      where
        a_pair : (key : ℕ) (o : Option ℕ) (p : ℕ × ℕ) → pair_of key o ≡ Some p → (o ≡ Some p.1) × (p ≡ (key, p.1))
        a_pair key None p e = cc
        a_pair key (Some value) p e = let same : (key, value) ≡ p = cc in (ap (λ (q : ℕ × ℕ). Some q.1) same, sym same ∙ ap (λ (q : ℕ × ℕ). (key, q.1)) same)

  pub left_first : IsLeftBefore cs rows 0 []
  left_first = record {
    ascending = refl;
    lower = λ some. refl;
    reported = λ key high. sym (none_first key high);
  }

  pub left_last : (pairs : List (ℕ × ℕ)) → IsLeftBefore cs rows (length rows) pairs → IsLeftBy cs pairs
  left_last pairs is = record { ascending = is.ascending; reported = λ key. is.reported key (λ less. absurd (omega (arith, less))) }

both_parts : (a b c d : ℕ) → (nat_eq a b && nat_eq c d) ≡ true → (a ≡ b) × (c ≡ d)
both_parts a b c d same = (grind (arith, nat_tests), grind (arith, nat_tests))

parts_both : (a b c d : ℕ) → a ≡ b → c ≡ d → (nat_eq a b && nat_eq c d) ≡ true
parts_both a b c d first second = grind (arith, nat_tests)

pub pair_decides : (a b : ℕ × ℕ) → Decides (nat_eq a.0 b.0 && nat_eq a.1 b.1) (a ≡ b)
pair_decides a b = (
  (λ same. let parts = both_parts a.0 b.0 a.1 b.1 same in λ n. (parts.0 n, parts.1 n)),
  (λ same. parts_both a.0 b.0 a.1 b.1 (ap (λ (p : ℕ × ℕ). p.0) same) (ap (λ (p : ℕ × ℕ). p.1) same)),
)

-- the pairs that are left are these, where the changes leave these
pub leaves_same : (cs : List Change) (left pairs : List (ℕ × ℕ)) → IsLeftBy cs left → IsAscending pairs → left ≡ pairs → leaves cs pairs ≡ true
leaves_same cs left pairs is up same = leaves_fine cs pairs up (λ key. sym (is.reported key) ∙ ap (at key) same)

pub same_left : (cs : List Change) (left pairs : List (ℕ × ℕ)) → IsLeftBy cs left → IsAscending pairs → leaves cs pairs ≡ true → left ≡ pairs
same_left cs left pairs is up holds = same_entries 0 key_count left pairs is.ascending up (λ key. is.reported key ∙ left_from cs pairs holds key)

pub leaves_decided : (cs : List Change) (left pairs : List (ℕ × ℕ)) (same : Bool) → IsLeftBy cs left → IsAscending pairs → (same ≡ true → left ≡ pairs) × (left ≡ pairs → same ≡ true) → same ≡ leaves cs pairs
leaves_decided cs left pairs true is up decides = sym (leaves_same cs left pairs is up (decides.0 refl))
leaves_decided cs left pairs false is up decides = by_test (leaves cs pairs) refl
  where
    by_test : (t : Bool) → leaves cs pairs ≡ t → false ≡ t
    by_test true holds = decides.1 (same_left cs left pairs is up holds)
    by_test false holds = refl
