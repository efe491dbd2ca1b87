-- The first places of numbers, and the last change of a key as the last row up to a number.
use Rattle.std.proofs.Common.{◌≡◌, ◌≢◌, ◌∙◌, ◌+◌, ◌-◌, ◌<◌, ◌≤◌, ◌==◌, ◌&&◌, ◌||◌, ◌⊎◌, inl, inr, ℕ, zero, suc, true, false, cond, List, Option, Some, None, refl, arith, sym, ap, subst, Bool, ◌++◌, ◌∷◌, [], length, take, get_or, set, replicate, length-take-le, append-nil, slice_range, drop, map}
use Rattle.std.proofs.lemmas.Bool.Decides.{nat_tests}
use Rattle.std.specs.Prelude.{is_some, nat_lt, nat_le, option_map}
use Rattle.std.specs.Cmp.{IsStrictWeakOrder}
use Rattle.std.specs.List.{All, Contains}
use Rattle.std.specs.List.Sorted.{IsPermutation, IsSorted, IsPartitionedBy, IsPartitionPoint}
use Rattle.std.proofs.lemmas.List.{take_more, get_or_default, get_or-set_same, get_or-set_other, get_or-replicate, length-set, length-replicate, length-drop, get_or-take, get_or-drop, get_or-map, map-append}
use Rattle.std.proofs.lemmas.List.Elements.{All-append, All-weaker, All-nil, All-cons, All-get_or, Contains-append_left, Contains-append_right, at_from_Contains}
use Rattle.std.proofs.lemmas.List.Sorted.{sorted_far, ranks_by, All-permutation, Contains-permutation}
use Rattle.std.proofs.lemmas.Cmp.{nat_cmp_total, on_total, then_total}
use Rattle.std.specs.Ordering.{nat_cmp, ordering_then, is_lt}
use Rattle.bw_audit.specs.declared.change.Change.{Change}
use Rattle.bw_audit.specs.Changes.{bearer, changed_by, value_at}
use Rattle.bw_audit.specs.Indexed.{AreLeft, ArePlaces, IsCountUpto, after_of, first_place, is_upto, is_within, pair_cmp, row_of, rows_upto}

-- what a key has after a change, if the change is of the key
abbrev pub value_there : Option Change → ℕ → Option (Option ℕ)
value_there None key = None
value_there (Some c) key = cond (c.key == key) (Some c.after) None

absent_step : (o : Option Change) (key : ℕ) (had : Option ℕ) → value_there o key ≡ None → changed_by o key had ≡ had
absent_step None key had h = refl
absent_step (Some c) key had h =
    elim (c.key == key) as (λ t. cond t (Some c.after) None ≡ None → cond t c.after had ≡ had) [
      | true ↦ λ e. cc
      | false ↦ λ e. refl
    ] h

present_step : (o : Option Change) (key : ℕ) (had v : Option ℕ) → value_there o key ≡ Some v → changed_by o key had ≡ v
present_step None key had v h = cc
present_step (Some c) key had v h =
    elim (c.key == key) as (λ t. cond t (Some c.after) None ≡ Some v → cond t c.after had ≡ v) [
      | true ↦ λ e. cc
      | false ↦ λ e. cc
    ] h

pub none_upto : (cs : List Change) (m key : ℕ) → ((j : ℕ) → 0 < j → j ≤ m → value_there (bearer cs j) key ≡ None) → value_at cs m key ≡ None
none_upto cs zero key h = refl
none_upto cs (suc m) key h =
    absent_step (bearer cs (suc m)) key (value_at cs m key) (h (suc m) (omega arith) (omega arith))
    ∙ none_upto cs m key (λ j above below. h j above (omega arith))

pub last_at : (cs : List Change) (low m key : ℕ) (v : Option ℕ) → 0 < low → low ≤ m → value_there (bearer cs low) key ≡ Some v
    → ((j : ℕ) → low < j → j ≤ m → value_there (bearer cs j) key ≡ None) → value_at cs m key ≡ v
last_at cs low zero key v above below e h = absurd (omega arith)
last_at cs low (suc m) key v above below e h =
    elim (low == suc m) as (λ t. (low == suc m) ≡ t → value_at cs (suc m) key ≡ v) [
      | true ↦ λ is.
          let same : low ≡ suc m = grind (arith, nat_tests) in
          let e' : value_there (bearer cs (suc m)) key ≡ Some v = rw (← same) e in
          present_step (bearer cs (suc m)) key (value_at cs m key) v e'
      | false ↦ λ is.
          let less : low ≤ m = grind (arith, nat_tests) in
          absent_step (bearer cs (suc m)) key (value_at cs m key) (h (suc m) (omega arith) (omega arith))
          ∙ last_at cs low m key v above less e (λ j a b. h j a (omega arith))
    ] refl

-- one of the first changes bears a number just where its first place is among theirs
abbrev pub is_placed_before : ℕ → Option ℕ → Bool
is_placed_before before None = false
is_placed_before before (Some place) = nat_lt place before

suc_before : (before : ℕ) (o : Option ℕ) → is_placed_before (suc before) (option_map suc o) ≡ is_placed_before before o
suc_before before None = refl
suc_before before (Some place) = grind (arith, nat_tests)

no_place_before : (o : Option ℕ) → is_placed_before 0 o ≡ false
no_place_before None = refl
no_place_before (Some place) = grind (arith, nat_tests)

pub borne_before : (cs : List Change) (before m : ℕ) → is_placed_before before (first_place cs m) ≡ is_some (bearer (take before cs) m)
borne_before [] zero m = refl
borne_before [] (suc before) m = refl
borne_before (c ∷ cs) zero m = no_place_before (first_place (c ∷ cs) m)
borne_before (c ∷ cs) (suc before) m =
    let rest = borne_before cs before m in
    elim (c.number == m) as (λ t. is_placed_before (suc before) (cond t (Some 0) (option_map suc (first_place cs m))) ≡ is_some (cond t (Some c) (bearer (take before cs) m))) [
      | true ↦ grind (arith, nat_tests)
      | false ↦ suc_before before (first_place cs m) ∙ rest
    ]

abbrev or_placed : Option ℕ → Change → ℕ → ℕ → Option ℕ
or_placed (Some place) change number here = Some place
or_placed None change number here = cond (change.number == number) (Some here) None

suc_placed : (o : Option ℕ) (c : Change) (m here : ℕ) → option_map suc (or_placed o c m here) ≡ or_placed (option_map suc o) c m (suc here)
suc_placed (Some place) c m here = refl
suc_placed None c m here = elim (c.number == m) as (λ t. option_map suc (cond t (Some here) None) ≡ cond t (Some (suc here)) None) [ true ↦ refl | false ↦ refl ]

place-snoc : (cs : List Change) (c : Change) (m : ℕ) → first_place (cs ++ c ∷ []) m ≡ or_placed (first_place cs m) c m (length cs)
place-snoc [] c m = refl
place-snoc (d ∷ cs) c m =
    let rest = place-snoc cs c m in
    elim (d.number == m) as (λ t. cond t (Some 0) (option_map suc (first_place (cs ++ c ∷ []) m)) ≡ or_placed (cond t (Some 0) (option_map suc (first_place cs m))) c m (suc (length cs))) [
      | true ↦ refl
      | false ↦ ap (option_map suc) rest ∙ suc_placed (first_place cs m) c m (length cs)
    ]

-- the first of the changes that bears a number stands at its first place
abbrev IsBearerAt : List Change → ℕ → ℕ → Type 0
IsBearerAt cs m place = (place < length cs) × ((d : Change) → bearer cs m ≡ Some (get_or cs place d))

some_inside : (o : Option ℕ) (place : ℕ) → option_map suc o ≡ Some place → (p : ℕ) × (o ≡ Some p) × (place ≡ suc p)
some_inside None place h = cc
some_inside (Some p) place h = (p, refl, sym (some_same (suc p) place h))
  where
    some_same : (a b : ℕ) → Some a ≡ Some b → a ≡ b
    some_same a b e = cc

none_inside : (o : Option ℕ) → option_map suc o ≡ None → o ≡ None
none_inside None e = refl
none_inside (Some p) e = cc

placed_bearer : (cs : List Change) (m place : ℕ) → first_place cs m ≡ Some place → IsBearerAt cs m place
placed_bearer [] m place h = cc
placed_bearer (c ∷ cs) m place h =
    elim (c.number == m) as (λ t. (c.number == m) ≡ t → cond t (Some 0) (option_map suc (first_place cs m)) ≡ Some place → IsBearerAt (c ∷ cs) m place) [
      | true ↦ λ is here.
          let e : 0 ≡ place = cc in
          rw (← e) (omega arith, λ d. rw is refl)
      | false ↦ λ other later.
          let p = some_inside (first_place cs m) place later in
          let rest = placed_bearer cs m p.0 p.1 in
          rw p.2 (omega (arith, rest.0), λ d. rw other (rest.1 d))
    ] refl h

unplaced : (cs : List Change) (m : ℕ) → first_place cs m ≡ None → bearer cs m ≡ None
unplaced [] m h = refl
unplaced (c ∷ cs) m h =
    elim (c.number == m) as (λ t. cond t (Some 0) (option_map suc (first_place cs m)) ≡ None → cond t (Some c) (bearer cs m) ≡ None) [
      | true ↦ λ e. cc
      | false ↦ λ e. unplaced cs m (none_inside (first_place cs m) e)
    ] h

pub read_itself : (cs : List Change) (n : ℕ) (places : List (Option ℕ)) → ArePlaces cs n places → (m : ℕ) → m ≤ n → get_or places m None ≡ get_or places m (get_or places m None)
read_itself cs n places are m within = get_or_default places m None (get_or places m None) (omega (arith, are.counted, within))

-- what is read of a number up to n
module _ (cs : List Change) (n : ℕ) (places : List (Option ℕ)) (are : ArePlaces cs n places) (m : ℕ) (within : m ≤ n) (read : Option ℕ) (is : read ≡ get_or places m read) where
  first : first_place cs m ≡ read
  first = sym (are.placed m within) ∙ (get_or_default places m None read (omega (arith, are.counted, within)) ∙ sym is)

  pub placed_at : (place : ℕ) → read ≡ Some place → IsBearerAt cs m place
  placed_at place here = placed_bearer cs m place (first ∙ here)

  pub after_placed : (place : ℕ) → read ≡ Some place → (d : Change) → (get_or cs place d).after ≡ after_of (bearer cs m)
  after_placed place here d = rw ((placed_at place here).1 d) refl

  pub unplaced_at : read ≡ None → bearer cs m ≡ None
  unplaced_at none = unplaced cs m (first ∙ none)

  pub borne_at : (before : ℕ) → is_some (bearer (take before cs) m) ≡ is_placed_before before read
  borne_at before = rw (← first) (sym (borne_before cs before m))

  -- the rows with that of one more number
  pub row_more : (place k : ℕ) → m ≡ suc k → read ≡ Some place → (d : Change) → rows_upto cs k ++ ((get_or cs place d).key, (get_or cs place d).number) ∷ [] ≡ rows_upto cs m
  row_more place k next here d =
      ap (λ o. rows_upto cs k ++ row_of o) (sym ((placed_at place here).1 d) ∙ ap (bearer cs) next) ∙ ap (rows_upto cs) (sym next)

  pub row_none : (k : ℕ) → m ≡ suc k → read ≡ None → rows_upto cs k ≡ rows_upto cs m
  row_none k next none =
      sym (append-nil (rows_upto cs k)) ∙ (ap (λ o. rows_upto cs k ++ row_of o) (sym (unplaced_at none) ∙ ap (bearer cs) next) ∙ ap (rows_upto cs) (sym next))

-- at first no number has a place
pub new_places : (n : ℕ) → ArePlaces [] n (replicate (n + 1) None)
new_places n = record {
  counted = length-replicate (n + 1) None;
  placed = λ m within. get_or-replicate (n + 1) m None None (omega arith);
}

kept_place : (old : Option ℕ) (c : Change) (m here : ℕ) → (c.number ≡ m → old ≡ None) → c.number ≡ m → Some here ≡ or_placed old c m here
kept_place (Some place) c m here free same = cc (free same)
kept_place None c m here free same = let is : (c.number == m) ≡ true = grind (arith, nat_tests) in rw is refl

other_place : (old : Option ℕ) (c : Change) (m here : ℕ) → c.number ≢ m → old ≡ or_placed old c m here
other_place (Some place) c m here apart = refl
other_place None c m here apart = let is : (c.number == m) ≡ false = grind (arith, nat_tests) in rw is refl

same_place : (old : Option ℕ) (c : Change) (m here : ℕ) → (c.number ≡ m → is_some old ≡ true) → or_placed old c m here ≡ old
same_place (Some place) c m here h = refl
same_place None c m here h =
    elim (c.number == m) as (λ t. (c.number == m) ≡ t → cond t (Some here) None ≡ None) [
      | true ↦ λ is. let same : c.number ≡ m = grind (arith, nat_tests) in cc (h same)
      | false ↦ λ is. refl
    ] refl

none_of : {X : Type 0} → (o : Option X) → is_some o ≡ false → o ≡ None
none_of None h = refl
none_of (Some x) h = cc

abbrev pub no_change : Change
no_change = record { number = 0; key = 0; before = None; after = None }

-- one more change, with a number that has no place yet, and with another
module _ (cs : List Change) (n i : ℕ) (d : Change) (inside : i < length cs) (places : List (Option ℕ)) (are : ArePlaces (take i cs) n places) where
  next_place : (m : ℕ) → first_place (take (i + 1) cs) m ≡ or_placed (first_place (take i cs) m) (get_or cs i d) m i
  next_place m =
      let here : length (take i cs) ≡ i = length-take-le i cs (omega arith) in
      rw (take_more cs i d inside) (rw here at (place-snoc (take i cs) (get_or cs i d) m))

  pub enter_new : (get_or cs i d).number < length places → is_some (get_or places (get_or cs i d).number None) ≡ false
      → ArePlaces (take (i + 1) cs) n (set places (get_or cs i d).number (Some i))
  enter_new below free = record {
    counted = length-set places (get_or cs i d).number (Some i) ∙ are.counted;
    placed = λ m within.
        elim ((get_or cs i d).number == m) as (λ t. ((get_or cs i d).number == m) ≡ t → get_or (set places (get_or cs i d).number (Some i)) m None ≡ first_place (take (i + 1) cs) m) [
          | true ↦ λ is.
              let same : (get_or cs i d).number ≡ m = grind (arith, nat_tests) in
              let here : (get_or cs i d).number ≤ n = omega (arith, within, same) in
              let none : first_place (take i cs) (get_or cs i d).number ≡ None = sym (are.placed (get_or cs i d).number here) ∙ none_of _ free in
              rw (← same) (get_or-set_same places (get_or cs i d).number (Some i) None below
              ∙ (kept_place (first_place (take i cs) (get_or cs i d).number) (get_or cs i d) (get_or cs i d).number i (λ e. none) refl ∙ sym (next_place (get_or cs i d).number)))
          | false ↦ λ is.
              let apart : (get_or cs i d).number ≢ m = λ e. other_numbers _ m is e in
              get_or-set_other places (get_or cs i d).number m (Some i) None (λ e. apart (sym e))
              ∙ (are.placed m within ∙ (other_place (first_place (take i cs) m) (get_or cs i d) m i apart ∙ sym (next_place m)))
        ] refl;
  }
    where
      other_numbers : (a b : ℕ) → (a == b) ≡ false → a ≡ b → ⊥
      other_numbers a b is e = grind (arith, nat_tests)

  pub enter_known : (read : Option ℕ) → read ≡ get_or places (get_or cs i d).number read → (get_or cs i d).number < length places → is_some read ≡ true → ArePlaces (take (i + 1) cs) n places
  enter_known read is below known = record {
    counted = are.counted;
    placed = λ m within. are.placed m within
        ∙ (sym (same_place (first_place (take i cs) m) (get_or cs i d) m i (λ same. rw (← are.placed m within, ← same, get_or_default places (get_or cs i d).number None read below, ← is) known)) ∙ sym (next_place m));
  }

  pub enter_beyond : n < (get_or cs i d).number → ArePlaces (take (i + 1) cs) n places
  enter_beyond beyond = record {
    counted = are.counted;
    placed = λ m within. are.placed m within
        ∙ (sym (same_place (first_place (take i cs) m) (get_or cs i d) m i (λ same. absurd (omega (arith, beyond, within, same)))) ∙ sym (next_place m));
  }

-- what a row is: the key and the number of a first change
abbrev key_borne : Option Change → Option ℕ
key_borne o = option_map (λ (c : Change). c.key) o

abbrev pub IsRow : List Change → ℕ → ℕ × ℕ → Type 0
IsRow cs n row = (0 < row.1) × (row.1 ≤ n) × (key_borne (bearer cs row.1) ≡ Some row.0)

bears_it : (cs : List Change) (m : ℕ) (c : Change) → bearer cs m ≡ Some c → c.number ≡ m
bears_it [] m c h = cc
bears_it (b ∷ cs) m c h =
    elim (b.number == m) as (λ t. (b.number == m) ≡ t → cond t (Some b) (bearer cs m) ≡ Some c → c.number ≡ m) [
      | true ↦ λ is e. let same : b ≡ c = cc in rw (← same) (numbers_same b.number m is)
      | false ↦ λ is e. bears_it cs m c e
    ] refl h
  where
    numbers_same : (a b : ℕ) → (a == b) ≡ true → a ≡ b
    numbers_same a b is = grind (arith, nat_tests)

row_is : (cs : List Change) (m : ℕ) (o : Option Change) → 0 < m → bearer cs m ≡ o → All (IsRow cs m) (row_of o)
row_is cs m None above h = All-nil (IsRow cs m)
row_is cs m (Some c) above h =
    let number : c.number ≡ m = bears_it cs m c h in
    All-cons (IsRow cs m) (c.key, c.number) [] (omega (arith, number, above), omega (arith, number), rw (number, h) refl) (All-nil (IsRow cs m))

pub rows_are : (cs : List Change) (n : ℕ) → All (IsRow cs n) (rows_upto cs n)
rows_are cs zero = All-nil (IsRow cs 0)
rows_are cs (suc n) =
    All-append (IsRow cs (suc n)) (rows_upto cs n) (row_of (bearer cs (suc n)))
    (All-weaker (IsRow cs n) (IsRow cs (suc n)) (λ row is. (is.0, omega (arith, is.1), is.2)) (rows_upto cs n) (rows_are cs n))
    (row_is cs (suc n) (bearer cs (suc n)) (omega arith) refl)

row_contained : (o : Option Change) (c : Change) → o ≡ Some c → Contains (row_of o) (c.key, c.number)
row_contained None c h = cc
row_contained (Some b) c h = let same : b ≡ c = cc in subst (λ e. Contains (row_of (Some e)) (c.key, c.number)) (sym same) (0, omega arith, refl)

rows_contain : (cs : List Change) (n m : ℕ) (c : Change) → 0 < m → m ≤ n → bearer cs m ≡ Some c → Contains (rows_upto cs n) (c.key, c.number)
rows_contain cs zero m c above below h = absurd (omega arith)
rows_contain cs (suc n) m c above below h =
    elim (m == suc n) as (λ t. (m == suc n) ≡ t → Contains (rows_upto cs (suc n)) (c.key, c.number)) [
      | true ↦ λ is.
          let same : m ≡ suc n = grind (arith, nat_tests) in
          Contains-append_right (rows_upto cs n) (row_of (bearer cs (suc n))) (c.key, c.number) (row_contained (bearer cs (suc n)) c (rw (← same) h))
      | false ↦ λ is.
          let less : m ≤ n = grind (arith, nat_tests) in
          Contains-append_left (rows_upto cs n) (row_of (bearer cs (suc n))) (c.key, c.number) (rows_contain cs n m c above less h)
    ] refl

-- a change is of a key or not
of_key : (o : Option Change) (key : ℕ) → (value_there o key ≡ None) ⊎ ((c : Change) × (o ≡ Some c) × (c.key ≡ key))
of_key None key = inl refl
of_key (Some c) key =
    elim (c.key == key) as (λ t. (c.key == key) ≡ t → (cond t (Some c.after) None ≡ None) ⊎ ((b : Change) × (Some c ≡ Some b) × (b.key ≡ key))) [
      | true ↦ λ is. inr (c, refl, keys_same c.key key is)
      | false ↦ λ is. inl refl
    ] refl
  where
    keys_same : (a b : ℕ) → (a == b) ≡ true → a ≡ b
    keys_same a b is = grind (arith, nat_tests)

there_after : (o : Option Change) (key : ℕ) → key_borne o ≡ Some key → value_there o key ≡ Some (after_of o)
there_after None key h = cc
there_after (Some c) key h = let same : c.key ≡ key = cc in let is : (c.key == key) ≡ true = grind (arith, nat_tests) in rw is refl

upto_itself : (key j m : ℕ) → j ≤ m → is_upto key m (key, j) ≡ true
upto_itself key j m below = grind (arith, nat_tests)

later_passes : (key m a b k i : ℕ) → is_lt (ordering_then (nat_cmp a k) (nat_cmp b i)) ≡ false → (nat_lt a key || (a == key && nat_le b m)) ≡ true → (nat_lt k key || (k == key && nat_le i m)) ≡ true
later_passes key m a b k i far passes = grind (arith, nat_tests)

same_key : (key m k i j : ℕ) → is_lt (ordering_then (nat_cmp k key) (nat_cmp i j)) ≡ false → (nat_lt k key || (k == key && nat_le i m)) ≡ true → k ≡ key
same_key key m k i j far passes = grind (arith, nat_tests)

number_upto : (key m k i : ℕ) → (nat_lt k key || (k == key && nat_le i m)) ≡ true → k ≡ key → i ≤ m
number_upto key m k i passes same = grind (arith, nat_tests)

not_later : (key k i j : ℕ) → is_lt (ordering_then (nat_cmp k key) (nat_cmp i j)) ≡ false → k ≡ key → j ≤ i
not_later key k i j far same = grind (arith, nat_tests)

pub pair_order : IsStrictWeakOrder (λ x y. is_lt (pair_cmp x y))
pair_order = ranks_by (then_total (on_total (λ (p : ℕ × ℕ). p.0) nat_cmp_total) (on_total (λ (p : ℕ × ℕ). p.1) nat_cmp_total)) (λ p. p)

pub rows_part : (rows : List (ℕ × ℕ)) (key m : ℕ) → IsSorted pair_cmp rows → IsPartitionedBy (is_upto key m) rows
rows_part rows key m up i j d below inside passes =
    later_passes key m (get_or rows j d).0 (get_or rows j d).1 (get_or rows i d).0 (get_or rows i d).1
    (sorted_far (λ x y. is_lt (pair_cmp x y)) pair_order rows up i j d below inside) passes

-- a count among the rows of a range is the count among all, where the neighbours of the range tell so
module _ (rows : List (ℕ × ℕ)) (key m from to : ℕ) (up : IsSorted pair_cmp rows) (within : is_within key m from to rows ≡ true) where
  in_order : from ≤ to
  in_order = grind (arith, nat_tests)

  inside : to ≤ length rows
  inside = grind (arith, nat_tests)

  low : 0 < from → is_upto key m (get_or rows (from - 1) (0, 0)) ≡ true
  low some = grind (arith, nat_tests)

  high : to < length rows → is_upto key m (get_or rows to (0, 0)) ≡ false
  high more = grind (arith, nat_tests)

  parted : IsPartitionedBy (is_upto key m) rows
  parted = rows_part rows key m up

  before : (k : ℕ) (d : ℕ × ℕ) → k < from → is_upto key m (get_or rows k d) ≡ true
  before k d below =
      let last : from - 1 < length rows = omega (arith, below, in_order, inside) in
      parted k (from - 1) d (omega (arith, below)) last
      (rw (get_or_default rows (from - 1) d (0, 0) last) (low (omega (arith, below))))

  behind : (k : ℕ) (d : ℕ × ℕ) → to ≤ k → k < length rows → is_upto key m (get_or rows k d) ≡ false
  behind k d from_to under = by_test (is_upto key m (get_or rows k d)) refl
    where
      by_test : (t : Bool) → is_upto key m (get_or rows k d) ≡ t → is_upto key m (get_or rows k d) ≡ false
      by_test false is = is
      by_test true is =
          let here : to < length rows = omega (arith, from_to, under) in
          let passes : is_upto key m (get_or rows to (0, 0)) ≡ true = rw (get_or_default rows to d (0, 0) here) at (parted to k d from_to under is) in
          cc (passes, high here)

  middle : (k : ℕ) (d : ℕ × ℕ) → k < to - from → get_or (slice_range rows from to) k d ≡ get_or rows (from + k) d
  middle k d below = get_or-take (to - from) (drop from rows) k d below ∙ get_or-drop from rows k d

  width : length (slice_range rows from to) ≡ to - from
  width = length-take-le (to - from) (drop from rows) (omega (arith, length-drop from rows, inside))

  at_middle : (k : ℕ) (d : ℕ × ℕ) (t : Bool) → from ≤ k → k < to → is_upto key m (get_or (slice_range rows from to) (k - from) d) ≡ t → is_upto key m (get_or rows k d) ≡ t
  at_middle k d t above below is =
      let here : from + (k - from) ≡ k = omega (arith, above) in
      rw here at (rw (middle (k - from) d (omega (arith, above, below))) at is)

  pub part_of_range : IsPartitionedBy (is_upto key m) (slice_range rows from to)
  part_of_range i j d first second passes =
      let below : j < to - from = omega (arith, second, width) in
      rw (middle i d (omega (arith, first, below)))
      (parted (from + i) (from + j) d (omega (arith, first)) (omega (arith, below, inside)) (rw (middle j d below) at passes))

  pub count_of_range : (e : ℕ) → e ≤ length (slice_range rows from to)
      → IsPartitionPoint (λ y. is_upto key m y ≡ true) (λ y. is_upto key m y ≡ false) (slice_range rows from to) e → IsCountUpto rows key m (from + e)
  count_of_range e bound point = record {
    bound = omega (arith, bound, width, in_order, inside);
    point = (
      (λ k d start below. counted k d below (nat_lt k from) refl),
      (λ k d start under. beyond k d start under (nat_lt k to) refl),
    );
  }
    where
      counted : (k : ℕ) (d : ℕ × ℕ) → k < from + e → (t : Bool) → nat_lt k from ≡ t → is_upto key m (get_or rows k d) ≡ true
      counted k d below true is = before k d (grind (arith, nat_tests))
      counted k d below false is =
          let above : from ≤ k = grind (arith, nat_tests) in
          at_middle k d true above (omega (arith, below, bound, width, in_order)) (point.0 (k - from) d (omega arith) (omega (arith, above, below)))

      beyond : (k : ℕ) (d : ℕ × ℕ) → from + e ≤ k → k < length rows → (t : Bool) → nat_lt k to ≡ t → is_upto key m (get_or rows k d) ≡ false
      beyond k d start under true is =
          let less : k < to = grind (arith, nat_tests) in
          at_middle k d false (omega (arith, start)) less (point.1 (k - from) d (omega (arith, start)) (omega (arith, start, less, width)))
      beyond k d start under false is = behind k d (grind (arith, nat_tests)) under

-- what one more row leaves
pub left_more : (cs : List Change) (rows : List (ℕ × ℕ)) (i : ℕ) (d : ℕ × ℕ) → i < length rows
    → map (λ (row : ℕ × ℕ). after_of (bearer cs row.1)) (take (i + 1) rows) ≡ map (λ (row : ℕ × ℕ). after_of (bearer cs row.1)) (take i rows) ++ after_of (bearer cs (get_or rows i d).1) ∷ []
left_more cs rows i d inside = ap (map (λ (row : ℕ × ℕ). after_of (bearer cs row.1))) (take_more rows i d inside) ∙ map-append (λ (row : ℕ × ℕ). after_of (bearer cs row.1)) (take i rows) (get_or rows i d ∷ [])

-- the last row up to a key and a number tells what the key has after it
module _ (cs : List Change) (rows : List (ℕ × ℕ)) (kept : IsPermutation (rows_upto cs (length cs)) rows) (up : IsSorted pair_cmp rows) (key m end : ℕ)
    (within : m ≤ length cs) (bound : end ≤ length rows) (point : IsPartitionPoint (λ y. is_upto key m y ≡ true) (λ y. is_upto key m y ≡ false) rows end) where
  latest : (j : ℕ) → j ≤ m → Contains rows (key, j) → (0 < end) × ((d : ℕ × ℕ) → is_lt (pair_cmp (get_or rows (end - 1) d) (key, j)) ≡ false)
  latest j below has =
      let before : at.0 < end = by_test (nat_lt at.0 end) refl in
      (omega (arith, before), λ d. rw (at.2 d) at (sorted_far (λ x y. is_lt (pair_cmp x y)) pair_order rows up at.0 (end - 1) d (omega (arith, before)) (omega (arith, before, bound))))
    where
      at : (k : ℕ) × (k < length rows) × ((d : ℕ × ℕ) → get_or rows k d ≡ (key, j))
      at = at_from_Contains rows (key, j) has

      by_test : (t : Bool) → nat_lt at.0 end ≡ t → at.0 < end
      by_test true is = grind (arith, nat_tests)
      by_test false is =
          let fails : is_upto key m (get_or rows at.0 (key, j)) ≡ false = point.1 at.0 (key, j) (grind (arith, nat_tests)) at.1 in
          cc (rw (at.2 (key, j)) at fails, upto_itself key j m below)

  contained : (j : ℕ) → 0 < j → j ≤ m → (c : Change) → bearer cs j ≡ Some c → c.key ≡ key → Contains rows (key, j)
  contained j above below c borne same =
      Contains-permutation (rows_upto cs (length cs)) rows (key, j) kept
      (rw (same, bears_it cs j c borne) at (rows_contain cs (length cs) j c above (omega (arith, below, within)) borne))

  absent : ((j : ℕ) → j ≤ m → Contains rows (key, j) → ⊥) → value_at cs m key ≡ None
  absent none = none_upto cs m key (λ j above below. by_key j above below (of_key (bearer cs j) key))
    where
      by_key : (j : ℕ) → 0 < j → j ≤ m → (value_there (bearer cs j) key ≡ None) ⊎ ((c : Change) × (bearer cs j ≡ Some c) × (c.key ≡ key)) → value_there (bearer cs j) key ≡ None
      by_key j above below (inl e) = e
      by_key j above below (inr own) = absurd (none j below (contained j above below own.0 own.1 own.2))

  pub none_before : end ≡ 0 → value_at cs m key ≡ None
  none_before first = absent (λ j below has. omega (arith, first, (latest j below has).0))

  last_passes : 0 < end → (d : ℕ × ℕ) → is_upto key m (get_or rows (end - 1) d) ≡ true
  last_passes some d = point.0 (end - 1) d (omega arith) (omega arith)

  pub other_last : 0 < end → (d : ℕ × ℕ) → ((get_or rows (end - 1) d).0 ≡ key → ⊥) → value_at cs m key ≡ None
  other_last some d apart =
      absent (λ j below has. apart (same_key key m (get_or rows (end - 1) d).0 (get_or rows (end - 1) d).1 j ((latest j below has).1 d) (last_passes some d)))

  pub last_row : 0 < end → (d : ℕ × ℕ) → IsRow cs (length cs) (get_or rows (end - 1) d)
  last_row some d =
      All-get_or (IsRow cs (length cs)) rows (end - 1) d (omega (arith, bound)) (All-permutation (IsRow cs (length cs)) (rows_upto cs (length cs)) rows kept (rows_are cs (length cs)))

  pub own_last : 0 < end → (d : ℕ × ℕ) → (get_or rows (end - 1) d).0 ≡ key → value_at cs m key ≡ after_of (bearer cs (get_or rows (end - 1) d).1)
  own_last some d same =
      let row = last_row some d in
      last_at cs (get_or rows (end - 1) d).1 m key (after_of (bearer cs (get_or rows (end - 1) d).1)) row.0
      (number_upto key m (get_or rows (end - 1) d).0 (get_or rows (end - 1) d).1 (last_passes some d) same)
      (there_after (bearer cs (get_or rows (end - 1) d).1) key (rw same at row.2))
      (λ j above below. by_key j above below (of_key (bearer cs j) key))
    where
      by_key : (j : ℕ) → (get_or rows (end - 1) d).1 < j → j ≤ m → (value_there (bearer cs j) key ≡ None) ⊎ ((c : Change) × (bearer cs j ≡ Some c) × (c.key ≡ key)) → value_there (bearer cs j) key ≡ None
      by_key j above below (inl e) = e
      by_key j above below (inr own) =
          let has = contained j (omega (arith, above)) below own.0 own.1 own.2 in
          let last = not_later key (get_or rows (end - 1) d).0 (get_or rows (end - 1) d).1 j ((latest j below has).1 d) same in
          absurd (omega (arith, above, last))

  -- the last of the counted rows, and what it leaves
  module _ (last : ℕ) (next : end ≡ last + 1) (d : ℕ × ℕ) where
    back : end - 1 ≡ last
    back = omega (arith, next)

    pub by_other : ((get_or rows last d).0 ≡ key → ⊥) → value_at cs m key ≡ None
    by_other apart = other_last (omega (arith, next)) d (λ same. apart (rw back at same))

    pub by_own : (left : List (Option ℕ)) → AreLeft cs rows left → (e : Option ℕ) → (get_or rows last d).0 ≡ key → get_or left last e ≡ value_at cs m key
    by_own left are e same =
        let own : value_at cs m key ≡ after_of (bearer cs (get_or rows last d).1) = rw back at (own_last (omega (arith, next)) d (rw back same)) in
        rw are (get_or-map (λ (row : ℕ × ℕ). after_of (bearer cs row.1)) rows last d e (omega (arith, next, bound)) ∙ sym own)
