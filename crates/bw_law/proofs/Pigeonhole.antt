-- A list of different numbers below n isn't longer than n.
use Rattle.std.proofs.Common.{◌≡◌, ℕ, zero, suc, ◌+◌, ◌<◌, ◌≤◌, true, List, [], ◌∷◌, length, set, Some, refl, sym, ◌∙◌, ap, subst, inl, inr, ⊎_elim, arith, get_or, get_or-set_other}
use Rattle.std.specs.Prelude.{replicate, sum_by, map}
use Rattle.std.proofs.lemmas.List.{get_or_past, length-map}
use Rattle.std.proofs.lemmas.List.Sums.{sum_by-set}
use Rattle.std.proofs.lemmas.List.Folds.{sum_by-replicate}
use Rattle.std.proofs.lemmas.Bool.{cases_lt}
use Rattle.std.proofs.lemmas.Bool.Decides.{nat_tests}
use Rattle.bw_keys.specs.declared.page.Pid.{Pid}
use Rattle.bw_delta.specs.Entries.{at, rises}
use Rattle.bw_law.specs.Walks.{IsAmong, RepeatsNone}
use Rattle.bw_law.proofs.Lists.{found_within}

abbrev total : List ℕ → ℕ
total = sum_by (λ n. n)

-- each number of the list has a mark of its own
marked_length : (numbers marks : List ℕ) → RepeatsNone numbers → ((x : ℕ) → IsAmong numbers x → get_or marks x 0 ≡ 1) → length numbers ≤ total marks
marked_length [] marks once marked = omega arith
marked_length (n ∷ numbers) marks once marked =
    let here = marked n (inl (λ _. n)) in
    let inside : n < length marks = ⊎_elim
    (λ (lt : n < length marks). lt)
    (λ (past : length marks ≤ n). absurd (omega (arith, here, get_or_past marks n 0 past)))
    (cases_lt n (length marks)) in
    let ih = marked_length numbers (set marks n 0) once.1 (λ x among. get_or-set_other marks n x 0 0 (λ same. once.0 (moved x same among)) ∙ marked x (inr among)) in
    omega (arith, ih, here, sum_by-set (λ m. m) marks n 0 0 inside)
  where
    moved : (x : ℕ) → x ≡ n → IsAmong numbers x → IsAmong numbers n
    moved x same among = subst (IsAmong numbers) same among

abbrev ones : ℕ → List ℕ
ones n = replicate n 1

-- n marks are enough for the numbers below n
all_marked : (n x : ℕ) → x < n → get_or (ones n) x 0 ≡ 1
all_marked zero x below = absurd (omega arith)
all_marked (suc n) zero below = refl
all_marked (suc n) (suc x) below = all_marked n x (omega arith)

-- so there are at most n of them
pub different_numbers_below : (n : ℕ) (numbers : List ℕ) → RepeatsNone numbers → ((x : ℕ) → IsAmong numbers x → x < n) → length numbers ≤ n
different_numbers_below n numbers once below =
    omega (arith, marked_length numbers (ones n) once (λ x among. all_marked n x (below x among)), sum_by-replicate (λ m. m) n 1)

-- the ids that the routes lead to
abbrev ids : List (ℕ × Pid) → List ℕ
ids es = map (λ (e : ℕ × Pid). e.1.0) es

record Led (es : List (ℕ × Pid)) (id : ℕ) : Type 0 where
  key : ℕ
  page : Pid
  found : at key es ≡ Some page
  is : page.0 ≡ id

-- an id that the routes lead to is that of a route
led_from : (low end : ℕ) (es : List (ℕ × Pid)) (id : ℕ) → rises low end es ≡ true → IsAmong (ids es) id → Led es id
led_from low end [] id rise among = absurd among
led_from low end (e ∷ es) id rise among = ⊎_elim
    (λ (is : id ≡ e.1.0). record { key = e.0; page = e.1; found = grind (arith, nat_tests); is = sym is })
    (λ (later : IsAmong (ids es) id).
    let led = led_from (e.0 + 1) end es id (grind (arith, nat_tests)) later in
    let inside = found_within (e.0 + 1) end led.key led.page es in
    record { key = led.key; page = led.page; found = grind (arith, nat_tests); is = led.is })
    among

-- routes to pages that begin at their keys lead to different pages
different_ids : (low_of : ℕ → ℕ) (low end : ℕ) (es : List (ℕ × Pid)) → rises low end es ≡ true → ((key : ℕ) (page : Pid) → at key es ≡ Some page → low_of page.0 ≡ key) → RepeatsNone (ids es)
different_ids low_of low end [] rise begins = tt
different_ids low_of low end (e ∷ es) rise begins =
    let tail : rises (e.0 + 1) end es ≡ true = grind (arith, nat_tests) in (
      (λ among.
          let led = led_from (e.0 + 1) end es e.1.0 tail among in
          let inside = found_within (e.0 + 1) end led.key led.page es tail led.found in
          omega (arith, inside, begins e.0 e.1 (grind (arith, nat_tests)), begins led.key led.page (grind (arith, nat_tests)), ap low_of led.is)),
      different_ids low_of (e.0 + 1) end es tail (λ key page found. let inside = found_within (e.0 + 1) end key page es tail found in begins key page (grind (arith, nat_tests))),
    )

-- so there are no more of them than pages
pub routes_to_different_pages : (n : ℕ) (low_of : ℕ → ℕ) (low end : ℕ) (es : List (ℕ × Pid)) → rises low end es ≡ true
    → ((key : ℕ) (page : Pid) → at key es ≡ Some page → (page.0 < n) × (low_of page.0 ≡ key)) → length es ≤ n
routes_to_different_pages n low_of low end es rise each =
    let few = different_numbers_below n (ids es) (different_ids low_of low end es rise (λ key page found. (each key page found).1)) below in
    omega (arith, few, length-map es (λ (e : ℕ × Pid). e.1.0))
  where
    below : (x : ℕ) → IsAmong (ids es) x → x < n
    below x among =
        let led = led_from low end es x rise among in
        omega (arith, (each led.key led.page led.found).0, led.is)
