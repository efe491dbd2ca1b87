-- A list while its items move by one place: one more run of them is written.
use Rattle.std.proofs.Common.{◌≡◌, ℕ, suc, ◌<◌, ◌≤◌, ◌+◌, ◌-◌, List, [], ◌∷◌, ◌++◌, length, take, drop, get_or, set, length-append, refl, ap, sym, ◌∙◌, arith, rules}
use Rattle.std.specs.Prelude.{Vec}
use Rattle.std.specs.List.{insert, remove}
use Rattle.std.specs.Vec.{with_items}
use Rattle.std.proofs.lemmas.List.{places, same_lists, length-set, get_or_default, get_or-set_same, take_all, take_at, drop_more, set_split, append_assoc, with_items_is}
use Rattle.std.proofs.lemmas.Bool.{cases_eq}
use Rattle.bw_delta.specs.Moves.{raised, lowered}

-- a list of which n items from the place on were written over
abbrev pub written : {T : Type 0} → ℕ → ℕ → List T → List T → List T
written place n items run = take place items ++ take n run ++ drop (place + n) items

module _ {T : Type 0} (place : ℕ) (items run : List T) where
  pub write_more : (n : ℕ) (d : T) (list : List T) → list ≡ written place n items run → n < length run → place + n < length items → set list (place + n) (get_or run n d) ≡ written place (n + 1) items run
  write_more n d list so_far more inside =
      ap (λ l. set l (place + n) (get_or run n d)) so_far
      ∙ same_lists _ _ (search (rules, places)) (λ k e h. grind (arith, places, get_or_default run n d e, get_or-set_same, cases_eq k (place + n)))

  pub write_first : (d : T) → 0 < length run → place < length items → set items place (get_or run 0 d) ≡ written place 1 items run
  write_first d more inside =
      let here : place ≡ place + 0 = omega arith in
      let none : items ≡ written place 0 items run = same_lists _ _ (search (rules, places)) (λ k e h. grind (arith, places)) in
      ap (λ i. set items i (get_or run 0 d)) here
      ∙ write_more 0 d items none more (omega arith)

  pub write_all : (n : ℕ) → length run ≡ n → written place n items run ≡ take place items ++ run ++ drop (place + n) items
  write_all n all = rw (take_all n run (omega arith)) refl

module _ {T : Type 0} (xs : List T) where
  length-raised : (at : ℕ) → at < length xs → length (raised at xs) ≡ length xs
  length-raised at inside = search (rules, places)

  -- what stands below has not moved yet
  unraised : (n place at : ℕ) → place + n ≤ at → at < length xs → take n (drop place (raised at xs)) ≡ take n (drop place xs)
  unraised n place at upto inside = same_lists _ _ (search (rules, places)) (λ k d h. grind (arith, places))

  unraised_one : (place at : ℕ) (d : T) → place < at → at < length xs → get_or (raised at xs) place d ≡ get_or xs place d
  unraised_one place at d before inside = grind (arith, places)

  raise_run : (n place at : ℕ) → place ≤ at → at ≤ place + n → place + n < length xs → take (place + 1) (raised at xs) ++ take n (drop place xs) ++ drop (place + 1 + n) (raised at xs) ≡ raised place xs
  raise_run n place at from upto inside = same_lists _ _ (search (rules, places)) (λ k d h. grind (arith, places))

  -- the run of n items from the place on is written one place up: kept from before some of it moved, or read from the list
  pub raise_kept : (n place at : ℕ) (list run moved : List T) → list ≡ raised at xs → run ≡ take n (drop place xs) → moved ≡ take (place + 1) list ++ run ++ drop (place + 1 + n) list → place ≤ at → at ≤ place + n → place + n < length xs → moved ≡ raised place xs
  raise_kept n place at list run moved before kept put from upto inside =
      put ∙ rw (before, kept) (raise_run n place at from upto inside)

  pub raise_next : (n place at : ℕ) (list run moved : List T) → list ≡ raised at xs → run ≡ take n (drop place list) → moved ≡ take (place + 1) list ++ run ++ drop (place + 1 + n) list → at ≡ place + n → at < length xs → moved ≡ raised place xs
  raise_next n place at list run moved before read put next inside =
      raise_kept n place at list run moved before
      (read ∙ ap (λ l. take n (drop place l)) before ∙ unraised n place at (omega arith) inside)
      put (omega arith) (omega arith) (omega arith)

  pub raise_one : (place at : ℕ) (d y : T) (list : List T) → list ≡ raised at xs → y ≡ get_or list place d → at ≡ place + 1 → at < length xs → set list (place + 1) y ≡ raised place xs
  raise_one place at d y list before read next inside =
      let item : y ≡ get_or xs place d = read ∙ ap (λ l. get_or l place d) before ∙ unraised_one place at d (omega arith) inside in
      let run : y ∷ [] ≡ take 1 (drop place xs) = ap (λ z. z ∷ []) item ∙ sym (ap (take 1) (drop_more xs place d (omega arith))) in
      set_split list (place + 1) y (omega (arith, ap length before, length-raised at inside))
      ∙ ap (λ n. take (place + 1) list ++ y ∷ drop n list) (let e : suc (place + 1) ≡ place + 1 + 1 = omega arith in e)
      ∙ raise_kept 1 place at list (y ∷ []) _ before run (sym (append_assoc (take (place + 1) list) (y ∷ []) (drop (place + 1 + 1) list))) (omega arith) (omega arith) (omega arith)

module _ {T : Type 0} (place : ℕ) (xs : List T) where
  length-lowered : (at : ℕ) → place ≤ at → at < length xs → length (lowered place at xs) ≡ length xs
  length-lowered at from inside = search (rules, places)

  unlowered : (n at p : ℕ) → place ≤ at → at ≤ p → at < length xs → take n (drop p (lowered place at xs)) ≡ take n (drop p xs)
  unlowered n at p from before inside = same_lists _ _ (search (rules, places)) (λ k d h. grind (arith, places))

  unlowered_one : (at : ℕ) (d : T) → place ≤ at → at + 1 < length xs → get_or (lowered place at xs) (at + 1) d ≡ get_or xs (at + 1) d
  unlowered_one at d from inside = grind (arith, places)

  lower_run : (n p at : ℕ) → place ≤ p → p ≤ at → at ≤ p + n → p + n < length xs → take p (lowered place at xs) ++ take n (drop (p + 1) xs) ++ drop (p + n) (lowered place at xs) ≡ lowered place (p + n) xs
  lower_run n p at from upto end inside = same_lists _ _ (search (rules, places)) (λ k d h. grind (arith, places))

  -- the run of n items after p is written one place down
  pub lower_kept : (n p at : ℕ) (list run moved : List T) → list ≡ lowered place at xs → run ≡ take n (drop (p + 1) xs) → moved ≡ take p list ++ run ++ drop (p + n) list → place ≤ p → p ≤ at → at ≤ p + n → p + n < length xs → moved ≡ lowered place (p + n) xs
  lower_kept n p at list run moved before kept put from upto end inside =
      put ∙ rw (before, kept) (lower_run n p at from upto end inside)

  pub lower_next : (n at : ℕ) (list run moved : List T) → list ≡ lowered place at xs → run ≡ take n (drop (at + 1) list) → moved ≡ take at list ++ run ++ drop (at + n) list → place ≤ at → at + n < length xs → moved ≡ lowered place (at + n) xs
  lower_next n at list run moved before read put from inside =
      lower_kept n at at list run moved before
      (read ∙ ap (λ l. take n (drop (at + 1) l)) before ∙ unlowered n at (at + 1) from (omega arith) (omega arith))
      put from (omega arith) (omega arith) inside

  pub lower_one : (at : ℕ) (d y : T) (list : List T) → list ≡ lowered place at xs → y ≡ get_or list (at + 1) d → place ≤ at → at + 1 < length xs → set list at y ≡ lowered place (at + 1) xs
  lower_one at d y list before read from inside =
      let item : y ≡ get_or xs (at + 1) d = read ∙ ap (λ l. get_or l (at + 1) d) before ∙ unlowered_one at d from inside in
      let run : y ∷ [] ≡ take 1 (drop (at + 1) xs) = ap (λ z. z ∷ []) item ∙ sym (ap (take 1) (drop_more xs (at + 1) d inside)) in
      set_split list at y (omega (arith, ap length before, length-lowered at from (omega arith)))
      ∙ ap (λ n. take at list ++ y ∷ drop n list) (let e : suc at ≡ at + 1 = omega arith in e)
      ∙ lower_kept 1 at at list (y ∷ []) _ before run (sym (append_assoc (take at list) (y ∷ []) (drop (at + 1) list))) from (omega arith) (omega arith) inside

module _ {T Z : Type 0} (v : Vec T Z) (place : ℕ) (moved : List T) where
  -- once the items were moved up, a new one is put at the place
  pub put_moved : (y : T) (xs : List T) → v.items ≡ xs ++ y ∷ [] → place ≤ length xs → moved ≡ raised place v.items → (with_items v (set moved place y)).items ≡ insert xs place y
  put_moved y xs pushed inside is =
      let more = xs ++ y ∷ [] in
      let fits : place < length more = omega (arith, length-append xs (y ∷ [])) in
      let same : moved ≡ raised place more = is ∙ ap (raised place) pushed in
      let even : length (set moved place y) ≡ v.len = omega (arith, length-set moved place y, ap length same, length-raised more place fits, ap length pushed, v.ok.0) in
      let front : take place (raised place more) ≡ take place xs = same_lists _ _ (search (rules, places)) (λ k d h. grind (arith, places)) in
      let back : drop (suc place) (raised place more) ≡ drop place xs = same_lists _ _ (search (rules, places)) (λ k d h. grind (arith, places)) in
      with_items_is v (set moved place y) even
      ∙ ap (λ l. set l place y) same
      ∙ set_split (raised place more) place y (omega (arith, length-raised more place fits))
      ∙ rw (front, back) refl

  -- once they were moved down, the last one goes
  pub take_moved : (front : List T) (last : T) → place < length v.items → moved ≡ lowered place (length v.items - 1) v.items → (with_items v moved).items ≡ front ++ last ∷ [] → front ≡ remove v.items place
  take_moved front last inside is taken =
      let xs = v.items in
      let n = length xs - 1 in
      let long = length-lowered place xs n (omega arith) (omega arith) in
      let whole = with_items_is v moved (omega (arith, ap length is, long, v.ok.0)) in
      let parts : front ++ last ∷ [] ≡ lowered place n xs = sym taken ∙ whole ∙ is in
      sym (take_at front (last ∷ []) n (omega (arith, ap length parts, length-append front (last ∷ []), long)))
      ∙ ap (take n) parts
      ∙ same_lists _ _ (search (rules, places)) (λ k d h. grind (arith, places))
