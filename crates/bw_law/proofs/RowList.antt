-- The row of each level, as a list.
use Rattle.std.proofs.Common.{◌≡◌, ℕ, zero, suc, ◌+◌, ◌<◌, ◌≤◌, List, [], ◌∷◌, Some, None, refl, sym, ◌∙◌, ap, subst, inl, inr, ⊎_elim, arith}
use Rattle.std.proofs.lemmas.Bool.{cases_lt}
use Rattle.bw_keys.specs.Ranges.{key_count}
use Rattle.bw_step.specs.Stages.{is_in_row}
use Rattle.bw_law.specs.Rows.{Outline, Spans, InRow, Rows}
use Rattle.bw_law.specs.Tables.{outlines}
use Rattle.bw_law.specs.Walks.{Linked, IsRow, Partitions, IsAmong, RepeatsNone, IsRowOf}
use Rattle.bw_law.specs.Laws.{RowLaw}
use Rattle.bw_law.proofs.Lists.{option_cases}

-- the part of a row from a page on
record RowFrom (at : ℕ → Outline) (top p : ℕ) (rest : List ℕ) : Type 0 where
  linked : Linked at (p ∷ rest)
  partitions : Partitions at (at p).low top (p ∷ rest)
  repeats_none : RepeatsNone (p ∷ rest)
  in_row : (q : ℕ) → IsAmong (p ∷ rest) q → InRow (at q) × ((at q).level ≡ (at p).level) × ((at p).low ≤ (at q).low)
  complete : (q : ℕ) → InRow (at q) → (at q).level ≡ (at p).level → (at p).low ≤ (at q).low → IsAmong (p ∷ rest) q

module _ (top : ℕ) (at : ℕ → Outline) (root : ℕ) (law : Rows top at root) where
  -- the page that spans another's low is that page
  same_page : (p q : ℕ) → InRow (at p) → InRow (at q) → (at q).level ≡ (at p).level → Spans (at p) (at q).low → q ≡ p
  same_page p q p_in q_in level spans = law.apart q p (at q).low q_in p_in level (omega arith, law.some_key q q_in) spans

  -- a page without a right link is the last of its row
  last_page : (p : ℕ) → InRow (at p) → (at p).right ≡ None → RowFrom at top p []
  last_page p p_in none = record {
    linked = none;
    partitions = (refl, law.some_key p p_in, law.ends p p_in none);
    repeats_none = ((λ among. among), tt);
    in_row = λ q among. ⊎_elim (λ (is : q ≡ p). (grind arith, grind arith, grind arith)) (λ (nothing : ⊥). absurd nothing) among;
    complete = λ q q_in level past. inl (same_page p q p_in q_in level (past, omega (arith, law.ends p p_in none, law.within q q_in, law.some_key q q_in)));
  }

  -- a page goes before the part of the row from its right link on
  page_before : (p q : ℕ) (rest : List ℕ) → InRow (at p) → (at p).right ≡ Some q → RowFrom at top q rest → RowFrom at top p (q ∷ rest)
  page_before p q rest p_in to from =
      let next = law.linked p q p_in to in
      let wide = law.some_key p p_in in record {
        linked = (to, from.linked);
        partitions = (refl, wide, subst (λ low. Partitions at low top (q ∷ rest)) next.2 from.partitions);
        repeats_none = ((λ among. let later = from.in_row p among in omega (arith, later.2, next.2)), from.repeats_none);
        in_row = λ x among. ⊎_elim
            (λ (is : x ≡ p). (grind arith, grind arith, grind arith))
            (λ (later : IsAmong (q ∷ rest) x). let there = from.in_row x later in (there.0, there.1 ∙ next.1, omega (arith, there.2, next.2)))
            among;
        complete = λ x x_in level past. ⊎_elim
            (λ (here : (at x).low < (at p).high). inl (same_page p x p_in x_in level (past, here)))
            (λ (later : (at p).high ≤ (at x).low). inr (from.complete x x_in (level ∙ sym next.1) (omega (arith, next.2))))
            (cases_lt (at x).low (at p).high);
      }

  -- each page has the part of a row from it on
  row_from : (fuel p : ℕ) → InRow (at p) → top ≤ (at p).low + fuel → (rest : List ℕ) × RowFrom at top p rest
  row_from zero p p_in enough = absurd (omega (arith, law.some_key p p_in, law.within p p_in))
  row_from (suc fuel) p p_in enough = ⊎_elim
      (λ (none : (at p).right ≡ None). ([], last_page p p_in none))
      (λ (some : (q : ℕ) × ((at p).right ≡ Some q)).
      let next = law.linked p some.0 p_in some.1 in
      let after = row_from fuel some.0 next.0 (omega (arith, law.some_key p p_in, next.2)) in
      (some.0 ∷ after.0, page_before p some.0 after.0 p_in some.1 after.1))
      (option_cases (at p).right)

  -- there is a key
  some_top : 0 < top
  some_top = omega (arith, law.some_key root (ap is_in_row law.root_posted), law.within root (ap is_in_row law.root_posted))

  -- the row of each level is there
  pub row_of : (level : ℕ) → level ≤ (at root).level → (row : List ℕ) × IsRowOf at top level row
  row_of level under =
      let first = law.held level 0 under some_top in
      let p = first.0 in
      let begins : (at p).low ≡ 0 = omega (arith, first.3.0) in
      let after = row_from top p first.1 (omega (arith, begins)) in
      let whole = after.1 in (
        p ∷ after.0,
        record {
          is_row = (first.1, first.2, begins, whole.linked);
          partitions = subst (λ low. Partitions at low top (p ∷ after.0)) begins whole.partitions;
          repeats_none = whole.repeats_none;
          members = λ q. ((λ among. let there = whole.in_row q among in (there.0, there.1 ∙ first.2)), (λ there. whole.complete q there.0 (there.1 ∙ sym first.2) (omega (arith, begins))));
        },
      )

-- right links lead from a page to one list
same_rest : (at : ℕ → Outline) (p : ℕ) (xs ys : List ℕ) → Linked at (p ∷ xs) → Linked at (p ∷ ys) → xs ≡ ys
same_rest at p [] [] a b = refl
same_rest at p [] (y ∷ ys) a b = absurd (cc (a, b.0))
same_rest at p (x ∷ xs) [] a b = absurd (cc (a.0, b))
same_rest at p (x ∷ xs) (y ∷ ys) a b =
    let same : x ≡ y = cc (a.0, b.0) in
    let rest = same_rest at y xs ys (subst (λ z. Linked at (z ∷ xs)) same a.1) b.1 in cc

-- and is the only one
pub only_row : (top : ℕ) (at : ℕ → Outline) (root : ℕ) (law : Rows top at root) (level : ℕ) (xs ys : List ℕ) → IsRow at level xs → IsRow at level ys → xs ≡ ys
only_row top at root law level [] ys a b = absurd a
only_row top at root law level (x ∷ xs) [] a b = absurd b
only_row top at root law level (x ∷ xs) (y ∷ ys) a b =
    let same = same_page top at root law y x b.0 a.0 (a.1 ∙ sym b.1) (omega (arith, a.2, b.2), omega (arith, a.2, b.2, law.some_key y b.0)) in
    let rest = same_rest at y xs ys (subst (λ z. Linked at (z ∷ xs)) same a.3) b.3 in cc

-- so each level of a lawful table has one row
pub row_law : RowLaw
row_law table law level under =
    let at = outlines table.slots in
    let found = row_of key_count at table.root law.rows level under in
    record { row = found.0; is_row = found.1; only = λ other is. only_row key_count at table.root law.rows level other found.0 is found.1.is_row }

-- a row that was found by right links is the row
pub whole_row : (top : ℕ) (at : ℕ → Outline) (root : ℕ) (law : Rows top at root) (level : ℕ) (row : List ℕ) → level ≤ (at root).level → IsRow at level row → IsRowOf at top level row
whole_row top at root law level row under is =
    let found = row_of top at root law level under in
    subst (IsRowOf at top level) (only_row top at root law level found.0 row found.1.is_row is) found.1

-- the next page of a row, and its end

pub row_goes_on : (at : ℕ → Outline) (p q : ℕ) (rest : List ℕ) → Linked at (p ∷ rest) → (at p).right ≡ Some q → (tail : List ℕ) × (rest ≡ q ∷ tail) × Linked at (q ∷ tail)
row_goes_on at p q [] linked to = absurd (cc (linked, to))
row_goes_on at p q (next ∷ tail) linked to =
    let same : next ≡ q = cc (linked.0, to) in
    (tail, (λ i. same i ∷ tail), subst (λ x. Linked at (x ∷ tail)) same linked.1)

pub row_ends : (at : ℕ → Outline) (p : ℕ) (rest : List ℕ) → Linked at (p ∷ rest) → (at p).right ≡ None → rest ≡ []
row_ends at p [] linked none = refl
row_ends at p (next ∷ tail) linked none = absurd (cc (linked.0, none))
