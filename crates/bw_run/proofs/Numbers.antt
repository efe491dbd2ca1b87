-- Where a worker's rows stand in a trace.
use Rattle.std.proofs.Common.{◌≡◌, ◌≢◌, ℕ, ◌+◌, ◌<◌, ◌==◌, Bool, true, false, List, [], ◌∷◌, ◌++◌, length, get_or, take, drop, refl, ap, subst, ◌∙◌, arith}
use Rattle.std.specs.Prelude.{if◌then◌else◌}
use Rattle.std.proofs.lemmas.Bool.Decides.{nat_tests}
use Rattle.std.proofs.lemmas.List.{drop_more, take_more}
use Rattle.bw_procedures.specs.declared.act.Act.{Act}
use Rattle.bw_texts.specs.declared.trace.row.Row.{Row}
use Rattle.bw_run.specs.Rows.{acts_of}

-- one row more or none
abbrev counted_if : Bool → ℕ
counted_if own = if own then 1 else 0

one_more_if : (own : Bool) (act : Act) (acts : List Act) (n : ℕ) → length acts ≡ n → length (if own then act ∷ acts else acts) ≡ counted_if own + n
one_more_if true act acts n is = omega arith
one_more_if false act acts n is = omega arith

acts_snoc : (worker : ℕ) (done : List Row) (row : Row) → length (acts_of worker (done ++ row ∷ [])) ≡ length (acts_of worker done) + counted_if (row.worker == worker)
acts_snoc worker [] row = omega (arith, one_more_if (row.worker == worker) row.act [] 0 refl)
acts_snoc worker (before ∷ done) row =
    let own = before.worker == worker in
    omega (
      arith,
      one_more_if own before.act (acts_of worker (done ++ row ∷ [])) (length (acts_of worker (done ++ row ∷ []))) refl,
      one_more_if own before.act (acts_of worker done) (length (acts_of worker done)) refl,
      acts_snoc worker done row,
    )

-- the row at a place is before the next place, and not after it
pub record IsPassed (worker : ℕ) (rows : List Row) (place count : ℕ) : Type 0 where
  pub before : length (acts_of worker (take (place + 1) rows)) ≡ length (acts_of worker (take place rows)) + count
  pub behind : length (acts_of worker (drop place rows)) ≡ count + length (acts_of worker (drop (place + 1) rows))

passed : (worker : ℕ) (rows : List Row) (place : ℕ) (d : Row) → place < length rows → IsPassed worker rows place (counted_if ((get_or rows place d).worker == worker))
passed worker rows place d inside =
    let row : Row = get_or rows place d in
    record {
      before = ap (λ (rs : List Row). length (acts_of worker rs)) (take_more rows place d inside) ∙ acts_snoc worker (take place rows) row;
      behind = ap (λ (rs : List Row). length (acts_of worker rs)) (drop_more rows place d inside)
          ∙ one_more_if (row.worker == worker) row.act (acts_of worker (drop (place + 1) rows)) (length (acts_of worker (drop (place + 1) rows))) refl;
    }

is_own : (a b : ℕ) → a ≡ b → (a == b) ≡ true
is_own a b is = grind (arith, nat_tests)

is_other : (a b : ℕ) → a ≢ b → (a == b) ≡ false
is_other a b is = grind (arith, nat_tests)

pub own_passed : (worker : ℕ) (rows : List Row) (place : ℕ) (d : Row) → place < length rows → (get_or rows place d).worker ≡ worker → IsPassed worker rows place 1
own_passed worker rows place d inside is = subst (λ b. IsPassed worker rows place (counted_if b)) (is_own (get_or rows place d).worker worker is) (passed worker rows place d inside)

pub other_passed : (worker : ℕ) (rows : List Row) (place : ℕ) (d : Row) → place < length rows → (get_or rows place d).worker ≢ worker → IsPassed worker rows place 0
other_passed worker rows place d inside is = subst (λ b. IsPassed worker rows place (counted_if b)) (is_other (get_or rows place d).worker worker is) (passed worker rows place d inside)
