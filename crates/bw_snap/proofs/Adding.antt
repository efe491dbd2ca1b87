-- The exchange that announces a list keeps the rule of announcements.
use Rattle.std.proofs.Common.{◌≡◌, ℕ, ◌+◌, ◌<◌, ◌==◌, Bool, true, false, List, [], ◌∷◌, ◌++◌, length, refl, ap, sym, subst, arith, inl, append-nil, length-append, None, MatchBool}
use Rattle.std.proofs.lemmas.Bool.Decides.{nat_tests}
use mathlib.Core.List.{IsPrefix}
use prog.Atomic.{either}
use Rattle.logbook.specs.Pages.{Cell, cell, keeps, no_nib, step, Moves, Goes}
use Rattle.bw_step.specs.Proposals.{Proposal}
use Rattle.bw_snap.specs.Snapshots.{BeginsWith}
use Rattle.bw_snap.specs.Fronts.{IsKept, Adds, Rise, newest}
use Rattle.bw_snap.proofs.Beginnings.{whole_begins, one_more_rises}

abbrev Log : Type 0
Log = List (List Proposal)

abbrev pub shown : Log → Log
shown log = []

abbrev pub moved : Log → Log → ℕ → Type 0
moved before after answer = Unit {0}

-- the lists that were seen, and the one that is to be added, while the word is expected to be their number
module _ (log seen : Log) (steps : List Proposal) (old : ℕ) (number : length seen ≡ old) (goes_on : BeginsWith steps (newest [] seen)) (rising : Rise [] log) (begins : IsPrefix seen log) where
  abbrev Steps : Type 0
  Steps = Goes IsKept shown moved 0 (seen, (no_nib, None)) (λ n. either (n == old) (old + 1) n) (Adds (step 0 old (old + 1) steps) (seen, (no_nib, None))) ((length log, true) ∷ (0, true) ∷ []) log

  pub by_what_is_found : (b : Bool) → (length log == old) ≡ b → Steps
  by_what_is_found true is =
      let here : length log ≡ old = grind (arith, nat_tests) in
      let same : seen ≡ log = whole_begins seen log begins (omega arith) in
      let rising_on : Rise [] (log ++ steps ∷ []) = one_more_rises [] log steps rising (subst (λ (l : Log). BeginsWith steps (newest [] l)) same goes_on) in
      let word : either (length log == old) (old + 1) (length log) ≡ length (log ++ steps ∷ []) = rw is (omega (arith, length-append log (steps ∷ []))) in (
        keeps,
        steps ∷ [],
        None,
        tt,
        record { words = ap (λ (k : ℕ). (k, true) ∷ (0, true) ∷ []) word; rising = rising_on },
        inl (refl, refl),
        rw is (ap (λ (l : Log). l ++ steps ∷ []) (sym same)),
      )
  by_what_is_found false is =
      let all : log ++ [] ≡ log = append-nil log in
      let rising_on : Rise [] (log ++ []) = subst (λ (l : Log). Rise [] l) (sym all) rising in
      let word : either (length log == old) (old + 1) (length log) ≡ length (log ++ []) = rw is (ap length (sym all)) in (
        keeps,
        [],
        None,
        tt,
        record { words = ap (λ (k : ℕ). (k, true) ∷ (0, true) ∷ []) word; rising = rising_on },
        inl (refl, refl),
        rw is tt,
      )

-- whatever was announced, the exchange adds the list to all that was seen, or finds that more was announced
pub adding_keeps_the_rule : (seen : Log) (steps : List Proposal) (old : ℕ) → length seen ≡ old → BeginsWith steps (newest [] seen)
    → Moves IsKept shown moved 0 (seen, (no_nib, None)) (λ n. either (n == old) (old + 1) n) (Adds (step 0 old (old + 1) steps) (seen, (no_nib, None)))
adding_keeps_the_rule seen steps old number goes_on cells log kept begins away =
    let P : List Cell → Type 0 = λ cs. (0 < length cs) × ((cell cs 0).1 ≡ true) × Goes IsKept shown moved 0 (seen, (no_nib, None)) (λ n. either (n == old) (old + 1) n) (Adds (step 0 old (old + 1) steps) (seen, (no_nib, None))) cs log in
    subst P (sym kept.words) (omega arith, refl, by_what_is_found log seen steps old number goes_on kept.rising begins (length log == old) refl)

-- where the number found is the one expected, the list was added
pub was_added : (found old : ℕ) (P Q : Type 0) → found ≡ old → MatchBool (found == old) P Q → P
was_added found old P Q same by =
    let test : (found == old) ≡ true = grind (arith, nat_tests, same) in
    rw test at by
