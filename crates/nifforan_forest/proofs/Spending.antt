-- What the hands on several trees spend.
use Rattle.std.proofs.Common.{◌≡◌, ℕ, zero, suc, List, [], ◌∷◌, Some, refl, subst, arith}
use Rattle.std.specs.Prelude.{slice_get, slice_set}
use Rattle.bw_procedures.specs.Calls.{OnlySpends}
use Rattle.bw_procedures.specs.Seen.{Seen}
use Rattle.bw_procedures.proofs.Parts.{spends_more}
use Rattle.nifforan_forest.specs.Scans.{EachSpends}
use Rattle.nifforan_forest.proofs.Places.{some_is}

pub spends_none : (a : Seen) → OnlySpends a a
spends_none a = record { same = record { config = refl; trail = refl; full = refl; tall = refl; worn = refl }; effort = omega arith }

module _ {H : Type 0} (seen : H → Seen) (follows : H → H → Type 0) where
  pub none_spend : ((h : H) → follows h h) → (hands : List H) → EachSpends seen follows hands hands
  none_spend stays [] = tt
  none_spend stays (h ∷ hands) = (stays h, spends_none (seen h), none_spend stays hands)

  pub one_spends : ((a b c : H) → follows a b → follows b c → follows a c) → (olds news : List H) (tree : ℕ) (old now : H)
      → slice_get news tree ≡ Some old → follows old now → OnlySpends (seen old) (seen now) → EachSpends seen follows olds news
      → EachSpends seen follows olds (slice_set news tree now)
  one_spends joins [] [] tree old now is then spends all = absurd (cc)
  one_spends joins [] (n ∷ news) tree old now is then spends all = absurd all
  one_spends joins (o ∷ olds) [] tree old now is then spends all = absurd all
  one_spends joins (o ∷ olds) (n ∷ news) zero old now is then spends all =
      let same = some_is n old is in (
        joins o old now (subst (follows o) same all.0) then,
        spends_more (seen o) (seen old) (seen now)
            (subst (λ (h : H). OnlySpends (seen o) (seen h)) same all.1) spends,
        all.2,
      )
  one_spends joins (o ∷ olds) (n ∷ news) (suc tree) old now is then spends all =
      (all.0, all.1, one_spends joins olds news tree old now is then spends all.2)

  -- what a hand of the list spent
  pub spent_at : (olds news : List H) (tree : ℕ) (now : H) → slice_get news tree ≡ Some now → EachSpends seen follows olds news
      → (first : H) × (slice_get olds tree ≡ Some first) × follows first now × OnlySpends (seen first) (seen now)
  spent_at [] [] tree now is all = absurd (cc)
  spent_at [] (n ∷ news) tree now is all = absurd all
  spent_at (o ∷ olds) [] tree now is all = absurd all
  spent_at (o ∷ olds) (n ∷ news) zero now is all =
      let same = some_is n now is in (o, refl, subst (follows o) same all.0, subst (λ (h : H). OnlySpends (seen o) (seen h)) same all.1)
  spent_at (o ∷ olds) (n ∷ news) (suc tree) now is all = spent_at olds news tree now is all.2
