-- The rule of announcements, and what the step that announces a list reports.
use Rattle.std.specs.Prelude.{ℕ, ◌≡◌, ◌==◌, true, List, [], ◌∷◌, ◌++◌, length, MatchBool}
use Rattle.logbook.specs.Pages.{Cell, Step, View, Book, Named}
use Rattle.bw_step.specs.Proposals.{Proposal}
use Rattle.bw_snap.specs.Snapshots.{BeginsWith}

-- each list begins with the one before it
abbrev pub Rise : List Proposal → List (List Proposal) → Type 0
Rise first [] = Unit {0}
Rise first (steps ∷ more) = BeginsWith steps first × Rise steps more

-- the last list
abbrev pub newest : List Proposal → List (List Proposal) → List Proposal
newest first [] = first
newest first (steps ∷ more) = newest steps more

-- of the two words of a log the first is the number of the lists, and the second stays 0
pub record IsKept (cells : List Cell) (log : List (List Proposal)) : Type 0 where
  pub words : cells ≡ (length log, true) ∷ (0, true) ∷ []
  pub rising : Rise [] log

-- a list that was announced, and the log in which it was
pub record Announced : Type 0 where
  pub list : List Proposal
  pub announcements : Book

abbrev pub head_of : Book → Named
head_of announcements = record { tracked = true; key = 0; book = announcements }

-- the list was added to all that had been seen, or more lists were there
abbrev pub Adds : Step (List Proposal) → View (List Proposal) ℕ → ℕ → View (List Proposal) ℕ
    → Type 0
Adds step seen found then =
    MatchBool (found == step.old) (then.0 ≡ seen.0 ++ step.ask ∷ []) (Unit {0})
