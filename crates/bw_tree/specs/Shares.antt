-- The shares of a tree's workers: each is a part of the book's insertions and removals.
use Rattle.std.specs.Prelude.{◌≡◌, ℕ, ◌+◌, List, Result, sum_by, Some, None, refl, MatchResult}
use Rattle.std.specs.Coded.{Coded, code_by, coded×, coded_ℕ}
use Rattle.std.specs.declared.sync.ledger.Blank.{Blank}
use Rattle.bw_step.specs.declared.survey.Book.{Book}
use Rattle.bw_step.specs.declared.receipt.Receipt.{Receipt}
use Rattle.bw_step.specs.Tellings.{Telling, change, telling_of}
use Rattle.bw_step.specs.declared.action.Performed.{Performed}

-- the number of insertions and that of removals; modifications are no part of a share
pub record ShareValue : Type 0 where
  pub inserted : ℕ
  pub removed : ℕ

-- how the logic distinguishes shares
abbrev pub share_code : Coded ShareValue
share_code =
    code_by (ℕ × ℕ) (coded× coded_ℕ coded_ℕ) (λ s. (s.inserted, s.removed))
    (λ p. record { inserted = p.0; removed = p.1 }) (λ _. refl)

abbrev pub share_of : ℕ → ℕ → ShareValue
share_of inserted removed = record { inserted = inserted; removed = removed }

-- what of a book the shares hold
abbrev pub shared_in : Book → ShareValue
shared_in book = share_of book.inserted book.removed

-- the share of a worker that has changed nothing
abbrev pub no_changes : ShareValue
no_changes = share_of 0 0

-- the share with what a receipt reports: a key that got a value was inserted,
-- and one that lost its value was removed
abbrev pub share_with : ShareValue → Telling → ShareValue
share_with share (change number key None (Some value)) =
    record share { inserted = share.inserted + 1 }
share_with share (change number key (Some value) None) =
    record share { removed = share.removed + 1 }
share_with share reported = share

-- the share after an accepted step with this receipt
abbrev pub counted : ShareValue → Receipt → ShareValue
counted share receipt = share_with share (telling_of receipt)

-- an accepted step is counted in the share, and one that is refused leaves it as it was
abbrev pub CountsIn : {E : Type 0} → ShareValue → ShareValue → Result Receipt E → Type 0
CountsIn old new result = MatchResult result (λ receipt. new ≡ counted old receipt) (λ _. new ≡ old)

-- an action that was performed is counted in the share, and one that wasn't leaves it as it was
abbrev pub CountsPerformed : {E : Type 0} → ShareValue → ShareValue → Result Performed E → Type 0
CountsPerformed old new result =
    MatchResult result (λ it. new ≡ counted old it.receipt) (λ _. new ≡ old)

-- all insertions and all removals of the shares
abbrev pub sum_of : List ShareValue → ShareValue
sum_of shares =
    share_of (sum_by (λ (share : ShareValue). share.inserted) shares)
    (sum_by (λ (share : ShareValue). share.removed) shares)

-- what two shares have together
abbrev pub together : ShareValue → ShareValue → ShareValue
together one other = share_of (one.inserted + other.inserted) (one.removed + other.removed)

-- a type with this name and this number of parts may stand for the blank ledger, which has one more
abbrev pub Opens : ℕ → ℕ → Blank → Type 0
Opens name parts blank = (blank.name ≡ name) × (blank.parts ≡ parts + 1)
