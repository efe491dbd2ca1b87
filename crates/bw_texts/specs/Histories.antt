-- How a whole history reads.
use Rattle.std.specs.Prelude.{ℕ, ◌+◌, ◌==◌, ◌≡◌, ⊤, true, cond, max, IsTrue, sum_by, List, [], ◌∷◌, ◌++◌, length, Option, slice_index_or}
use Rattle.bw_keys.specs.Ranges.{key_count}
use Rattle.bw_delta.specs.Entries.{rises}
use Rattle.bw_step.specs.declared.receipt.Receipt.{Receipt}
use Rattle.bw_step.specs.Trails.{lists_of}
use Rattle.bw_texts.specs.declared.history.line.Line.{Line}
use Rattle.bw_texts.specs.declared.history.read.History.{History}
use Rattle.bw_texts.specs.declared.history.line.Line.TheVariants.{Reply, Pair}
use Rattle.bw_texts.specs.Lines.{history_line, is_above, pairs_of, trail_of, workers_named}
use Rattle.bw_texts.specs.Reading.{IsReadAs}

-- one trail for each number from 0 to the greatest worker named, with the receipts of that worker
pub record AreTrailsOf (trails : List (List Receipt)) (lines : List Line) : Type 0 where
  pub count : length trails ≡ workers_named lines
  pub each : (worker : ℕ) → slice_index_or trails worker [] ≡ trail_of worker lines

-- the trails and the pairs of the rows of a whole text
abbrev pub IsHistory : List ℕ → List (List Receipt) → List (ℕ × ℕ) → Type 0
IsHistory bytes trails pairs = (lines : List Line) × IsReadAs history_line bytes lines × AreTrailsOf trails lines × (pairs ≡ pairs_of lines)

-- the bytes are a text of the history
abbrev pub IsTextOf : History → List ℕ → Type 0
IsTextOf history bytes = IsHistory bytes (lists_of history.trails.items) history.pairs.items

-- the keys of the pairs rise strictly
abbrev pub HaveRisingKeys : List (ℕ × ℕ) → Type 0
HaveRisingKeys pairs = rises 0 key_count pairs ≡ true

-- how many rows have these receipts and these pairs, one each
abbrev pub row_count : List (List Receipt) → List (ℕ × ℕ) → ℕ
row_count trails pairs = sum_by length trails + length pairs

-- how many rows a history has
abbrev pub rows_in : History → ℕ
rows_in history = row_count (lists_of history.trails.items) history.pairs.items

-- each worker has the receipts that it had
abbrev pub KeepsAll : List (List Receipt) → List (List Receipt) → Type 0
KeepsAll old new = (worker : ℕ) → slice_index_or new worker [] ≡ slice_index_or old worker []

-- what a row of one worker adds to the trail of another
abbrev pub added : ℕ → Receipt → ℕ → List Receipt
added named receipt worker = cond (named == worker) (receipt ∷ []) []

-- there are trails up to the worker's, and the worker's has the receipt at its end
pub record AddsReceipt (old new : List (List Receipt)) (named : ℕ) (receipt : Receipt) : Type 0 where
  pub count : length new ≡ max (length old) (named + 1)
  pub each : (worker : ℕ) → slice_index_or new worker [] ≡ slice_index_or old worker [] ++ added named receipt worker

-- a row adds its receipt or its pair, and nothing else
abbrev pub AddsLine : List (List Receipt) → List (List Receipt) → List (ℕ × ℕ) → List (ℕ × ℕ) → Line → Type 0
AddsLine trails trails2 pairs pairs2 (Reply worker receipt) = AddsReceipt trails trails2 worker receipt × (pairs2 ≡ pairs)
AddsLine trails trails2 pairs pairs2 (Pair key value) = (trails2 ≡ trails) × (pairs2 ≡ pairs ++ (key, value) ∷ [])

-- a row that has a pair has a greater key than the last one
abbrev pub IsAfter : Option ℕ → Line → Type 0
IsAfter last (Reply worker receipt) = ⊤
IsAfter last (Pair key value) = IsTrue (is_above last key)
