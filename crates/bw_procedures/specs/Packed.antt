-- Receipts in few bytes: what marks and words tell, read from the last to the first.
use Rattle.std.specs.Prelude.{◌≡◌, ℕ, ◌+◌, ◌-◌, ◌*◌, ◌<◌, ◌≤◌, ◌^◌, Bool, true, false, List, [], ◌∷◌, ◌++◌, reverse, get_or, take, drop, Some, None, length, vec_len, vec_capacity}
use Rattle.bw_keys.specs.declared.page.Pid.{Pid}
use Rattle.bw_step.specs.declared.receipt.Kind.TheVariants as kinds
use Rattle.bw_step.specs.declared.receipt.Receipt.{Receipt}
use Rattle.bw_step.specs.declared.receipt.Receipt.TheVariants as receipts
use Rattle.bw_procedures.specs.declared.packed.Form.{Form}
use Rattle.bw_procedures.specs.declared.packed.Form.TheVariants.{Inserted, Deleted, Modified, Found, Missed, Whole}
use Rattle.bw_procedures.specs.declared.packed.Mark.{Mark}
use Rattle.bw_procedures.specs.declared.packed.Packing.{Packing}

-- the last of the words, and those before it
abbrev pub top : List ℕ → ℕ
top words = get_or words 0 0

abbrev pub below : List ℕ → List ℕ
below words = drop 1 words

-- the words before those of a mark
abbrev pub words_before : Form → List ℕ → List ℕ
words_before Inserted words = below (below words)
words_before Deleted words = below (below words)
words_before Modified words = below (below (below words))
words_before Found words = below (below words)
words_before Missed words = below words
words_before Whole words = below words

-- the whole receipts before that of a mark, if it has one
abbrev pub wholes_before : Form → List Receipt → List Receipt
wholes_before Whole wholes = drop 1 wholes
wholes_before _ wholes = wholes

-- the receipt of a mark with this number, or none where a whole one is missing
abbrev pub receipt_by : Form → ℕ → List ℕ → List Receipt → List Receipt
receipt_by Inserted number words wholes =
    receipts.Inserted number (top (below words)) (top words) ∷ []
receipt_by Deleted number words wholes =
    receipts.Deleted number (top (below words)) (top words) ∷ []
receipt_by Modified number words wholes =
    receipts.Modified number (top (below (below words))) (top (below words)) (top words) ∷ []
receipt_by Found number words wholes =
    receipts.Looked number (top (below words)) (Some (top words)) ∷ []
receipt_by Missed number words wholes = receipts.Looked number (top words) None ∷ []
receipt_by Whole number words wholes = take 1 wholes

-- the number before that of a mark
abbrev pub number_before : Form → ℕ → ℕ → List ℕ → ℕ
number_before Whole step number words = top words
number_before _ step number words = number - step

-- the consolidation behind a mark
abbrev pub consolidation_of : Bool → Pid → List Receipt
consolidation_of true page = receipts.Shaped kinds.Consolidate page None ∷ []
consolidation_of false page = []

-- all receipts from the last to the first, by marks, words and whole receipts in that order, the
-- last mark with this number
abbrev pub latest : ℕ → List Mark → List ℕ → List Receipt → List Receipt
latest number [] words wholes = []
latest number (mark ∷ marks) words wholes =
    consolidation_of mark.is_consolidated mark.page ++ receipt_by mark.form number words wholes
    ++ latest (number_before mark.form mark.step number words) marks
    (words_before mark.form words) (wholes_before mark.form wholes)

-- all receipts in their order
unfoldable pub told : ℕ → List Mark → List ℕ → List Receipt → List Receipt
told number marks words wholes =
    reverse (latest number (reverse marks) (reverse words) (reverse wholes))

abbrev pub told_by : Packing → List Receipt
told_by packing = told packing.number packing.marks.items packing.words.items packing.wholes.items

-- the receipt has a key and one value
abbrev pub IsPair : Form → Type 0
IsPair Inserted = Unit {0}
IsPair Deleted = Unit {0}
IsPair Found = Unit {0}
IsPair _ = ⊥

-- a mark was added, of a receipt with this number, which isn't less than the one before
pub record IsMarked (form : Form) (number : ℕ) (old new : Packing) : Type 0 where
  pub step : ℕ
  pub page : Pid
  pub rises : number ≡ old.number + step
  pub latest : new.number ≡ number
  pub marks : new.marks.items ≡ old.marks.items
      ++ record { form = form; is_consolidated = false; step = step; page = page } ∷ []
  pub count : vec_len new.marks ≡ vec_len old.marks + 1
  pub room : vec_capacity new.marks ≡ vec_capacity old.marks
  pub words : new.words ≡ old.words
  pub wholes : new.wholes ≡ old.wholes

-- there is memory for so many receipts of any kind
pub record HasMemory (count : ℕ) (packing : Packing) : Type 0 where
  pub marks : count ≤ vec_capacity packing.marks
  pub words : 3 * count ≤ vec_capacity packing.words
  pub wholes : count ≤ vec_capacity packing.wholes

-- so many receipts of any kind take no less memory
pub record IsWithin (count : ℕ) (packing : Packing) : Type 0 where
  pub marks : vec_len packing.marks ≤ count
  pub words : vec_len packing.words ≤ 3 * count
  pub wholes : vec_len packing.wholes ≤ count

-- no memory was given back
pub record KeepsMemory (old new : Packing) : Type 0 where
  pub marks : vec_capacity old.marks ≤ vec_capacity new.marks
  pub words : vec_capacity old.words ≤ vec_capacity new.words
  pub wholes : vec_capacity old.wholes ≤ vec_capacity new.wholes

-- the memory of at most one receipt was used
pub record TakesOne (old new : Packing) : Type 0 where
  pub marks : vec_len new.marks ≤ vec_len old.marks + 1
  pub words : vec_len new.words ≤ vec_len old.words + 3
  pub wholes : vec_len new.wholes ≤ vec_len old.wholes + 1

-- nothing was added, and no memory used
pub record TakesNone (old new : Packing) : Type 0 where
  pub marks : vec_len new.marks ≡ vec_len old.marks
  pub words : vec_len new.words ≡ vec_len old.words
  pub wholes : vec_len new.wholes ≡ vec_len old.wholes

-- so many receipts are told, and there is memory for so many more
pub record IsKept (count spare : ℕ) (packing : Packing) : Type 0 where
  pub told : count ≡ length (told_by packing)
  pub small : count + spare < 2 ^ 64
  pub within : IsWithin count packing
  pub memory : HasMemory (count + spare) packing

-- what callers see: the receipts, and for how many there is room
pub record PackedValue : Type 0 where
  pub receipts : List Receipt
  pub room : ℕ
