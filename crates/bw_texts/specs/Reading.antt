-- How the records of a text read, each after the rows before it.
use Rattle.std.specs.Prelude.{ℕ, ◌+◌, ◌≡◌, ◌≤◌, ⊤, List, [], ◌∷◌, ◌++◌, length, Option, Some, Result, Ok, Err}
use Rattle.csv.specs.Reading.{AreRecords, Reached, Ready, default_config, reader_config, reader_state, reader_trim, source_of, strip_bom}
use Rattle.csv.specs.declared.reader.Reader.{Reader}
use Rattle.csv.specs.declared.reader.Trim.TheVariants as trims
use Rattle.csv.specs.declared.parser.State.{State}
use Rattle.csv.specs.declared.parser.State.TheVariants as st
use Rattle.bw_texts.specs.declared.part.Part.{Part}
use Rattle.bw_texts.specs.declared.fault.TextFault.{TextFault}
use Rattle.bw_texts.specs.declared.fault.TextFault.TheVariants as faults

-- the fields of a record
abbrev pub Fields : Type 0
Fields = List (List ℕ)

-- a reader reads records by the rules of CSV, from the first row on
pub record IsOpen {R : Type 0} (reader : Reader R) : Type 0 where
  pub whole : reader_trim reader ≡ trims.None
  pub ready : Ready reader
  pub plain : reader_config reader ≡ default_config

-- a reader of a text has read these records, and has the rest of its bytes left
abbrev pub HasRead : {R : Type 0} → (R → Option (List ℕ)) → Reader R → List ℕ → List Fields → Type 0
HasRead remaining reader bytes records =
    (left : List ℕ) × (source_of remaining reader ≡ Some left)
    × Reached default_config st.StartRecord (strip_bom bytes) records (reader_state reader) left

-- a reader has read one more record, whatever it has read before
abbrev pub ReadsMore : {R : Type 0} → (R → Option (List ℕ)) → Reader R → Reader R → Fields → Type 0
ReadsMore remaining old new fields =
    (bytes : List ℕ) (records : List Fields) → HasRead remaining old bytes records
    → HasRead remaining new bytes (records ++ fields ∷ [])

-- these are all records of a text
abbrev pub AreAllRecords : List ℕ → List Fields → Type 0
AreAllRecords bytes records = AreRecords default_config st.StartRecord (strip_bom bytes) records

-- what a reader has read is all that there is
abbrev pub HasReadAll : {R : Type 0} → (R → Option (List ℕ)) → Reader R → Type 0
HasReadAll remaining reader =
    (bytes : List ℕ) (records : List Fields) → HasRead remaining reader bytes records → AreAllRecords bytes records

-- these are the rows of these records, each read after the rows before it
abbrev pub ReadAs : {T : Type 0} → (List T → Fields → Result T Part) → List T → List Fields → List T → Type 0
ReadAs read before [] [] = ⊤
ReadAs read before [] (row ∷ rows) = ⊥
ReadAs read before (fields ∷ records) [] = ⊥
ReadAs read before (fields ∷ records) (row ∷ rows) = (read before fields ≡ Ok row) × ReadAs read (before ++ row ∷ []) records rows

-- a reader of a text has read records as these rows
abbrev pub HasReadAs : {R T : Type 0} → (R → Option (List ℕ)) → Reader R → (List T → Fields → Result T Part) → List ℕ → List T → Type 0
HasReadAs remaining reader read bytes rows = (records : List Fields) × HasRead remaining reader bytes records × ReadAs read [] records rows

-- the records that a text begins with, by the rules of CSV
abbrev pub BeginsWith : List ℕ → List Fields → Type 0
BeginsWith bytes records = (state : State) × (left : List ℕ) × Reached default_config st.StartRecord (strip_bom bytes) records state left

-- these are the rows of the whole text
abbrev pub IsReadAs : {T : Type 0} → (List T → Fields → Result T Part) → List ℕ → List T → Type 0
IsReadAs read bytes rows = (records : List Fields) × AreAllRecords bytes records × ReadAs read [] records rows

-- the row with this number is the first of the text that can't be read, for this part
abbrev pub IsFirstFault : {T : Type 0} → (List T → Fields → Result T Part) → List ℕ → ℕ → Part → Type 0
IsFirstFault {T} read bytes number part =
    (records : List Fields) × (fields : Fields) × (rows : List T)
    × BeginsWith bytes (records ++ fields ∷ []) × ReadAs read [] records rows
    × (read rows fields ≡ Err part) × (number ≡ length records + 1)

-- the first `most` rows of the text can be read, and one more follows
abbrev pub GoesPast : {T : Type 0} → (List T → Fields → Result T Part) → List ℕ → ℕ → Type 0
GoesPast {T} read bytes most =
    (records : List Fields) × (fields : Fields) × (rows : List T)
    × BeginsWith bytes (records ++ fields ∷ []) × ReadAs read [] records rows × (length records ≡ most)

-- a fault of the reader or of memory, of which nothing is said
abbrev pub IsExcused : TextFault → Type 0
IsExcused (faults.Row number part) = ⊥
IsExcused faults.Rows = ⊥
IsExcused faults.Read = ⊤
IsExcused faults.Memory = ⊤

-- why a text of at most `most` rows isn't read: a row after these isn't looked at
abbrev pub ExplainsFault : {T : Type 0} → (List T → Fields → Result T Part) → ℕ → List ℕ → TextFault → Type 0
ExplainsFault read most bytes (faults.Row number part) = IsFirstFault read bytes number part × (number ≤ most)
ExplainsFault read most bytes faults.Rows = GoesPast read bytes most
ExplainsFault read most bytes faults.Read = ⊤
ExplainsFault read most bytes faults.Memory = ⊤
