-- One more record that reads, and why a text isn't read.
use Rattle.std.proofs.Common.{◌≡◌, ◌<◌, ◌≤◌, ◌+◌, ◌++◌, ◌∷◌, [], ℕ, List, Ok, Err, Result, length, arith, ap, sym, ◌∙◌, append_assoc, Option, IfErr, subst}
use Rattle.std.specs.Prelude.{IsErrAnd}
use Rattle.std.specs.List.{AllByRecursion}
use Rattle.std.proofs.lemmas.List.{append-nil}
use Rattle.bw_texts.specs.declared.part.Part.{Part}
use Rattle.bw_texts.specs.declared.fault.TextFault.{TextFault}
use Rattle.bw_texts.specs.declared.fault.TextFault.TheVariants as faults
use Rattle.csv.specs.declared.reader.Reader.{Reader}
use Rattle.bw_texts.specs.Reading.{Fields, HasReadAll, HasReadAs, IsReadAs, IsFirstFault, GoesPast, ReadAs, IsExcused, ExplainsFault, ReadsMore}

pub as_many : {T : Type 0} (read : List T → Fields → Result T Part) (before : List T) (records : List Fields) (rows : List T)
    → ReadAs read before records rows → length records ≡ length rows
as_many read before [] [] h = omega arith
as_many read before [] (row ∷ rows) h = absurd h
as_many read before (fields ∷ records) [] h = absurd h
as_many read before (fields ∷ records) (row ∷ rows) h =
    let e = as_many read (before ++ row ∷ []) records rows h.1 in
    omega arith

pub one_more : {T : Type 0} (read : List T → Fields → Result T Part) (before : List T) (records : List Fields) (rows : List T) (fields : Fields) (row : T)
    → ReadAs read before records rows → Ok row ≡ read (before ++ rows) fields → ReadAs read before (records ++ fields ∷ []) (rows ++ row ∷ [])
one_more read before [] [] fields row h e = (sym (e ∙ ap (λ t. read t fields) (append-nil before)), tt)
one_more read before [] (r ∷ rows) fields row h e = absurd h
one_more read before (f ∷ records) [] fields row h e = absurd h
one_more read before (f ∷ records) (r ∷ rows) fields row h e =
    (h.0, one_more read (before ++ r ∷ []) records rows fields row h.1 (e ∙ ap (λ t. read t fields) (sym (append_assoc before (r ∷ []) rows))))

pub excused : {T : Type 0} (read : List T → Fields → Result T Part) (most : ℕ) (bytes : List ℕ) (fault : TextFault)
    → IsExcused fault → ExplainsFault read most bytes fault
excused read most bytes (faults.Row number part) h = absurd h
excused read most bytes faults.Rows h = absurd h
excused read most bytes faults.Read h = tt
excused read most bytes faults.Memory h = tt

pub row_read : {R T : Type 0} (remaining : R → Option (List ℕ)) (old new : Reader R) (read : List T → Fields → Result T Part) (bytes : List ℕ) (rows : List T) (fields : Fields) (row : T)
    → HasReadAs remaining old read bytes rows → ReadsMore remaining old new fields → Ok row ≡ read rows fields → HasReadAs remaining new read bytes (rows ++ row ∷ [])
row_read remaining old new read bytes rows fields row h more e =
    (h.0 ++ fields ∷ [], more bytes h.0 h.1, one_more read [] h.0 rows fields row h.2 e)

pub all_read : {R T : Type 0} (remaining : R → Option (List ℕ)) (old : Reader R) (read : List T → Fields → Result T Part) (bytes : List ℕ) (rows : List T)
    → HasReadAs remaining old read bytes rows → HasReadAll remaining old → IsReadAs read bytes rows
all_read remaining old read bytes rows h end = (h.0, end bytes h.0 h.1, h.2)

pub row_faulty : {R T : Type 0} (remaining : R → Option (List ℕ)) (old new : Reader R) (read : List T → Fields → Result T Part) (bytes : List ℕ) (rows : List T) (fields : Fields) (most number : ℕ) (part : Part)
    → HasReadAs remaining old read bytes rows → ReadsMore remaining old new fields → Err part ≡ read rows fields → number ≡ length rows → number < most
    → IsFirstFault read bytes (number + 1) part × (number + 1 ≤ most)
row_faulty remaining old new read bytes rows fields most number part h more e count below =
    let begun = more bytes h.0 h.1 in
    let as_much = as_many read [] h.0 rows h.2 in
    ((h.0, fields, rows, (_, begun.0, begun.2), h.2, sym e, omega arith), omega arith)

pub row_past : {R T : Type 0} (remaining : R → Option (List ℕ)) (old new : Reader R) (read : List T → Fields → Result T Part) (bytes : List ℕ) (rows : List T) (fields : Fields) (most : ℕ)
    → HasReadAs remaining old read bytes rows → ReadsMore remaining old new fields → length rows ≡ most → GoesPast read bytes most
row_past remaining old new read bytes rows fields most h more count =
    let begun = more bytes h.0 h.1 in
    let as_much = as_many read [] h.0 rows h.2 in
    (h.0, fields, rows, (_, begun.0, begun.2), h.2, omega arith)

-- what is true of all rows and of one more
pub all_more : {T : Type 0} (P : T → Type 0) (rows : List T) (row : T) → AllByRecursion P rows → P row → AllByRecursion P (rows ++ row ∷ [])
all_more P [] row all here = (here, tt)
all_more P (first ∷ rows) row all here = (all.0, all_more P rows row all.1 here)

-- an error that is passed on
pub passed_on : {T E : Type 0} (r : Result T E) (fault : E) (P : E → Type 0) → IsErrAnd r (λ e. e ≡ fault) → P fault → IfErr r P
passed_on (Ok x) fault P h p = absurd h
passed_on (Err e) fault P h p = subst P (sym h) p
