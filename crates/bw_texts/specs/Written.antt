-- What is written of a trace.
use Rattle.std.specs.Prelude.{ℕ, ◌≡◌, ◌∷◌, [], List, OnOk, Option, Result, codes, decimal, flat_map, true, false}
use Rattle.std.specs.Io.KnownBytes.{Appends}
use Rattle.csv.specs.Writing.{default_writer, fields_written, has_written, row_text, text_written, with_flexible, writer_setup}
use Rattle.csv.specs.declared.writer.Writer.{Writer}
use Rattle.csv.specs.declared.writer.WriterBuilder.{WriterBuilder}
use Rattle.bw_keys.specs.declared.range.Fence.{Fence}
use Rattle.bw_keys.specs.declared.range.Fence.TheVariants as fences
use Rattle.bw_texts.specs.declared.trace.row.Row.{Row}
use Rattle.bw_procedures.specs.declared.act.Act.{Act}
use Rattle.bw_procedures.specs.declared.act.Act.TheVariants.{Put, Set, Get, Delete, Clear}

-- how records are written: by the defaults, but of any length
abbrev pub flexible_writer : WriterBuilder
flexible_writer = with_flexible default_writer true

-- a writer stands between two records
pub record IsBetween {W : Type 0} (writer : Writer W) : Type 0 where
  pub begun : fields_written writer ≡ 0
  pub shown : has_written writer ≡ false
  pub flexible : writer_setup writer ≡ flexible_writer

-- a writer has written a text, and stands between two records again
pub record HasWritten {W : Type 0} (contents : W → Option (List ℕ)) (old new : Writer W) (bytes : List ℕ) : Type 0 where
  pub between : IsBetween new
  pub text : Appends (text_written contents old) (text_written contents new) bytes

-- Ok where the text is written; after an Err nothing is said of the writer
abbrev pub Writes : {W T E : Type 0} → (W → Option (List ℕ)) → Writer W → Writer W → Result T E → List ℕ → Type 0
Writes contents old new result text = OnOk result (HasWritten contents old new text)

-- Ok where one record of these fields is written
abbrev pub Puts : {W T E : Type 0} → (W → Option (List ℕ)) → Writer W → Writer W → Result T E → List (List ℕ) → Type 0
Puts contents old new result fields = Writes contents old new result (row_text flexible_writer fields)

-- where a range ends; nothing stands for Top
abbrev pub fence_text : Fence → List ℕ
fence_text (fences.Key high) = decimal high
fence_text fences.Top = []

abbrev pub fields_of_act : Act → List (List ℕ)
fields_of_act (Put key value) = codes "put" ∷ decimal key ∷ decimal value ∷ []
fields_of_act (Set key value) = codes "set" ∷ decimal key ∷ decimal value ∷ []
fields_of_act (Get key) = codes "get" ∷ decimal key ∷ [] ∷ []
fields_of_act (Delete key) = codes "del" ∷ decimal key ∷ [] ∷ []
fields_of_act (Clear low high) = codes "clr" ∷ decimal low ∷ fence_text high ∷ []

-- the fields of a row, with its numbers in decimal digits
abbrev pub fields_of_row : Row → List (List ℕ)
fields_of_row row = decimal row.worker ∷ fields_of_act row.act

-- the text of a trace, row by row
abbrev pub trace_text : List Row → List ℕ
trace_text rows = flat_map (λ row. row_text flexible_writer (fields_of_row row)) rows
