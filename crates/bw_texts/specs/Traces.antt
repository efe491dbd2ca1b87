-- How a row of a trace reads among the others.
use Rattle.std.specs.Prelude.{ℕ, List, Result}
use Rattle.bw_texts.specs.declared.trace.row.Row.{Row}
use Rattle.bw_texts.specs.declared.part.Part.{Part}
use Rattle.bw_texts.specs.Reading.{Fields, IsReadAs}
use Rattle.bw_texts.specs.Rows.{row_of}

-- a row of a trace reads by itself, whatever stands before it
abbrev pub trace_row : ℕ → List Row → Fields → Result Row Part
trace_row workers before fields = row_of workers fields

-- the bytes are a trace of these rows, for this number of workers
abbrev pub IsTrace : ℕ → List Row → List ℕ → Type 0
IsTrace workers rows bytes = IsReadAs (trace_row workers) bytes rows
