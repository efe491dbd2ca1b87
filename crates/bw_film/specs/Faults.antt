-- Why there is no film.
use Rattle.std.specs.Prelude.{◌≡◌, ℕ, ◌+◌, ◌-◌, ◌≤◌, List, length, None, Some, slice_index_or}
use Rattle.bw_keys.specs.declared.config.Config.{Config}
use Rattle.bw_keys.specs.Limits.{first_bad_field}
use Rattle.bw_scripts.specs.declared.fault.ScriptFault.{ScriptFault}
use Rattle.bw_scripts.specs.declared.fault.ScriptFault.TheVariants.{Line}
use Rattle.bw_scripts.specs.declared.player.TheConstants.{MOST_LINES}
use Rattle.bw_scripts.specs.Faults.{IsLineFault as IsFaultAtLine}
use Rattle.bw_texts.specs.declared.trace.row.Row.{Row}
use Rattle.bw_film.specs.declared.fault.FilmFault.{FilmFault}
use Rattle.bw_film.specs.declared.fault.FilmFault.TheVariants.{Config as BadConfig, Stopped, Script, Memory}

-- the row with this number, counted from 1, is the worker's
pub record IsRowOf (rows : List Row) (worker number : ℕ) : Type 0 where
  pub from_one : 1 ≤ number
  pub within : number ≤ length rows
  pub own : (d : Row) → (slice_index_or rows (number - 1) d).worker ≡ worker

-- of a row of a worker: it was given up, or memory was wanting
abbrev pub IsRowFault : ℕ → ℕ → FilmFault → Type 0
IsRowFault worker number (BadConfig bad) = ⊥
IsRowFault worker number (Stopped who at fault) = (who ≡ worker) × (at ≡ number)
IsRowFault worker number (Script fault) = ⊥
IsRowFault worker number Memory = Unit

-- of the row at the place: it was given up, or memory was wanting
abbrev pub IsFaultAtRow : List Row → ℕ → FilmFault → Type 0
IsFaultAtRow rows place (BadConfig bad) = ⊥
IsFaultAtRow rows place (Stopped worker number fault) = (number ≡ place + 1) × IsRowOf rows worker number
IsFaultAtRow rows place (Script fault) = ⊥
IsFaultAtRow rows place Memory = Unit

-- of a trace: a bad configuration, a row that was given up, or want of memory
abbrev pub IsRowsFault : Config → List Row → FilmFault → Type 0
IsRowsFault config rows (BadConfig bad) = first_bad_field config ≡ Some bad.0
IsRowsFault config rows (Stopped worker number fault) = (first_bad_field config ≡ None) × IsRowOf rows worker number
IsRowsFault config rows (Script fault) = ⊥
IsRowsFault config rows Memory = Unit

-- of a line of a script
abbrev pub IsLineFault : ℕ → FilmFault → Type 0
IsLineFault number (BadConfig bad) = ⊥
IsLineFault number (Stopped worker at fault) = ⊥
IsLineFault number (Script fault) = IsFaultAtLine number fault
IsLineFault number Memory = Unit

-- a line that is named is counted from 1, and is at most the first one too many
abbrev pub NamesALine : ScriptFault → Type 0
NamesALine (Line number) = (1 ≤ number) × (number ≤ MOST_LINES + 1)
NamesALine fault = Unit

-- of a script: what its lines say, or want of memory
abbrev pub IsScriptFault : FilmFault → Type 0
IsScriptFault (BadConfig bad) = ⊥
IsScriptFault (Stopped worker number fault) = ⊥
IsScriptFault (Script fault) = NamesALine fault
IsScriptFault Memory = Unit
