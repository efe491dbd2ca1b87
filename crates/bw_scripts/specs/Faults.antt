-- Which line a script is blamed for.
use Rattle.std.specs.Prelude.{◌≡◌, ℕ, ◌⊎◌}
use Rattle.bw_scripts.specs.declared.fault.ScriptFault.{ScriptFault}
use Rattle.bw_scripts.specs.declared.fault.ScriptFault.TheVariants as faults

-- memory is wanting, or it is the line with the number
abbrev pub IsFaultAt : ℕ → ScriptFault → Type 0
IsFaultAt number fault = (fault ≡ faults.Memory) ⊎ (fault ≡ faults.Line number)

-- a fault at the line with the number: no other line is named, and that there is no table isn't known yet
abbrev pub IsLineFault : ℕ → ScriptFault → Type 0
IsLineFault number (faults.Line line) = line ≡ number
IsLineFault number faults.NoTable = ⊥
IsLineFault number fault = Unit
