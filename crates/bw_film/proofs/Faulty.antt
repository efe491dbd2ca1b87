-- Rows and lines that end a film.
use Rattle.std.proofs.Common.{◌≡◌, ℕ, ◌+◌, ◌-◌, ◌<◌, ◌≤◌, List, length, get_or, None, ap, ◌∙◌, arith}
use Rattle.std.proofs.lemmas.List.{get_or_default}
use Rattle.bw_keys.specs.declared.config.Config.{Config}
use Rattle.bw_keys.specs.Limits.{first_bad_field}
use Rattle.bw_texts.specs.declared.trace.row.Row.{Row}
use Rattle.bw_film.specs.declared.fault.FilmFault.{FilmFault}
use Rattle.bw_film.specs.declared.fault.FilmFault.TheVariants.{Config as BadConfig, Stopped, Script, Memory}
use Rattle.bw_scripts.specs.Played.{one_more}
use Rattle.bw_scripts.specs.declared.player.TheConstants.{MOST_LINES}
use Rattle.bw_scripts.specs.declared.fault.ScriptFault.TheVariants as scripts
use Rattle.bw_film.specs.Faults.{IsFaultAtRow, IsLineFault, IsRowFault, IsRowOf, IsRowsFault, IsScriptFault}

own_row : (rows : List Row) (place : ℕ) (row : Row) → place < length rows → get_or rows place row ≡ row → IsRowOf rows row.worker (place + 1)
own_row rows place row inside at =
    let back : place + 1 - 1 ≡ place = omega arith in
    record {
      from_one = omega arith;
      within = omega (arith, inside);
      own = λ d. ap (λ k. (get_or rows k d).worker) back ∙ ap (λ (r : Row). r.worker) (get_or_default rows place d row inside ∙ at);
    }

-- the fault of a row is that of its worker at its place
pub row_gives_up : (rows : List Row) (place : ℕ) (row : Row) (fault : FilmFault) → place < length rows → get_or rows place row ≡ row → IsRowFault row.worker (place + 1) fault → IsFaultAtRow rows place fault
row_gives_up rows place row (BadConfig bad) inside at is = absurd is
row_gives_up rows place row (Stopped worker number fault) inside at is = (is.1, rw (is.0, is.1) (own_row rows place row inside at))
row_gives_up rows place row (Script fault) inside at is = absurd is
row_gives_up rows place row Memory inside at is = tt

-- and that of the trace
pub rows_give_up : (config : Config) (rows : List Row) (place : ℕ) (fault : FilmFault) → first_bad_field config ≡ None → IsFaultAtRow rows place fault → IsRowsFault config rows fault
rows_give_up config rows place (BadConfig bad) good is = absurd is
rows_give_up config rows place (Stopped worker number fault) good is = (good, is.1)
rows_give_up config rows place (Script fault) good is = absurd is
rows_give_up config rows place Memory good is = tt

-- the fault of a line is that of the script
pub line_gives_up : (lines : ℕ) (fault : FilmFault) → lines ≤ MOST_LINES → IsLineFault (one_more lines) fault → IsScriptFault fault
line_gives_up lines (BadConfig bad) within is = absurd is
line_gives_up lines (Stopped worker number fault) within is = absurd is
line_gives_up lines (Script (scripts.Line number)) within is = (omega (arith, is, within), omega (arith, is, within))
line_gives_up lines (Script scripts.NoTable) within is = absurd is
line_gives_up lines (Script scripts.Lines) within is = tt
line_gives_up lines (Script scripts.Read) within is = tt
line_gives_up lines (Script scripts.Memory) within is = tt
line_gives_up lines Memory within is = tt
