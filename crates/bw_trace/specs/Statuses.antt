-- The statuses with which the program ends.
use Rattle.std.specs.Prelude.{ℕ}
use Rattle.bw_audit.specs.declared.verdict.Verdict.{Verdict}
use Rattle.bw_audit.specs.declared.verdict.Verdict.TheVariants as verdicts
use Rattle.bw_run.specs.declared.fault.RunFault.{RunFault}
use Rattle.bw_run.specs.declared.fault.RunFault.TheVariants as runs
use Rattle.bw_texts.specs.declared.fault.OutFault.{OutFault}
use Rattle.bw_texts.specs.declared.fault.OutFault.TheVariants as outs
use Rattle.bw_texts.specs.declared.fault.TextFault.{TextFault}
use Rattle.bw_texts.specs.declared.fault.TextFault.TheVariants as texts
use Rattle.bw_film.specs.declared.fault.FilmFault.{FilmFault}
use Rattle.bw_film.specs.declared.fault.FilmFault.TheVariants as films
use Rattle.bw_scripts.specs.declared.fault.ScriptFault.{ScriptFault}
use Rattle.bw_scripts.specs.declared.fault.ScriptFault.TheVariants as scripts
use Rattle.bw_trace.specs.declared.program.fault.Fault.{Fault}
use Rattle.bw_trace.specs.declared.program.fault.Fault.TheVariants as faults

-- a text that can't be read is bad input, and one that is too long meets a limit, as want of memory does
abbrev pub text_status : TextFault → ℕ
text_status (texts.Row number part) = 1
text_status texts.Read = 1
text_status texts.Rows = 3
text_status texts.Memory = 3

-- a run that can't begin as asked is bad usage, and one whose history isn't legal has a status of its own
abbrev pub run_status : RunFault → ℕ
run_status (runs.Config bad) = 2
run_status runs.Workers = 2
run_status runs.Readers = 2
run_status runs.Trees = 2
run_status runs.NoReader = 3
run_status runs.Threads = 3
run_status runs.Memory = 3
run_status (runs.Stopped worker number fault) = 3
run_status (runs.Audit worker receipt) = 4
run_status (runs.TreeAudit tree worker receipt) = 4
run_status runs.OtherRange = 3

-- so it is with a script, and one that makes no table is bad input
abbrev pub script_status : ScriptFault → ℕ
script_status (scripts.Line number) = 1
script_status scripts.NoTable = 1
script_status scripts.Read = 1
script_status scripts.Lines = 3
script_status scripts.Memory = 3

abbrev pub status_of : Fault → ℕ
status_of (faults.Usage error) = 2
status_of (faults.Bad field) = 2
status_of (faults.Text fault) = text_status fault
status_of (faults.Run fault) = run_status fault
status_of (faults.Script fault) = script_status fault
status_of (faults.Open name why) = 1
status_of faults.Write = 1
status_of faults.Memory = 3

-- what isn't written is the program's own fault
abbrev pub fault_of : OutFault → Fault
fault_of outs.Write = faults.Write
fault_of outs.Memory = faults.Memory

-- a film that stops is as a run of its rows, or a script of its lines, that stops there
abbrev pub film_fault_of : FilmFault → Fault
film_fault_of (films.Config bad) = faults.Run (runs.Config bad)
film_fault_of (films.Stopped worker number fault) = faults.Run (runs.Stopped worker number fault)
film_fault_of (films.Script fault) = faults.Script fault
film_fault_of films.Memory = faults.Memory

-- 0 for a legal history alone
abbrev pub verdict_status : Verdict → ℕ
verdict_status verdicts.Yes = 0
verdict_status (verdicts.No worker receipt) = 4
