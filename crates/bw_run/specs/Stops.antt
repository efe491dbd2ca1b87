-- Why a worker may stop.
use Rattle.std.specs.Prelude.{◌≡◌, Bool, true}
use Rattle.bw_run.specs.declared.answers.Stop.{Stop}
use Rattle.bw_run.specs.declared.answers.Stop.TheVariants.{Fault, Closed}

-- a reader finds nothing to read only where one may
abbrev pub MayStop : Bool → Stop → Type 0
MayStop may_close (Fault fault) = Unit {0}
MayStop may_close Closed = may_close ≡ true
