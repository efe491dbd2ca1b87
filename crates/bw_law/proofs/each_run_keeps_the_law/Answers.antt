use Rattle.bw_law.specs.Tables.{new_table}
use Rattle.bw_law.proofs.AllSteps.{run_keeps}
use Rattle.bw_law.proofs.NewTable.{new_law}
use Rattle.bw_law.proofs.each_run_keeps_the_law.Goals as goal

pub returns : goal.returns
returns c = λ config good version steps.
    let new = new_law config good version in run_keeps (new_table config) steps new.lawful new.booked
