use Rattle.std.proofs.Common.{◌-◌}
use Rattle.bw_run.proofs.runner.run_counted.Given as goal

abbrev pub ghosts-run_locked-I-Ledger : goal.ghosts-run_locked-I-Ledger
ghosts-run_locked-I-Ledger g a = record { name = a.blanks.insertions.name; parts = a.blanks.insertions.parts - 1 }

abbrev pub ghosts-run_locked-D-Ledger : goal.ghosts-run_locked-D-Ledger
ghosts-run_locked-D-Ledger g a = record { name = a.blanks.removals.name; parts = a.blanks.removals.parts - 1 }

abbrev pub ghosts-run_locked-I-MadeBy : goal.ghosts-run_locked-I-MadeBy
ghosts-run_locked-I-MadeBy g a = record { config = a.config }

abbrev pub ghosts-run_read-N-Ledger : goal.ghosts-run_read-N-Ledger
ghosts-run_read-N-Ledger g a = record { name = a.blanks.insertions.name; parts = a.blanks.insertions.parts - 1 }

abbrev pub ghosts-run_read-D-Ledger : goal.ghosts-run_read-D-Ledger
ghosts-run_read-D-Ledger g a = record { name = a.blanks.removals.name; parts = a.blanks.removals.parts - 1 }

abbrev pub ghosts-run_read-N-MadeBy : goal.ghosts-run_read-N-MadeBy
ghosts-run_read-N-MadeBy g a = record { config = a.config }

abbrev pub ghosts-run_read-N-Naming : goal.ghosts-run_read-N-Naming
ghosts-run_read-N-Naming g a = record { announcements = a.announcements.seen.book }
