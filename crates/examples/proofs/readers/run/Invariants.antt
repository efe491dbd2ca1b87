use Rattle.std.proofs.Common.{◌-◌}
use Rattle.examples.proofs.readers.run.Given as goal

abbrev pub ghosts-keep-N-Ledger : goal.ghosts-keep-N-Ledger
ghosts-keep-N-Ledger g a = record { name = a.blanks.insertions.name; parts = a.blanks.insertions.parts - 1 }

abbrev pub ghosts-keep-D-Ledger : goal.ghosts-keep-D-Ledger
ghosts-keep-D-Ledger g a = record { name = a.blanks.removals.name; parts = a.blanks.removals.parts - 1 }

abbrev pub ghosts-keep-N-MadeBy : goal.ghosts-keep-N-MadeBy
ghosts-keep-N-MadeBy g a = record { config = a.config }

abbrev pub ghosts-keep-N-Naming : goal.ghosts-keep-N-Naming
ghosts-keep-N-Naming g a = record { announcements = a.announcements.seen.book }
