use Rattle.std.proofs.Common.{◌-◌}
use Rattle.test_cases.proofs.readers.published.Given as goal

abbrev pub ghosts-published_over-N-Ledger : goal.ghosts-published_over-N-Ledger
ghosts-published_over-N-Ledger g a = record { name = a.blanks.insertions.name; parts = a.blanks.insertions.parts - 1 }

abbrev pub ghosts-published_over-D-Ledger : goal.ghosts-published_over-D-Ledger
ghosts-published_over-D-Ledger g a = record { name = a.blanks.removals.name; parts = a.blanks.removals.parts - 1 }

abbrev pub ghosts-published_over-N-MadeBy : goal.ghosts-published_over-N-MadeBy
ghosts-published_over-N-MadeBy g a = record { config = a.config }

abbrev pub ghosts-published_over-N-Naming : goal.ghosts-published_over-N-Naming
ghosts-published_over-N-Naming g a = record { announcements = a.announcements.seen.book }
