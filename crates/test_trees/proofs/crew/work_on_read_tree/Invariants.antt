use Rattle.std.proofs.Common.{◌-◌}
use Rattle.test_trees.proofs.crew.work_on_read_tree.Given as goal

abbrev pub ghosts-work_beside-N-Ledger : goal.ghosts-work_beside-N-Ledger
ghosts-work_beside-N-Ledger g a = record { name = a.blanks.insertions.name; parts = a.blanks.insertions.parts - 1 }

abbrev pub ghosts-work_beside-D-Ledger : goal.ghosts-work_beside-D-Ledger
ghosts-work_beside-D-Ledger g a = record { name = a.blanks.removals.name; parts = a.blanks.removals.parts - 1 }

abbrev pub ghosts-work_beside-N-MadeBy : goal.ghosts-work_beside-N-MadeBy
ghosts-work_beside-N-MadeBy g a = record { config = a.config }

abbrev pub ghosts-work_beside-N-Naming : goal.ghosts-work_beside-N-Naming
ghosts-work_beside-N-Naming g a = record { announcements = a.announcements.seen.book }
