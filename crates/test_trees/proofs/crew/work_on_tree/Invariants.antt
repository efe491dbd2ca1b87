use Rattle.std.proofs.Common.{◌-◌}
use Rattle.test_trees.proofs.crew.work_on_tree.Given as goal

abbrev pub ghosts-work_over-I-Ledger : goal.ghosts-work_over-I-Ledger
ghosts-work_over-I-Ledger g a = record { name = a.blanks.insertions.name; parts = a.blanks.insertions.parts - 1 }

abbrev pub ghosts-work_over-D-Ledger : goal.ghosts-work_over-D-Ledger
ghosts-work_over-D-Ledger g a = record { name = a.blanks.removals.name; parts = a.blanks.removals.parts - 1 }

abbrev pub ghosts-work_over-I-MadeBy : goal.ghosts-work_over-I-MadeBy
ghosts-work_over-I-MadeBy g a = record { config = a.table.config }
