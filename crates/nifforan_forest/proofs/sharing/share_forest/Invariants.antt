use Rattle.std.proofs.Common.{◌-◌}
use Rattle.nifforan_forest.proofs.sharing.share_forest.Given as goal

abbrev pub ghosts-share_new-I-Ledger : goal.ghosts-share_new-I-Ledger
ghosts-share_new-I-Ledger g a = record { name = a.blanks.insertions.name; parts = a.blanks.insertions.parts - 1 }

abbrev pub ghosts-share_new-D-Ledger : goal.ghosts-share_new-D-Ledger
ghosts-share_new-D-Ledger g a = record { name = a.blanks.removals.name; parts = a.blanks.removals.parts - 1 }

abbrev pub ghosts-share_new-I-MadeBy : goal.ghosts-share_new-I-MadeBy
ghosts-share_new-I-MadeBy g a = record { config = a.config }

abbrev pub ghosts-share_new-I-Divides : goal.ghosts-share_new-I-Divides
ghosts-share_new-I-Divides g a = record { bounds = a.bounds }
