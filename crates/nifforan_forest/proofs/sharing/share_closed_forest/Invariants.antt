use Rattle.std.proofs.Common.{◌-◌}
use Rattle.bw_forest.specs.Forests.{config_of}
use Rattle.nifforan_forest.proofs.sharing.share_closed_forest.Given as goal

abbrev pub ghosts-share_again-I-Ledger : goal.ghosts-share_again-I-Ledger
ghosts-share_again-I-Ledger g a = record { name = a.blanks.insertions.name; parts = a.blanks.insertions.parts - 1 }

abbrev pub ghosts-share_again-D-Ledger : goal.ghosts-share_again-D-Ledger
ghosts-share_again-D-Ledger g a = record { name = a.blanks.removals.name; parts = a.blanks.removals.parts - 1 }

abbrev pub ghosts-share_again-I-MadeBy : goal.ghosts-share_again-I-MadeBy
ghosts-share_again-I-MadeBy g a = record { config = config_of a.forest.tables }

abbrev pub ghosts-share_again-I-Divides : goal.ghosts-share_again-I-Divides
ghosts-share_again-I-Divides g a = record { bounds = a.forest.bounds }
