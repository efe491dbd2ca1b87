use Rattle.std.proofs.Common.{◌-◌}
use Rattle.nifforan_shared.proofs.sharing.share_table.Given as goal

abbrev pub ghosts-share_locked-I-Ledger : goal.ghosts-share_locked-I-Ledger
ghosts-share_locked-I-Ledger g a = record { name = a.blanks.insertions.name; parts = a.blanks.insertions.parts - 1 }

abbrev pub ghosts-share_locked-D-Ledger : goal.ghosts-share_locked-D-Ledger
ghosts-share_locked-D-Ledger g a = record { name = a.blanks.removals.name; parts = a.blanks.removals.parts - 1 }

abbrev pub ghosts-share_locked-I-MadeBy : goal.ghosts-share_locked-I-MadeBy
ghosts-share_locked-I-MadeBy g a = record { config = a.table.config }
