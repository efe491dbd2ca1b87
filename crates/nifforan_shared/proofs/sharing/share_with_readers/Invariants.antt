use Rattle.std.proofs.Common.{◌-◌}
use Rattle.nifforan_shared.proofs.sharing.share_with_readers.Given as goal

abbrev pub ghosts-share_read-N-Ledger : goal.ghosts-share_read-N-Ledger
ghosts-share_read-N-Ledger g a = record { name = a.blanks.insertions.name; parts = a.blanks.insertions.parts - 1 }

abbrev pub ghosts-share_read-D-Ledger : goal.ghosts-share_read-D-Ledger
ghosts-share_read-D-Ledger g a = record { name = a.blanks.removals.name; parts = a.blanks.removals.parts - 1 }

abbrev pub ghosts-share_read-N-MadeBy : goal.ghosts-share_read-N-MadeBy
ghosts-share_read-N-MadeBy g a = record { config = a.config }

abbrev pub ghosts-share_read-N-Naming : goal.ghosts-share_read-N-Naming
ghosts-share_read-N-Naming g a = record { announcements = a.announcements.seen.book }
