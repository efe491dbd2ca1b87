use Rattle.std.proofs.Common.{◌-◌}
use Rattle.test_cases.proofs.shared.play.Given as goal

abbrev pub ghosts-play_over-N-Ledger : goal.ghosts-play_over-N-Ledger
ghosts-play_over-N-Ledger g a = record { name = a.blanks.insertions.name; parts = a.blanks.insertions.parts - 1 }

abbrev pub ghosts-play_over-D-Ledger : goal.ghosts-play_over-D-Ledger
ghosts-play_over-D-Ledger g a = record { name = a.blanks.removals.name; parts = a.blanks.removals.parts - 1 }

abbrev pub ghosts-play_over-N-MadeBy : goal.ghosts-play_over-N-MadeBy
ghosts-play_over-N-MadeBy g a = record { config = a.config }

abbrev pub ghosts-play_over-N-Naming : goal.ghosts-play_over-N-Naming
ghosts-play_over-N-Naming g a = record { announcements = a.announcements.seen.book }
