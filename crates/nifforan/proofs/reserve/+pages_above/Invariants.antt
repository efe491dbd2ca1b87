use Rattle.nifforan.proofs.reserve.+pages_above.Given as goal

abbrev pub decreases-pages_above : goal.decreases-pages_above
decreases-pages_above l = l.pages
