use Rattle.std.proofs.Common.{◌≡◌, ◌++◌, take, flat_map}
use Rattle.bw_film.specs.CrewPages.{standing_text}
use Rattle.bw_film.proofs.page.crew.push_standings.Given as goal

abbrev pub invariant-loop-standing : goal.invariant-loop-standing
invariant-loop-standing l = l.page.items ≡ l.fn.page.items ++ flat_map standing_text (take l.standing-index l.crew)
