use Rattle.std.proofs.Common.{◌≡◌, ◌++◌, take}
use Rattle.bw_film.specs.Pages.{escaped}
use Rattle.bw_film.proofs.page.push_escaped.Given as goal

abbrev pub invariant-loop-byte : goal.invariant-loop-byte
invariant-loop-byte l = l.page.items ≡ l.fn.page.items ++ escaped (take l.byte-index l.text)
