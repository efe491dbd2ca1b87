use Rattle.std.proofs.Common.{◌≡◌}
use Rattle.bw_draw.specs.Pictures.{pages_below}
use Rattle.bw_draw.proofs.picture.pages_below.Given as goal

abbrev pub invariant-loop-id : goal.invariant-loop-id
invariant-loop-id l = l.pages.items ≡ pages_below l.table l.id
