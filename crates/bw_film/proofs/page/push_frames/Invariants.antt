use Rattle.std.proofs.Common.{◌≡◌, ◌++◌, take, flat_map}
use Rattle.bw_film.specs.Pages.{frame_text}
use Rattle.bw_film.proofs.page.push_frames.Given as goal

abbrev pub invariant-loop-frame : goal.invariant-loop-frame
invariant-loop-frame l = l.page.items ≡ l.fn.page.items ++ flat_map frame_text (take l.frame-index l.frames)
