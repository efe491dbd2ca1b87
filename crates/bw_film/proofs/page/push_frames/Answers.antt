use Rattle.bw_film.specs.Pages.{frame_text}
use Rattle.bw_film.proofs.Pages.{each_more}
use Rattle.bw_film.proofs.page.push_frames.Goals as goal

pub loop-frame-preserved : goal.loop-frame-preserved
loop-frame-preserved c = each_more frame_text c.args.frames.now c.loop-frame.frame-index c.frame-item.result c.args.page.now.items c.loop-frame.page.items c.push_frame.new.page.items c.loop-frame-test.true c.frame-item.is c.loop-frame.invariant c.in_ok-push_frame.ensures
