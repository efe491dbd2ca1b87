use Rattle.std.proofs.Common.{◌++◌, ◌∙◌, List, ℕ, ap}
use Rattle.bw_film.specs.declared.crew.Standing.{Standing}
use Rattle.bw_film.specs.declared.page.text.TheConstants.{CREW}
use Rattle.bw_film.specs.CrewPages.{crew_with}
use Rattle.bw_film.specs.Pages.{drawing_text}
use Rattle.bw_film.proofs.Pages.{five}
use Rattle.bw_film.proofs.page.push_frame.Goals as goal

pub returns : goal.returns
returns c =
    let frame = c.args.frame.now in
    let drawn = c.in_ok-push_drawing.ensures ∙ ap (λ (l : List ℕ). c.push_texts.new.page.items ++ drawing_text l) c.deref.ensures in
    let told = c.in_ok-push_crew.ensures ∙ ap (λ (crew : List Standing). c.push_drawing.new.page.items ++ crew_with CREW.now crew) c.deref-2.ensures.value in
    five c.args.page.now.items _ _ _ _ _ _ _ _ _ _ c.in_ok-push_moment.ensures c.in_ok-push_texts.ensures drawn told c.in_ok-extend_from_slice.ensures.items
