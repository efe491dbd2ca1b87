use Rattle.std.proofs.Common.{◌≡◌, ◌∙◌, IfOk, ap, subst, List, ℕ}
use Rattle.bw_film.specs.declared.crew.Standing.{Standing}
use Rattle.bw_film.specs.declared.frame.Frame.{Frame}
use Rattle.bw_film.specs.declared.page.text.TheConstants.{HEAD, CREW_STYLE, TOP, BODY, SCRIPT}
use Rattle.bw_film.specs.Pages.{above_film, page_with, span_text, style_for}
use Rattle.bw_film.proofs.page.page_of.Goals as goal

pub returns : goal.returns
returns c =
    let film = c.args.film.now in
    let style : c.style_for-style.result.now ≡ style_for CREW_STYLE.now film.crew.items = c.style_for-style.ensures ∙ ap (λ (crew : List Standing). style_for CREW_STYLE.now crew) c.deref.ensures.value in
    let span : c.deref-2.result.now ≡ span_text film = c.deref-2.ensures ∙ c.in_ok-span.ensures in
    let above : c.in_ok-above.above.items ≡ above_film HEAD.now (style_for CREW_STYLE.now film.crew.items) TOP.now (span_text film) BODY.now =
    c.in_ok-above.ensures
    ∙ ap (λ (s : List ℕ). above_film HEAD.now s TOP.now c.deref-2.result.now BODY.now) style
    ∙ ap (λ (s : List ℕ). above_film HEAD.now (style_for CREW_STYLE.now film.crew.items) TOP.now s BODY.now) span
    in
    subst (λ (a : List ℕ). IfOk c.page_with.result (λ page. page.items ≡ page_with a film.frames.items SCRIPT.now)) above
    (subst (λ (frames : List Frame). IfOk c.page_with.result (λ page. page.items ≡ page_with c.in_ok-above.above.items frames SCRIPT.now)) c.deref-3.ensures.value c.page_with.ensures)
