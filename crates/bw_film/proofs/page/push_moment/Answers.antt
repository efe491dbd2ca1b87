use Rattle.std.proofs.Common.{◌∙◌, ap, ◌++◌}
use Rattle.bw_film.proofs.Pages.{behind}
use Rattle.bw_film.proofs.page.push_moment.Goals as goal

pub returns : goal.returns
returns c = behind _ _ _ _ _ c.in_ok-extend_from_slice.ensures.items (c.in_ok-extend_from_slice-2.ensures.items ∙ ap (λ l. c.extend_from_slice.new.self.items ++ l) (c.as_bytes.ensures.value ∙ c.format.ensures.text))
