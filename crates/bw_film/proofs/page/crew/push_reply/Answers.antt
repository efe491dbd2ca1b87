use Rattle.std.proofs.Common.{◌≡◌, ◌∙◌, ◌++◌, ℕ, List, Option, IfSome, ap, subst}
use Rattle.std.specs.String.{string_bytes}
use Rattle.bw_procedures.specs.declared.fault.Fault.{Fault}
use Rattle.bw_film.specs.CrewPages.{bare_text, fault_of, fault_text}
use Rattle.bw_film.proofs.Pages.{four}
use Rattle.bw_film.proofs.page.crew.push_reply.Goals as goal

pub returns : goal.returns
returns c =
    let told : string_bytes c.in_ok-text.text ≡ bare_text c.args.reply =
    subst (λ (o : Option (List ℕ)). IfSome o (λ bs. string_bytes c.in_ok-text.text ≡ bs)) c.parted-bare.ensures.text c.in_ok-text.ensures.ok in
    four c.args.page.now.items _ (bare_text c.args.reply) (fault_text (fault_of c.args.reply)) _ _ _ _ _
    c.in_ok-extend_from_slice.ensures.items
    (c.in_ok-extend_from_slice-2.ensures.items ∙ ap (λ (l : List ℕ). c.extend_from_slice.new.self.items ++ l) (c.as_bytes.ensures.value ∙ told))
    (c.in_ok-push_fault.ensures ∙ ap (λ (f : Option Fault). c.extend_from_slice-2.new.self.items ++ fault_text f) c.parted-bare.ensures.fault)
    c.in_ok-extend_from_slice-3.ensures.items
