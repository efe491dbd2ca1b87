use Rattle.std.proofs.Common.{◌≡◌, IfOk, subst, List, ℕ}
use Rattle.std.specs.String.{string_bytes}
use Rattle.bw_film.proofs.Pages.{cut, whole}
use Rattle.bw_film.proofs.page.span_between.Goals as goal

pub returns-then-last-to : goal.returns-then-last-to
returns-then-last-to c =
    let is = cut c.args.first c.args.last c.args.moments c.args.to c.saturating_add-next.result c.saturating_add-next.ensures c.if-next-moments.true c.if-last-to.true in
    subst (λ (t : List ℕ). IfOk c.cut_span.result (λ span. string_bytes span ≡ t)) is c.cut_span.ensures

pub returns : goal.returns
returns c =
    let is = whole c.args.first c.args.last c.args.moments c.args.to c.saturating_add-next.result c.saturating_add-next.ensures c.else-next-moments.either in
    subst (λ (t : List ℕ). IfOk c.whole_span.result (λ span. string_bytes span ≡ t)) is c.whole_span.ensures
