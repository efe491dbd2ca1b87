use Rattle.std.proofs.Common.{ap, sym, ◌∙◌}
use Rattle.bw_delta.specs.Pages.{Page, Listed, upper_part}
use Rattle.bw_delta.specs.PageView.{page_of}
use Rattle.bw_chain.proofs.Pages.HalfPages.{from_its_key, upper_part_is_page}
use Rattle.bw_chain.proofs.page.halving.part_from.Goals as goal

pub invariant_of-upper : goal.invariant_of-upper
invariant_of-upper g c =
    let base = c.base.inside in
    let page = page_of base.low base.high base.right base.entries in
    let key = c.in_ok-separator.ensures.separator in
    rw (c.in_ok-separator.ensures.upper, ← from_its_key page c.args.number c.in_ok-separator.separator c.base.invariant key)
    (upper_part_is_page page c.args.number c.in_ok-separator.separator c.base.invariant key)

pub returns-clause-page : goal.returns-clause-page
returns-clause-page g c =
    let base = c.base.inside in
    let page = page_of base.low base.high base.right base.entries in
    let key = c.in_ok-separator.ensures.separator in
    let upper = c.in_ok-separator.ensures.upper ∙ sym (from_its_key page c.args.number c.in_ok-separator.separator c.base.invariant key) in
    let with_listed : Listed → Page = λ listed. record { low = c.in_ok-separator.separator; high = base.high; right = base.right; listed = listed } in
    ap with_listed upper ∙ ap (upper_part c.in_ok-separator.separator) c.base.view_is
