use Rattle.std.proofs.Common.{ap, sym, ◌∙◌}
use Rattle.bw_delta.specs.PageView.{page_of, listed}
use Rattle.bw_delta.specs.Pages.{pairs_of, routes_of}
use Rattle.bw_delta.specs.Records.{bare}
use Rattle.bw_chain.proofs.Ascending.{pairs_ascend, routes_ascend}
use Rattle.bw_chain.proofs.InPlaces.{cut_lists, listed_below}
use Rattle.bw_chain.proofs.in_place.cut_base.Goals as goal
use Rattle.bw_chain.proofs.in_place.cut_base.Goals.{in-Pairs, in-Routes}

pub cut_listed-requires : goal.cut_listed-requires
cut_listed-requires g c =
    let base = c.base.inside in
    record { ascending = rw c.in-Pairs.is at (pairs_ascend (bare (page_of base.low base.high base.right base.entries)) c.base.invariant) }

pub cut_listed-requires-in-Routes : goal.cut_listed-requires-in-Routes
cut_listed-requires-in-Routes g c =
    let base = c.base.inside in
    record { ascending = rw c.in-Routes.is at (routes_ascend (bare (page_of base.low base.high base.right base.entries)) c.base.invariant) }

pub invariant_of-base : goal.invariant_of-base
invariant_of-base g c =
    let base = c.base.inside in
    elim c.match-base.branch [
      | in-Pairs w ↦
          rw (w.base-inside-is, c.new-base-inside.ensures)
          (cut_lists c.args.separator c.args.right (page_of base.low base.high base.right base.entries) _ c.base.invariant (rw (← c.base.view_is) at c.requires.within)
          (rw (← c.base.view_is) at c.requires.later)
          (ap (λ e. listed_below c.args.separator (listed e)) w.in-Pairs.is ∙ ap pairs_of (sym w.cut_listed.ensures)))
      | in-Routes w ↦
          rw (w.base-inside-is, c.new-base-inside.ensures)
          (cut_lists c.args.separator c.args.right (page_of base.low base.high base.right base.entries) _ c.base.invariant (rw (← c.base.view_is) at c.requires.within)
          (rw (← c.base.view_is) at c.requires.later)
          (ap (λ e. listed_below c.args.separator (listed e)) w.in-Routes.is ∙ ap routes_of (sym w.cut_listed-in-Routes.ensures)))
    ]
