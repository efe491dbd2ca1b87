use Rattle.std.proofs.Common.{ap}
use Rattle.bw_delta.specs.PageView.{page_of, listed}
use Rattle.bw_delta.specs.Records.{bare}
use Rattle.bw_chain.proofs.Ascending.{routes_ascend}
use Rattle.bw_chain.proofs.InPlaces.{unrouted_is_page}
use Rattle.bw_chain.proofs.in_place.unroute_on_base.Goals as goal
use Rattle.bw_chain.proofs.in_place.unroute_on_base.Goals.{in-Pairs, in-Routes}

pub unroute_listed-requires : goal.unroute_listed-requires
unroute_listed-requires g c =
    let base = c.base.inside in
    record { ascending = rw c.in-Routes.is at (routes_ascend (bare (page_of base.low base.high base.right base.entries)) c.base.invariant) }

pub invariant_of-base : goal.invariant_of-base
invariant_of-base g c =
    let base = c.base.inside in
    elim c.match-base.branch [
      | in-Pairs w ↦ rw w.base-inside-is c.base.invariant
      | in-Routes w ↦
          rw w.base-inside-is
          (unrouted_is_page (page_of base.low base.high base.right base.entries) w.in-Routes.routes (ap listed w.in-Routes.is) c.args.separator _ c.base.invariant w.unroute_listed.ensures)
    ]
