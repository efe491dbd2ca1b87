use Rattle.std.proofs.Common.{ap}
use Rattle.bw_delta.specs.PageView.{page_of, listed}
use Rattle.bw_delta.specs.Records.{bare}
use Rattle.bw_chain.proofs.Ascending.{pairs_ascend}
use Rattle.bw_chain.proofs.InPlaces.{changed_is_page}
use Rattle.bw_chain.proofs.in_place.change_on_base.Goals as goal
use Rattle.bw_chain.proofs.in_place.change_on_base.Goals.{in-Pairs, in-Routes}

pub change_listed-requires : goal.change_listed-requires
change_listed-requires g c =
    let base = c.base.inside in
    record { ascending = rw c.in-Pairs.is at (pairs_ascend (bare (page_of base.low base.high base.right base.entries)) c.base.invariant) }

pub invariant_of-base : goal.invariant_of-base
invariant_of-base g c =
    let base = c.base.inside in
    elim c.match-base.branch [
      | in-Pairs w ↦
          let done = w.change_listed.ensures in
          rw w.base-inside-is
          (changed_is_page (page_of base.low base.high base.right base.entries) w.in-Pairs.pairs (ap listed w.in-Pairs.is) c.args.wished c.args.key _ _ c.base.invariant
          (rw (← c.base.view_is) at c.requires.within) done.had done.changed done.unchanged)
      | in-Routes w ↦ rw w.base-inside-is c.base.invariant
    ]
