use Rattle.std.proofs.Common.{ap, sym, ◌∙◌}
use Rattle.bw_delta.specs.PageView.{page_of, listed}
use Rattle.bw_chain.proofs.InPlaces.{done_unless_err, joined_leaf, joined_leaf_is_page, joined_inner, joined_inner_is_page}
use Rattle.bw_chain.proofs.in_place.join_bases.Goals as goal
use Rattle.bw_chain.proofs.in_place.join_bases.Goals.{in-Pairs-Pairs+else-is_err, in-Routes-Routes+else-is_err-2}

pub invariant_of-into-2 : goal.invariant_of-into-2
invariant_of-into-2 g c =
    let into = c.into.inside in
    let base = c.base.inside in
    let meets = rw (← c.into.view_is, ← c.base.view_is) at c.requires.meets in
    elim c.match-into.branch [
      | in-Pairs-Pairs+else-is_err w ↦
          let added = rw w.as_slice.ensures at (done_unless_err w.append.result w.append.ensures.appended (sym w.is_err.ensures.value ∙ w.if-is_err.false)) in
          rw w.into-inside-is
          (joined_leaf_is_page (page_of into.low into.high into.right into.entries) (page_of base.low base.high base.right base.entries) meets c.into.invariant c.base.invariant w.in-Pairs-Pairs.pairs w.in-Pairs-Pairs.more _ (ap listed w.in-Pairs-Pairs.is-0) (ap listed w.in-Pairs-Pairs.is-1) added)
      | in-Routes-Routes+else-is_err-2 w ↦
          let added = rw w.as_slice-in-Routes-Routes.ensures at (done_unless_err w.append-in-Routes-Routes.result w.append-in-Routes-Routes.ensures.appended (sym w.is_err-in-Routes-Routes.ensures.value ∙ w.if-is_err-2.false)) in
          rw w.into-inside-is
          (joined_inner_is_page (page_of into.low into.high into.right into.entries) (page_of base.low base.high base.right base.entries) meets c.into.invariant c.base.invariant w.in-Routes-Routes.routes w.in-Routes-Routes.more _ (ap listed w.in-Routes-Routes.is-0) (ap listed w.in-Routes-Routes.is-1) added)
    ]

pub returns-clause-joined : goal.returns-clause-joined
returns-clause-joined g c = λ yes.
    let into = c.into.inside in
    let base = c.base.inside in
    let meets = rw (← c.into.view_is, ← c.base.view_is) at c.requires.meets in
    elim c.match-into.branch [
      | in-Pairs-Pairs+else-is_err w ↦
          let added = rw w.as_slice.ensures at (done_unless_err w.append.result w.append.ensures.appended (sym w.is_err.ensures.value ∙ w.if-is_err.false)) in
          rw (← c.into.view_is, ← c.base.view_is, w.into-inside-is)
          (joined_leaf (page_of into.low into.high into.right into.entries) (page_of base.low base.high base.right base.entries) meets c.into.invariant c.base.invariant w.in-Pairs-Pairs.pairs w.in-Pairs-Pairs.more _ (ap listed w.in-Pairs-Pairs.is-0) (ap listed w.in-Pairs-Pairs.is-1) added)
      | in-Routes-Routes+else-is_err-2 w ↦
          let added = rw w.as_slice-in-Routes-Routes.ensures at (done_unless_err w.append-in-Routes-Routes.result w.append-in-Routes-Routes.ensures.appended (sym w.is_err-in-Routes-Routes.ensures.value ∙ w.if-is_err-2.false)) in
          rw (← c.into.view_is, ← c.base.view_is, w.into-inside-is)
          (joined_inner (page_of into.low into.high into.right into.entries) (page_of base.low base.high base.right base.entries) meets c.into.invariant c.base.invariant w.in-Routes-Routes.routes w.in-Routes-Routes.more _ (ap listed w.in-Routes-Routes.is-0) (ap listed w.in-Routes-Routes.is-1) added)
    ]
