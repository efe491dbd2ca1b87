use Rattle.std.proofs.Common.{ap, sym, ◌∙◌}
use Rattle.bw_delta.specs.PageView.{page_of, listed}
use Rattle.bw_delta.specs.Records.{bare}
use Rattle.bw_delta.specs.Slices.{list_of}
use Rattle.bw_chain.proofs.Ascending.{pairs_ascend}
use Rattle.bw_chain.proofs.Appends.{ascends_inside, appended_is_page, appended_page}
use Rattle.bw_chain.proofs.appending.append_on_base.Goals as goal
use Rattle.bw_chain.proofs.appending.append_on_base.Goals.{in-Pairs, in-Routes}

pub append_listed-requires-clause-ascending : goal.append_listed-requires-clause-ascending
append_listed-requires-clause-ascending g c =
    let base = c.base.inside in
    rw c.in-Pairs.is at (pairs_ascend (bare (page_of base.low base.high base.right base.entries)) c.base.invariant)

pub append_listed-requires-clause-more_ascending : goal.append_listed-requires-clause-more_ascending
append_listed-requires-clause-more_ascending g c =
    let base = c.base.inside in
    ascends_inside (page_of base.low base.high base.right base.entries) (list_of c.args.more) c.base.invariant
    (rw (← c.base.view_is) at c.requires)

pub invariant_of-base : goal.invariant_of-base
invariant_of-base g c =
    let base = c.base.inside in
    elim c.match-base.branch [
      | in-Pairs w ↦
          let done = w.append_listed.ensures in
          rw w.base-inside-is
          (appended_is_page (page_of base.low base.high base.right base.entries) w.in-Pairs.pairs (list_of c.args.more) _ _
          c.base.invariant (ap listed w.in-Pairs.is)
          (rw (← c.base.view_is) at c.requires) done.behind done.appended done.unchanged)
      | in-Routes w ↦ rw w.base-inside-is c.base.invariant
    ]

pub returns-clause-appended : goal.returns-clause-appended
returns-clause-appended g c = λ yes.
    let base = c.base.inside in
    elim c.match-base.branch [
      | in-Pairs w ↦
          let done = w.append_listed.ensures in
          let true_is = sym w.result-is ∙ yes in
          rw (← c.base.view_is, w.base-inside-is)
          (appended_page (page_of base.low base.high base.right base.entries) w.in-Pairs.pairs (list_of c.args.more) _
          (ap listed w.in-Pairs.is) (done.behind true_is) (done.appended true_is))
      | in-Routes w ↦ cc (sym w.result-is ∙ yes)
    ]
