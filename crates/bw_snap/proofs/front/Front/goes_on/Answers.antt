use Rattle.std.proofs.Common.{◌≤◌, ap, subst, arith, length, List}
use mathlib.Core.List.{IsPrefix}
use Rattle.bw_step.specs.Proposals.{Proposal}
use Rattle.bw_snap.proofs.Beginnings.{fewer_begins_more}
use Rattle.bw_snap.proofs.front.Front.goes_on.Goals as goal

pub returns-then-self-other : goal.returns-then-self-other
returns-then-self-other c =
    let both = c.learn.new.self.log in
    let mine = c.self.inside.seen.log in
    let mine_begins : IsPrefix mine both = subst (λ (l : List (List Proposal)). IsPrefix l both) (ap (λ s. s.log) c.again-both.ensures) c.learn.ensures.2 in
    let fewer : length mine ≤ length c.other.inside.seen.log = omega (arith, c.self.invariant.0, c.other.invariant.0) in
    rw (← c.self.view_is, ← c.other.view_is) (fewer_begins_more mine c.other.inside.seen.log both mine_begins c.learn.ensures.3 fewer c.other.invariant.1)

pub returns : goal.returns
returns c =
    let both = c.learn.new.self.log in
    let mine = c.self.inside.seen.log in
    let mine_begins : IsPrefix mine both = subst (λ (l : List (List Proposal)). IsPrefix l both) (ap (λ s. s.log) c.again-both.ensures) c.learn.ensures.2 in
    let fewer : length c.other.inside.seen.log ≤ length mine = omega (arith, c.self.invariant.0, c.other.invariant.0) in
    rw (← c.self.view_is, ← c.other.view_is) (fewer_begins_more c.other.inside.seen.log mine both c.learn.ensures.3 mine_begins fewer c.self.invariant.1)
