use Rattle.std.proofs.Common.{◌<◌, ◌≤◌, sym, ◌∙◌, ⊎_elim}
use Rattle.std.proofs.lemmas.Bool.{cases_lt}
use Rattle.bw_keys.specs.Ranges.{end_of, key_count}
use Rattle.bw_delta.specs.Slices.{list_of}
use Rattle.bw_chain.proofs.Partitions.{last_entry-slice_get}
use Rattle.bw_table.specs.Orders.{last_key}
use Rattle.nifforan.proofs.Runs.{lent_run_is_taken}
use Rattle.nifforan.proofs.pairs.Pairs.take_run.Goals as goal

pub invariant_of-self : goal.invariant_of-self
invariant_of-self g c =
    let self = c.self.inside in
    let run = list_of c.split_at.result.0 in
    let is_key : end_of self.next ≤ last_key = ⊎_elim
    (λ (past : last_key < end_of self.next). absurd (cc (c.is_above.ensures.1 past, c.if-is_above.false)))
    (λ upto. upto)
    (cases_lt last_key (end_of self.next)) in
    let fits : c.in-Some.last.0 < key_count = (rw c.in-Some.is at c.last.type_inv).1.1.1.1.0.1.1.0.1 in
    let last = last_entry-slice_get run ∙ sym c.last.ensures ∙ c.in-Some.is in
    let taken = lent_run_is_taken self.table.now self.leaf (end_of self.next) (end_of self.high) (end_of c.fence_behind-self-inside.result)
    (list_of self.lent) run (list_of c.split_at.result.1) c.in-Some.last c.self.invariant.0 c.self.invariant.1 is_key c.split_at.ensures.parts last
    (c.is_above-2.ensures.0 c.if-not-is_above.false) fits c.fence_behind-self-inside.ensures in
    (taken.held, taken.lent, c.self.invariant.2)

pub returns-clause-taken : goal.returns-clause-taken
returns-clause-taken g c =
    let self = c.self.inside in
    let run = list_of c.split_at.result.0 in
    let is_key : end_of self.next ≤ last_key = ⊎_elim
    (λ (past : last_key < end_of self.next). absurd (cc (c.is_above.ensures.1 past, c.if-is_above.false)))
    (λ upto. upto)
    (cases_lt last_key (end_of self.next)) in
    let fits : c.in-Some.last.0 < key_count = (rw c.in-Some.is at c.last.type_inv).1.1.1.1.0.1.1.0.1 in
    let last = last_entry-slice_get run ∙ sym c.last.ensures ∙ c.in-Some.is in
    let taken = lent_run_is_taken self.table.now self.leaf (end_of self.next) (end_of self.high) (end_of c.fence_behind-self-inside.result)
    (list_of self.lent) run (list_of c.split_at.result.1) c.in-Some.last c.self.invariant.0 c.self.invariant.1 is_key c.split_at.ensures.parts last
    (c.is_above-2.ensures.0 c.if-not-is_above.false) fits c.fence_behind-self-inside.ensures in
    sym c.self.view_is ∙ taken.taken
