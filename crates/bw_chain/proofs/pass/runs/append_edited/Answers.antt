use Rattle.std.proofs.Common.{◌≡◌, ◌∙◌, ◌+◌, ◌++◌, append_assoc, sym, ap}
use Rattle.std.proofs.lemmas.Result.{on_ok_weaker}
use Rattle.bw_keys.specs.Ranges.{key_count}
use Rattle.bw_delta.specs.Entries.{below, from}
use Rattle.bw_delta.specs.Slices.{list_of}
use Rattle.bw_chain.specs.Passing.Edited.{edited, entry_of}
use Rattle.bw_chain.proofs.Passing.Around.{no_items}
use Rattle.bw_chain.proofs.Passing.Merges.{edited-last}
use Rattle.bw_chain.proofs.Passing.Passes.{ascending-from, falls-front}
use Rattle.bw_chain.proofs.pass.runs.append_edited.Goals as goal

pub edits-preserved : goal.edits-preserved
edits-preserved g c =
    let edit = c.in-Some.edit.now in
    let rest = list_of c.edits.rest in
    let was = c.edits.list.items in
    let before = below edit.0 rest in
    let own = entry_of edit.0 edit.1 in
    let behind = edited c.in-Some.greater.now (from (edit.0 + 1) rest) in
    let parts = edited-last c.edits.left.now c.in-Some.greater.now edit rest c.in-Some.ensures.cases.0 c.edits.invariant.falling c.edits.invariant.ascending in
    let run = c.in_ok-append_run.ensures.items ∙ ap (λ l. was ++ l) c.split_around.ensures.before in
    let all = c.in_ok-append_edit.ensures ∙ ap (λ l. l ++ own) run ∙ append_assoc was before own in
    rw c.split_around.ensures.after (record {
      done = ap (λ l. l ++ behind) all ∙ append_assoc was (before ++ own) behind ∙ ap (λ l. was ++ l) (sym parts) ∙ c.edits.invariant.done;
      ascending = ascending-from (edit.0 + 1) rest c.edits.invariant.ascending;
      falling = falls-front 0 key_count c.in-Some.greater.now edit (rw c.in-Some.ensures.cases.0 at c.edits.invariant.falling);
    })

pub returns : goal.returns
returns g c =
    let rest = list_of c.edits.rest in
    let none = no_items c.edits.left.now c.in_default.ensures.cases in
    let all : edited c.edits.left.now rest ≡ rest = ap (λ edits. edited edits rest) none in
    on_ok_weaker c.append_run-2.result
    (λ taken. taken ∙ ap (λ l. c.edits.list.items ++ l) (sym all) ∙ c.edits.invariant.done)
    c.append_run-2.ensures.items
