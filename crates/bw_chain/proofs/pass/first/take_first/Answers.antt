use Rattle.std.proofs.Common.{rules, ◌≡◌, ◌∙◌, ◌+◌, ◌++◌, append_assoc, ap}
use Rattle.std.proofs.lemmas.Result.{on_ok_weaker}
use Rattle.bw_keys.specs.Ranges.{key_count}
use Rattle.bw_delta.specs.Entries.{below, from}
use Rattle.bw_delta.specs.Slices.{list_of}
use Rattle.bw_chain.specs.Passing.Edited.{edited, entry_of}
use Rattle.bw_chain.specs.Passing.Firsts.{HasNoRoom, takes_joined, no_room_later}
use Rattle.bw_chain.proofs.Passing.Around.{no_items}
use Rattle.bw_chain.proofs.Passing.Passes.{ascending-from, falls-front}
use Rattle.bw_chain.proofs.Passing.Merges.{edited-last, rises-kept}
use Rattle.bw_chain.proofs.Passing.Taking.{none_taken, more_taken, all_taken, not_taken}
use Rattle.bw_chain.proofs.pass.first.take_first.Goals as goal

pub edits-init : goal.edits-init
edits-init g c = record { taken = none_taken c.args.first.now _; ascending = c.requires.ascending; falling = c.requires.falling }

pub take_run-requires : goal.take_run-requires
take_run-requires g c = record { ascending = rw c.split_around.ensures.before (rises-kept 0 key_count c.in-Some.edit.now.0 (list_of c.edits.rest) c.edits.invariant.ascending) }

pub returns-in_err-take_run-clause-refused : goal.returns-in_err-take_run-clause-refused
returns-in_err-take_run-clause-refused g c =
    let edit = c.in-Some.edit.now in
    let rest = (list_of c.edits.rest) in
    let parts = edited-last c.edits.left.now c.in-Some.greater.now edit rest c.in-Some.ensures.cases.0 c.edits.invariant.falling c.edits.invariant.ascending in
    let behind = edited c.in-Some.greater.now (from (edit.0 + 1) rest) in
    let none = rw c.split_around.ensures.before at c.in_err-take_run.ensures.refused in
    let all : HasNoRoom c.args.first.now (edited c.args.edits.now (list_of c.args.entries)) =
    not_taken c.args.first.now c.edits.first _ _ c.edits.invariant.taken (below edit.0 rest) (entry_of edit.0 edit.1 ++ behind) none (parts ∙ append_assoc (below edit.0 rest) (entry_of edit.0 edit.1) behind) in
    search rules

pub returns-in_err-take_edit-clause-refused : goal.returns-in_err-take_edit-clause-refused
returns-in_err-take_edit-clause-refused g c =
    let now = c.edits.first in
    let run = c.take_run.new.first in
    let edit = c.in-Some.edit.now in
    let rest = (list_of c.edits.rest) in
    let parts = edited-last c.edits.left.now c.in-Some.greater.now edit rest c.in-Some.ensures.cases.0 c.edits.invariant.falling c.edits.invariant.ascending in
    let behind = edited c.in-Some.greater.now (from (edit.0 + 1) rest) in
    let first = rw c.split_around.ensures.before at c.in_ok-take_run.ensures.taken in
    let none = no_room_later now run (below edit.0 rest) (entry_of edit.0 edit.1) first c.in_err-take_edit.ensures.refused in
    let all : HasNoRoom c.args.first.now (edited c.args.edits.now (list_of c.args.entries)) =
    not_taken c.args.first.now now _ _ c.edits.invariant.taken (below edit.0 rest ++ entry_of edit.0 edit.1) behind none parts in
    search rules

pub edits-preserved : goal.edits-preserved
edits-preserved g c =
    let now = c.edits.first in
    let run = c.take_run.new.first in
    let put = c.take_edit.new.first in
    let edit = c.in-Some.edit.now in
    let rest = (list_of c.edits.rest) in
    let parts = edited-last c.edits.left.now c.in-Some.greater.now edit rest c.in-Some.ensures.cases.0 c.edits.invariant.falling c.edits.invariant.ascending in
    let behind = edited c.in-Some.greater.now (from (edit.0 + 1) rest) in
    let first = rw c.split_around.ensures.before at c.in_ok-take_run.ensures.taken in
    let both = takes_joined now run put (below edit.0 rest) (entry_of edit.0 edit.1) first c.in_ok-take_edit.ensures.taken in
    rw c.split_around.ensures.after (record {
      taken = more_taken c.args.first.now now _ _ c.edits.invariant.taken (below edit.0 rest ++ entry_of edit.0 edit.1) behind put both parts;
      ascending = ascending-from (edit.0 + 1) rest c.edits.invariant.ascending;
      falling = falls-front 0 key_count c.in-Some.greater.now edit (rw c.in-Some.ensures.cases.0 at c.edits.invariant.falling);
    })

pub returns-clause-taken : goal.returns-clause-taken
returns-clause-taken g c =
    let rest = (list_of c.edits.rest) in
    let none = no_items c.edits.left.now c.in_default.ensures.cases in
    let all : edited c.edits.left.now rest ≡ rest = ap (λ edits. edited edits rest) none in
    on_ok_weaker c.take_run-2.result
    (λ taken. all_taken c.args.first.now c.edits.first _ _ c.edits.invariant.taken c.take_run-2.new.first (rw all taken))
    c.take_run-2.ensures.taken
