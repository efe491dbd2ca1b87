use Rattle.std.proofs.Common.{◌≡◌, ◌∙◌, ◌+◌, ◌++◌, [], append-nil, refl, sym, ap, subst}
use Rattle.bw_keys.specs.Ranges.{key_count}
use Rattle.bw_delta.specs.Entries.{below, from}
use Rattle.bw_delta.specs.Slices.{list_of}
use Rattle.bw_chain.specs.Passing.Edited.{edited, entry_of}
use Rattle.bw_chain.specs.Passing.Rests.{Begins, begins_joined, otherwise_more, otherwise_later}
use Rattle.bw_chain.proofs.Passing.Around.{no_items}
use Rattle.bw_chain.proofs.Passing.Passes.{ascending-from, falls-front}
use Rattle.bw_chain.proofs.Passing.Merges.{edited-last, rises-kept}
use Rattle.bw_chain.proofs.Passing.Fronts.{front_all, front_none, front_more, front_otherwise}
use Rattle.bw_chain.proofs.pass.stripping.strip_edited.Goals as goal

pub edits-init : goal.edits-init
edits-init g c = record { front = front_none c.args.fence (list_of c.args.list) _; ascending = c.requires.ascending; falling = c.requires.falling }

pub entries_from-requires : goal.entries_from-requires
entries_from-requires g c = record { ascending = rw c.split_around.ensures.before (rises-kept 0 key_count c.in-Some.edit.now.0 (list_of c.edits.rest) c.edits.invariant.ascending) }

pub returns-in_default-strip_front : goal.returns-in_default-strip_front
returns-in_default-strip_front g c =
    let fence = c.args.fence in
    let list = (list_of c.args.list) in
    let edit = c.in-Some.edit.now in
    let rest = (list_of c.edits.rest) in
    let parts = edited-last c.edits.left.now c.in-Some.greater.now edit rest c.in-Some.ensures.cases.0 c.edits.invariant.falling c.edits.invariant.ascending in
    let other = rw (c.entries_from.ensures, c.split_around.ensures.before) at c.in_default-strip_front.ensures in
    front_otherwise fence list _ _ (list_of c.edits.list) c.edits.invariant.front (below edit.0 rest ++ entry_of edit.0 edit.1) _ (otherwise_more fence (list_of c.edits.list) (below edit.0 rest) (entry_of edit.0 edit.1) other) parts

pub returns-in_default-strip_edit : goal.returns-in_default-strip_edit
returns-in_default-strip_edit g c =
    let fence = c.args.fence in
    let list = (list_of c.args.list) in
    let edit = c.in-Some.edit.now in
    let rest = (list_of c.edits.rest) in
    let parts = edited-last c.edits.left.now c.in-Some.greater.now edit rest c.in-Some.ensures.cases.0 c.edits.invariant.falling c.edits.invariant.ascending in
    let first = rw (c.entries_from.ensures, c.split_around.ensures.before) at c.in-Some-strip_front.ensures in
    let other = otherwise_later fence fence (list_of c.edits.list) (list_of c.in-Some-strip_front.behind) (below edit.0 rest) (entry_of edit.0 edit.1) refl first c.in_default-strip_edit.ensures in
    front_otherwise fence list _ _ (list_of c.edits.list) c.edits.invariant.front (below edit.0 rest ++ entry_of edit.0 edit.1) _ other parts

pub edits-preserved : goal.edits-preserved
edits-preserved g c =
    let fence = c.args.fence in
    let list = (list_of c.args.list) in
    let edit = c.in-Some.edit.now in
    let rest = (list_of c.edits.rest) in
    let parts = edited-last c.edits.left.now c.in-Some.greater.now edit rest c.in-Some.ensures.cases.0 c.edits.invariant.falling c.edits.invariant.ascending in
    let first = rw (c.entries_from.ensures, c.split_around.ensures.before) at c.in-Some-strip_front.ensures in
    let both = begins_joined fence fence (list_of c.edits.list) (list_of c.in-Some-strip_front.behind) (list_of c.in-Some-strip_edit.behind) (below edit.0 rest) (entry_of edit.0 edit.1) refl first c.in-Some-strip_edit.ensures in
    rw c.split_around.ensures.after (record {
      front = front_more fence list _ _ (list_of c.edits.list) c.edits.invariant.front (below edit.0 rest ++ entry_of edit.0 edit.1) (edited c.in-Some.greater.now (from (edit.0 + 1) rest)) (list_of c.in-Some-strip_edit.behind) both parts;
      ascending = ascending-from (edit.0 + 1) rest c.edits.invariant.ascending;
      falling = falls-front 0 key_count c.in-Some.greater.now edit (rw c.in-Some.ensures.cases.0 at c.edits.invariant.falling);
    })

pub returns-in-None : goal.returns-in-None
returns-in-None g c =
    let rest = (list_of c.edits.rest) in
    let none = no_items c.edits.left.now c.in_default.ensures.cases in
    let all : edited c.edits.left.now rest ≡ rest = ap (λ edits. edited edits rest) none in
    let other = rw c.entries_from-2.ensures at c.in-None.ensures in
    front_otherwise c.args.fence (list_of c.args.list) _ _ (list_of c.edits.list) c.edits.invariant.front rest [] other (all ∙ sym (append-nil rest))

pub returns-in-Some-strip_front-2 : goal.returns-in-Some-strip_front-2
returns-in-Some-strip_front-2 g c =
    let fence = c.args.fence in
    let rest = (list_of c.edits.rest) in
    let behind = (list_of c.in-Some-strip_front-2.behind) in
    let none = no_items c.edits.left.now c.in_default.ensures.cases in
    let all : edited c.edits.left.now rest ≡ rest = ap (λ edits. edited edits rest) none in
    let last : Begins fence (list_of c.edits.list) rest behind = rw c.entries_from-2.ensures at c.in-Some-strip_front-2.ensures in
    front_all fence (list_of c.args.list) _ _ (list_of c.edits.list) c.edits.invariant.front behind (subst (λ l. Begins fence (list_of c.edits.list) l behind) (sym all) last)
