use Rattle.std.proofs.Common.{◌≡◌, ◌↔◌, ◌≤◌, ◌<◌, ◌+◌, ◌∙◌, ℕ, Bool, IsTrue, false, List, rules, min, max, length-take-le, take, refl, ap, subst, arith}
use Rattle.std.specs.Prelude.{Result, Ok, Err, OnErr}
use Rattle.std.proofs.lemmas.Result.{on_ok_weaker, on_err_weaker}
use Rattle.bw_keys.specs.Ranges.{key_count, end_of}
use Rattle.bw_delta.specs.Entries.{from}
use Rattle.bw_chain.specs.Passing.Edited.{IsFalling}
use Rattle.bw_chain.specs.Passing.Heads.{BeginsWith}
use Rattle.bw_chain.proofs.Passing.Descents.{downward, noted_above, sideward}
use Rattle.bw_chain.proofs.Passing.Heads.{begins-more}
use Rattle.bw_chain.proofs.Passing.Notes.{from-begins, front-kept}
use Rattle.bw_chain.proofs.Overlays.{falls-from, falls-lower}
use Rattle.bw_chain.proofs.Passing.Passes.{from-both}
use Rattle.bw_chain.proofs.pass.+pass.Goals as goal

-- the edits fit under a record, and under the right half of a merge
fits_below : (count depth noted long now : ℕ) → count + (depth + 1) ≤ long → noted ≤ count + 1 → now ≡ long → noted + depth ≤ now
fits_below count depth noted long now room few same = omega arith

fits_right : (count left right kept long now : ℕ) → count + (max left right + 1) ≤ long → kept ≤ count → now ≡ long → kept + right ≤ now
fits_right count left right kept long now room few same = omega arith

all_there : (count depth long : ℕ) → count + depth ≤ long → count ≤ long
all_there count depth long room = omega arith

not_above : (is_above : Bool) (separator end : ℕ) → IsTrue is_above ↔ (separator < end) → is_above ≡ false → end ≤ separator
not_above is_above separator end above is_not = grind (arith, above, is_not)

on_err_always : {T E P : Type 0} (r : Result T E) → P → OnErr r P
on_err_always (Ok x) p = tt
on_err_always (Err e) p = p

falls_later : {Y : Type 0} (bound : ℕ) (es : List (ℕ × Y)) → IsFalling es → IsFalling (from bound es)
falls_later bound es f = falls-lower 0 bound key_count (from bound es) (omega arith) (falls-from 0 key_count bound es f)

from_later : {Y : Type 0} (end separator : ℕ) (es : List (ℕ × Y)) → from end (from (min end separator) es) ≡ from end es
from_later end separator es = from-both (min end separator) end es (omega arith)

pub returns-in-Bare-clause-left : goal.returns-in-Bare-clause-left
returns-in-Bare-clause-left g t c =
    let noted = take c.args.count c.args.edits.now in
    let upper = from (end_of c.args.end) noted in
    let begins : BeginsWith c.args.edits.now upper = begins-more c.args.count c.args.edits.now upper (from-begins 0 key_count (end_of c.args.end) noted c.requires.falling) in
    on_ok_weaker c.pass_base.result (λ taken. begins) c.pass_base.ensures.taken

pub note_change-count-requires-clause-uncut : goal.note_change-count-requires-clause-uncut
note_change-count-requires-clause-uncut g t c =
    let entry = g.X.EntryValue in
    let laws = g.met.X.EntryValue in
    let down = downward entry.own_entries entry.own_change laws.rise laws.cut (end_of c.args.end) c.in-Above.delta c.args.chain.now c.in-Above.below.value (rw (← c.chain.view_is, c.in-Above.is) refl) c.requires.built c.requires.within in
    rw c.change_by.ensures down.uncut

pub pass-requires : goal.pass-requires
pass-requires g t c κs within-lives =
    let entry = g.X.EntryValue in
    let laws = g.met.X.EntryValue in
    let down = downward entry.own_entries entry.own_change laws.rise laws.cut (end_of c.args.end) c.in-Above.delta c.args.chain.now c.in-Above.below.value (rw (← c.chain.view_is, c.in-Above.is) refl) c.requires.built c.requires.within in
    let room = rw (← c.chain.view_is, c.in-Above.is) at c.requires.room in
    let noted = c.note_change-count.ensures in
    (search rules, (within-lives.0, (within-lives.1.0, (within-lives.1.1.0, (within-lives.1.1.1, (rw c.deref.ensures down.built, (rw c.deref.ensures down.within, (noted.falling, rw c.deref.ensures (fits_below c.args.count _ c.note_change-count.result _ _ room noted.one_more noted.as_many)))))))))

pub returns-in-Above-clause-taken : goal.returns-in-Above-clause-taken
returns-in-Above-clause-taken g t c =
    let entry = g.X.EntryValue in
    let laws = g.met.X.EntryValue in
    let down = downward entry.own_entries entry.own_change laws.rise laws.cut (end_of c.args.end) c.in-Above.delta c.args.chain.now c.in-Above.below.value (rw (← c.chain.view_is, c.in-Above.is) refl) c.requires.built c.requires.within in
    let same = noted_above entry.own_entries entry.own_change laws.rise laws.cut (end_of c.args.end) c.in-Above.delta c.args.chain.now c.in-Above.below.value c.change_by.result (take c.args.count c.args.edits.now) _ (rw (← c.chain.view_is, c.in-Above.is) refl) down c.change_by.ensures c.note_change-count.ensures.noted in
    on_ok_weaker c.pass.result (λ taken. rw (c.deref.ensures, same) at taken) c.pass.ensures.taken

pub returns-in-Above-clause-refused : goal.returns-in-Above-clause-refused
returns-in-Above-clause-refused g t c =
    let entry = g.X.EntryValue in
    let laws = g.met.X.EntryValue in
    let down = downward entry.own_entries entry.own_change laws.rise laws.cut (end_of c.args.end) c.in-Above.delta c.args.chain.now c.in-Above.below.value (rw (← c.chain.view_is, c.in-Above.is) refl) c.requires.built c.requires.within in
    let same = noted_above entry.own_entries entry.own_change laws.rise laws.cut (end_of c.args.end) c.in-Above.delta c.args.chain.now c.in-Above.below.value c.change_by.result (take c.args.count c.args.edits.now) _ (rw (← c.chain.view_is, c.in-Above.is) refl) down c.change_by.ensures c.note_change-count.ensures.noted in
    on_err_weaker c.pass.result (λ refused. rw (c.deref.ensures, same) at refused) c.pass.ensures.refused

pub pass-requires-then-is_above : goal.pass-requires-then-is_above
pass-requires-then-is_above g t c κs within-lives =
    let entry = g.X.EntryValue in
    let laws = g.met.X.EntryValue in
    let noted = take c.args.count c.args.edits.now in
    let side = sideward entry.own_entries entry.own_change laws.rise laws.cut (end_of c.args.end) c.args.chain.now c.in-Merged.merging c.in-Merged.left.value c.in-Merged.right.value noted (rw (← c.chain.view_is, c.in-Merged.is) refl) c.requires.built c.requires.within c.requires.falling in
    let room = rw (← c.chain.view_is, c.in-Merged.is) at c.requires.room in
    let kept = c.count_from-kept in
    let long = length-take-le c.args.count c.args.edits.now (all_there c.args.count _ _ room) in
    let few : kept.result ≤ c.args.count = rw (c.split_at-in-Merged.ensures.front, long) at kept.ensures.within in
    let still = front-kept _ _ c.count_from-kept.result _ _ c.pass-in-Merged.new.edits c.split_at-in-Merged.ensures.front c.at_most-left_end.ensures c.count_from-kept.ensures.before c.count_from-kept.ensures.within c.in_ok-pass-in-Merged.ensures.left in
    (search rules, (within-lives.0, (within-lives.1.0, (within-lives.1.1.0, (within-lives.1.1.1, (rw c.deref-then-is_above.ensures side.built_right, (rw c.deref-then-is_above.ensures side.within_right, (rw still (falls_later _ noted c.requires.falling), rw c.deref-then-is_above.ensures (fits_right c.args.count _ _ kept.result _ _ room few c.in_ok-pass-in-Merged.ensures.as_many)))))))))

pub returns-in_err-pass-in-Merged-clause-refused : goal.returns-in_err-pass-in-Merged-clause-refused
returns-in_err-pass-in-Merged-clause-refused g t c =
    let entry = g.X.EntryValue in
    let laws = g.met.X.EntryValue in
    let noted = take c.args.count c.args.edits.now in
    let side = sideward entry.own_entries entry.own_change laws.rise laws.cut (end_of c.args.end) c.args.chain.now c.in-Merged.merging c.in-Merged.left.value c.in-Merged.right.value noted (rw (← c.chain.view_is, c.in-Merged.is) refl) c.requires.built c.requires.within c.requires.falling in
    let refused = rw (c.at_most-left_end.ensures, c.deref-in-Merged.ensures) at c.in_err-pass-in-Merged.ensures.refused in
    let all = g.met.S.Sink.refuses_more c.args.sink.now _ side.begins.0 refused in
    on_err_always c.from_residual.result (rw (← side.begins.1) at all)

pub returns-then-is_above-clause-taken : goal.returns-then-is_above-clause-taken
returns-then-is_above-clause-taken g t c =
    let entry = g.X.EntryValue in
    let laws = g.met.X.EntryValue in
    let noted = take c.args.count c.args.edits.now in
    let side = sideward entry.own_entries entry.own_change laws.rise laws.cut (end_of c.args.end) c.args.chain.now c.in-Merged.merging c.in-Merged.left.value c.in-Merged.right.value noted (rw (← c.chain.view_is, c.in-Merged.is) refl) c.requires.built c.requires.within c.requires.falling in
    let taken = rw (c.at_most-left_end.ensures, c.deref-in-Merged.ensures) at c.in_ok-pass-in-Merged.ensures.taken in
    let still = front-kept _ _ c.count_from-kept.result _ _ c.pass-in-Merged.new.edits c.split_at-in-Merged.ensures.front c.at_most-left_end.ensures c.count_from-kept.ensures.before c.count_from-kept.ensures.within c.in_ok-pass-in-Merged.ensures.left in
    let inside : c.in-Merged.merging.separator < end_of c.args.end = c.is_above.ensures.0 c.if-is_above.true in
    on_ok_weaker c.pass-then-is_above.result
    (λ more. rw (side.both inside) (g.met.S.Sink.takes_joined c.args.sink.now c.pass-in-Merged.new.sink c.pass-then-is_above.new.sink _ _ taken (rw (c.deref-then-is_above.ensures, still) at more)))
    c.pass-then-is_above.ensures.taken

pub returns-then-is_above-clause-refused : goal.returns-then-is_above-clause-refused
returns-then-is_above-clause-refused g t c =
    let entry = g.X.EntryValue in
    let laws = g.met.X.EntryValue in
    let noted = take c.args.count c.args.edits.now in
    let side = sideward entry.own_entries entry.own_change laws.rise laws.cut (end_of c.args.end) c.args.chain.now c.in-Merged.merging c.in-Merged.left.value c.in-Merged.right.value noted (rw (← c.chain.view_is, c.in-Merged.is) refl) c.requires.built c.requires.within c.requires.falling in
    let taken = rw (c.at_most-left_end.ensures, c.deref-in-Merged.ensures) at c.in_ok-pass-in-Merged.ensures.taken in
    let still = front-kept _ _ c.count_from-kept.result _ _ c.pass-in-Merged.new.edits c.split_at-in-Merged.ensures.front c.at_most-left_end.ensures c.count_from-kept.ensures.before c.count_from-kept.ensures.within c.in_ok-pass-in-Merged.ensures.left in
    let inside : c.in-Merged.merging.separator < end_of c.args.end = c.is_above.ensures.0 c.if-is_above.true in
    on_err_weaker c.pass-then-is_above.result
    (λ refused. rw (side.both inside) (g.met.S.Sink.refuses_later c.args.sink.now c.pass-in-Merged.new.sink _ _ taken (rw (c.deref-then-is_above.ensures, still) at refused)))
    c.pass-then-is_above.ensures.refused

pub returns-then-is_above-clause-left : goal.returns-then-is_above-clause-left
returns-then-is_above-clause-left g t c =
    let noted = take c.args.count c.args.edits.now in
    let still = front-kept _ _ c.count_from-kept.result _ _ c.pass-in-Merged.new.edits c.split_at-in-Merged.ensures.front c.at_most-left_end.ensures c.count_from-kept.ensures.before c.count_from-kept.ensures.within c.in_ok-pass-in-Merged.ensures.left in
    let same = ap (from (end_of c.args.end)) still ∙ from_later (end_of c.args.end) c.in-Merged.merging.separator noted in
    on_ok_weaker c.pass-then-is_above.result
    (λ begins. subst (BeginsWith c.pass-then-is_above.new.edits) same begins)
    c.pass-then-is_above.ensures.left

pub returns-else-is_above-clause-taken : goal.returns-else-is_above-clause-taken
returns-else-is_above-clause-taken g t c =
    let entry = g.X.EntryValue in
    let laws = g.met.X.EntryValue in
    let side = sideward entry.own_entries entry.own_change laws.rise laws.cut (end_of c.args.end) c.args.chain.now c.in-Merged.merging c.in-Merged.left.value c.in-Merged.right.value (take c.args.count c.args.edits.now) (rw (← c.chain.view_is, c.in-Merged.is) refl) c.requires.built c.requires.within c.requires.falling in
    let taken = rw (c.at_most-left_end.ensures, c.deref-in-Merged.ensures) at c.in_ok-pass-in-Merged.ensures.taken in
    let past : end_of c.args.end ≤ c.in-Merged.merging.separator = not_above c.is_above.result _ _ c.is_above.ensures c.if-is_above.false in
    rw (side.left_alone past) taken
