use Rattle.std.proofs.Common.{◌+◌, ◌++◌, ◌∙◌, ap, append-nil, arith}
use Rattle.std.proofs.lemmas.List.{take_more_set}
use Rattle.bw_keys.specs.Ranges.{key_count}
use Rattle.std.specs.List.{zip}
use Rattle.bw_delta.specs.Entries.{from}
use Rattle.bw_delta.specs.Slices.{list_of}
use Rattle.bw_delta.proofs.Zips.{length-zip}
use Rattle.bw_chain.specs.Passing.Edited.{edited}
use Rattle.bw_chain.proofs.Passing.Passes.{ascending-from, falls-front}
use Rattle.bw_chain.proofs.Passing.Merges.{merge_step, merge_room}
use Rattle.bw_chain.proofs.pass.writing.write_edited.Goals as goal

pub write-requires-clause-inside : goal.write-requires-clause-inside
write-requires-clause-inside g c =
    let edit = c.in-Some.edit.now in
    let copied = c.copy_before-count in
    let now = zip copied.new.keys copied.new.values in
    let long = length-zip copied.new.keys copied.new.values copied.ensures.even in
    let room = merge_room copied.result c.edits.left.now c.in-Some.greater.now edit (list_of c.edits.rest) c.in-Some.ensures.cases.0 copied.ensures.within copied.ensures.after in
    let one = rw c.in-Some-value.is at room in
    omega (arith, one, c.edits.invariant.room, copied.ensures.as_many)

pub edits-preserved-in-Some-value : goal.edits-preserved-in-Some-value
edits-preserved-in-Some-value g c =
    let edit = c.in-Some.edit.now in
    let copied = c.copy_before-count in
    let place = c.edits.end + copied.result in
    let parts = c.in-Some.ensures.cases.0 in
    let now = zip copied.new.keys copied.new.values in
    let long = length-zip copied.new.keys copied.new.values copied.ensures.even in
    let room = merge_room copied.result c.edits.left.now c.in-Some.greater.now edit (list_of c.edits.rest) parts copied.ensures.within copied.ensures.after in
    let one = rw c.in-Some-value.is at room in
    let step = merge_step (zip c.edits.keys c.edits.values) now c.edits.end copied.result c.edits.left.now c.in-Some.greater.now edit (list_of c.edits.rest) parts c.edits.invariant.falling c.edits.invariant.ascending copied.ensures.before copied.ensures.written in
    let put = rw c.in-Some-value.is at step in
    let more = take_more_set now place (edit.0, c.in-Some-value.put) (omega (arith, one, c.edits.invariant.room, copied.ensures.as_many, long)) in
    rw (c.write.ensures.written, c.behind-rest.ensures) (record {
      done = ap (λ l. l ++ edited c.in-Some.greater.now (from (edit.0 + 1) (list_of c.edits.rest))) more ∙ put ∙ c.edits.invariant.done;
      room = omega (arith, one, c.edits.invariant.room, copied.ensures.as_many, c.write.ensures.as_many);
      as_many = c.write.ensures.as_many ∙ copied.ensures.as_many ∙ c.edits.invariant.as_many;
      even = c.write.ensures.even;
      ascending = ascending-from (edit.0 + 1) (list_of c.edits.rest) c.edits.invariant.ascending;
      falling = falls-front 0 key_count c.in-Some.greater.now edit (rw parts at c.edits.invariant.falling);
    })

pub edits-preserved : goal.edits-preserved
edits-preserved g c =
    let edit = c.in-Some.edit.now in
    let copied = c.copy_before-count in
    let parts = c.in-Some.ensures.cases.0 in
    let now = zip copied.new.keys copied.new.values in
    let long = length-zip copied.new.keys copied.new.values copied.ensures.even in
    let room = merge_room copied.result c.edits.left.now c.in-Some.greater.now edit (list_of c.edits.rest) parts copied.ensures.within copied.ensures.after in
    let step = merge_step (zip c.edits.keys c.edits.values) now c.edits.end copied.result c.edits.left.now c.in-Some.greater.now edit (list_of c.edits.rest) parts c.edits.invariant.falling c.edits.invariant.ascending copied.ensures.before copied.ensures.written in
    let none = rw (c.in-None.is, append-nil) at step in
    rw c.behind-rest.ensures (record {
      done = none ∙ c.edits.invariant.done;
      room = omega (arith, room, c.edits.invariant.room, copied.ensures.as_many);
      as_many = copied.ensures.as_many ∙ c.edits.invariant.as_many;
      even = copied.ensures.even;
      ascending = ascending-from (edit.0 + 1) (list_of c.edits.rest) c.edits.invariant.ascending;
      falling = falls-front 0 key_count c.in-Some.greater.now edit (rw parts at c.edits.invariant.falling);
    })
