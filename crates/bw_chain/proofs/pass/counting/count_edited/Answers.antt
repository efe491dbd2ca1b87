use Rattle.std.proofs.Common.{◌≡◌, ◌+◌, length, ap, arith}
use Rattle.bw_keys.specs.Ranges.{key_count}
use Rattle.bw_delta.specs.Slices.{list_of}
use Rattle.bw_chain.specs.Passing.Edited.{edited}
use Rattle.bw_chain.proofs.Passing.Around.{no_items}
use Rattle.bw_chain.proofs.Passing.Merges.{length-edited-last}
use Rattle.bw_chain.proofs.Passing.Passes.{ascending-from, falls-front}
use Rattle.bw_chain.proofs.pass.counting.count_edited.Goals as goal

pub edits-preserved : goal.edits-preserved
edits-preserved g c =
    let edit = c.in-Some.edit.now in
    let rest = (list_of c.edits.rest) in
    let parts = c.in-Some.ensures.cases.0 in
    let before = c.edits.invariant in
    let more = length-edited-last c.edits.left.now c.in-Some.greater.now edit rest parts before.falling before.ascending in
    rw c.split_around.ensures.after (record {
      fits = omega (arith, c.saturating_add-sum.ensures);
      counted = omega (arith, before.counted, more, c.saturating_add.ensures, c.saturating_add-sum.ensures, c.puts.ensures, ap length c.split_around.ensures.before);
      ascending = ascending-from (edit.0 + 1) rest before.ascending;
      falling = falls-front 0 key_count c.in-Some.greater.now edit (rw parts at before.falling);
    })

pub returns : goal.returns
returns g c =
    let rest = (list_of c.edits.rest) in
    let none = no_items c.edits.left.now c.in_default.ensures.cases in
    let all : edited c.edits.left.now rest ≡ rest = ap (λ edits. edited edits rest) none in
    omega (arith, c.edits.invariant.counted, ap length all, c.saturating_add-2.ensures)
