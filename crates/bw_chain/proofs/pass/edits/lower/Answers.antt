use Rattle.std.proofs.Common.{◌<◌, ◌+◌, ◌∙◌, length, arith}
use Rattle.std.proofs.lemmas.List.{length-set}
use Rattle.bw_chain.proofs.Passing.Inserts.{lower-front, lower-behind}
use Rattle.bw_chain.proofs.pass.edits.lower.Goals as goal

pub loop-i-preserved : goal.loop-i-preserved
loop-i-preserved g c =
    let old = c.args.items.now in
    let now = c.loop-i.items in
    let i = c.loop-i.i in
    let y = c.index-items-i.result in
    let before = c.loop-i.invariant in
    let inside : i + 1 < length now = omega (arith, c.loop-i-test.true, c.requires.inside, before.as_many) in
    record {
      from_place = omega (arith, before.from_place);
      as_many = length-set now i y ∙ before.as_many;
      front = lower-front old now c.args.place i y before.from_place inside before.as_many before.behind c.index-items-i.is before.front;
      behind = lower-behind old now c.args.place i y before.from_place inside before.as_many before.behind c.index-items-i.is;
    }
