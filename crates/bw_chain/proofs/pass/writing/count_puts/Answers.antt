use Rattle.std.proofs.Common.{◌≤◌, ◌∙◌, ap, arith, take}
use Rattle.std.proofs.lemmas.List.{take_more}
use Rattle.bw_chain.specs.Passing.Edited.{put_count}
use Rattle.bw_chain.proofs.Passing.Merges.{put_count-snoc, puts-few}
use Rattle.bw_chain.proofs.pass.writing.count_puts.Goals as goal

pub loop-i-preserved : goal.loop-i-preserved
loop-i-preserved g c =
    let more = take_more c.args.edits.now c.loop-i.i c.index-edits-i.result c.loop-i-test.true in
    let counted = ap put_count more ∙ put_count-snoc (take c.loop-i.i c.args.edits.now) _ in
    let few : c.puts-count.result ≤ 1 = rw c.puts-count.ensures (puts-few _) in
    record {
      counted = omega (arith, counted, c.puts-count.ensures, c.loop-i.invariant.counted);
      few = omega (arith, few, c.loop-i.invariant.few);
    }
