use Rattle.std.proofs.Common.{◌∙◌, ap, take, sym, [], List, Vec, Global, map}
use Rattle.std.proofs.lemmas.List.{get_or-map, length-map}
use Rattle.csv.proofs.WriteFacts.{appends-more}
use Rattle.csv.specs.Writing.{text_written}
use Rattle.bw_step.specs.declared.receipt.Receipt.{Receipt}
use Rattle.bw_texts.specs.WrittenHistories.{trail_text, trails_text}
use Rattle.bw_texts.proofs.TrailsWritten.{trail_added}
use Rattle.bw_texts.proofs.history.write.write_trails.Goals as goal

pub loop-worker-preserved : goal.loop-worker-preserved
loop-worker-preserved g c =
    let l = c.loop-worker in
    let items : Vec Receipt Global → List Receipt = λ trail. trail.items in
    let there = get_or-map items c.args.trails.now l.worker c.index-trails-worker.result [] c.loop-worker-test.true in
    let is_trail = c.deref.ensures.value ∙ (ap items c.index-trails-worker.is ∙ sym there) in
    let text = appends-more (text_written g.W.Write.contents c.args.writer.now) (text_written g.W.Write.contents l.writer) (text_written g.W.Write.contents c.write_trail.new.writer)
    (trails_text 0 (take l.worker (map items c.args.trails.now))) (trail_text l.worker c.deref.result.now) l.invariant.text c.in_ok-write_trail.ensures.text in
    record {
      between = c.in_ok-write_trail.ensures.between;
      text = rw (trail_added (map items c.args.trails.now) l.worker c.deref.result.now (simp length-map c.loop-worker-test.true) is_trail) text;
    }
