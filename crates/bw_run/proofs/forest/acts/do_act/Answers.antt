use Rattle.std.proofs.Common.{Ok, map, refl}
use Rattle.bw_keys.specs.Ranges.{end_of}
use Rattle.bw_procedures.specs.Facts.{quiet}
use Rattle.bw_procedures.specs.Writes.{Puts, Sets, Deletes}
use Rattle.bw_procedures.specs.declared.act.Act.TheVariants as acts
use Rattle.bw_procedures.specs.declared.reply.Reply.TheVariants as replies
use Rattle.bw_procedures.proofs.Receipts.{put_tells, set_tells, delete_tells, get_tells}
use Rattle.bw_work.specs.Calls.{Gets}
use Rattle.bw_run.proofs.ForestTold.{at_one, each_removes}
use Rattle.bw_run.proofs.forest.acts.do_act.Goals as goal

pub returns-in_ok-put-in-Put : goal.returns-in_ok-put-in-Put
returns-in_ok-put-in-Put g c =
    let seen = g.H.Steps.seen in
    let done = c.in_ok-put-in-Put.field-0 in
    record {
      told = rw c.in-Put.is
          (at_one g.H.ForestHand.bounds g.H.ForestHand.range c.in-Put.key g.H.Steps.follows
          (λ old new. Puts c.in-Put.key c.in-Put.value (Ok done) (seen old) (seen new)) (λ hand. (seen hand).trail)
          (acts.Put c.in-Put.key c.in-Put.value) (replies.Put done) c.args.forest.now.hands.items c.put.new.self.hands.items
          (rw c.in_ok-put-in-Put.was at c.put.ensures.write) refl
          (λ before after call. put_tells c.in-Put.key c.in-Put.value done (seen before) (seen after) call.receipt));
      swept = rw c.in-Put.is tt;
    }

pub returns-in_ok-set-in-Set : goal.returns-in_ok-set-in-Set
returns-in_ok-set-in-Set g c =
    let seen = g.H.Steps.seen in
    let done = c.in_ok-set-in-Set.field-0 in
    record {
      told = rw c.in-Set.is
          (at_one g.H.ForestHand.bounds g.H.ForestHand.range c.in-Set.key g.H.Steps.follows
          (λ old new. Sets c.in-Set.key c.in-Set.value (Ok done) (seen old) (seen new)) (λ hand. (seen hand).trail)
          (acts.Set c.in-Set.key c.in-Set.value) (replies.Set done) c.args.forest.now.hands.items c.set.new.self.hands.items
          (rw c.in_ok-set-in-Set.was at c.set.ensures.write) refl
          (λ before after call. set_tells c.in-Set.key c.in-Set.value done (seen before) (seen after) call.receipt));
      swept = rw c.in-Set.is tt;
    }

pub returns-in_ok-delete-in-Delete : goal.returns-in_ok-delete-in-Delete
returns-in_ok-delete-in-Delete g c =
    let seen = g.H.Steps.seen in
    let done = c.in_ok-delete-in-Delete.field-0 in
    record {
      told = rw c.in-Delete.is
          (at_one g.H.ForestHand.bounds g.H.ForestHand.range c.in-Delete.key g.H.Steps.follows
          (λ old new. Deletes c.in-Delete.key (Ok done) (seen old) (seen new)) (λ hand. (seen hand).trail)
          (acts.Delete c.in-Delete.key) (replies.Delete done) c.args.forest.now.hands.items c.delete.new.self.hands.items
          (rw c.in_ok-delete-in-Delete.was at c.delete.ensures.write) refl
          (λ before after call. delete_tells c.in-Delete.key done (seen before) (seen after) call.receipt));
      swept = rw c.in-Delete.is tt;
    }

pub returns-in_ok-get-in-Get : goal.returns-in_ok-get-in-Get
returns-in_ok-get-in-Get g c =
    let seen = g.H.Steps.seen in
    let done = c.in_ok-get-in-Get.field-0 in
    record {
      told = rw c.in-Get.is
          (at_one g.H.ForestHand.bounds g.H.ForestHand.range c.in-Get.key g.H.Steps.follows
          (λ old new. Gets c.in-Get.key (g.H.Steps.calm old quiet) (Ok done) (seen old) (seen new)) (λ hand. (seen hand).trail)
          (acts.Get c.in-Get.key) (replies.Get done) c.args.forest.now.hands.items c.get.new.self.hands.items
          (rw c.in_ok-get-in-Get.was at c.get.ensures.gets) refl
          (λ before after call. get_tells c.in-Get.key done (seen before).trail (seen after).trail call.receipt));
      swept = rw c.in-Get.is tt;
    }

pub returns-in-Clear : goal.returns-in-Clear
returns-in-Clear g c =
    let removes = c.clear.ensures.removes in
    record {
      told = rw c.in-Clear.is (
        removes.0,
        each_removes g.H.ForestHand.bounds g.H.Steps.seen g.H.Steps.follows g.H.ForestHand.range c.in-Clear.low
            (end_of c.in-Clear.high) c.args.forest.now.hands.items c.clear.new.self.hands.items removes.0 c.args.forest.now.placed
            removes.1,
        removes.2,
      );
      swept = rw c.in-Clear.is c.clear.ensures.swept;
    }
