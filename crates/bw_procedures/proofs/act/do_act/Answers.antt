use Rattle.bw_procedures.proofs.Receipts.{put_tells, set_tells, delete_tells, get_tells}
use Rattle.bw_procedures.proofs.act.do_act.Goals as goal

pub returns-in-Ok-clause-reported : goal.returns-in-Ok-clause-reported
returns-in-Ok-clause-reported g c = rw c.in-Put.is (put_tells _ _ _ (g.S.Steps.seen c.args.steps.now) (g.S.Steps.seen c.put.new.self) c.in-Ok.ensures.write.receipt)

pub returns-in-Ok-set-clause-reported : goal.returns-in-Ok-set-clause-reported
returns-in-Ok-set-clause-reported g c = rw c.in-Set.is (set_tells _ _ _ (g.S.Steps.seen c.args.steps.now) (g.S.Steps.seen c.set.new.self) c.in-Ok-set.ensures.write.receipt)

pub returns-in-Ok-delete-clause-reported : goal.returns-in-Ok-delete-clause-reported
returns-in-Ok-delete-clause-reported g c = rw c.in-Delete.is (delete_tells _ _ (g.S.Steps.seen c.args.steps.now) (g.S.Steps.seen c.delete.new.self) c.in-Ok-delete.ensures.write.receipt)

pub returns-in-Ok-get-clause-reported : goal.returns-in-Ok-get-clause-reported
returns-in-Ok-get-clause-reported g c = rw c.in-Get.is (get_tells _ _ _ _ (rw c.in-Ok-get.is at c.get.ensures.receipt))
