-- What the receipts of rows tell.
use Rattle.std.proofs.Common.{◌≡◌, List, []}
use Rattle.bw_step.specs.declared.receipt.Receipt.{Receipt}
use Rattle.bw_step.specs.declared.view.Look.{Look}
use Rattle.bw_procedures.specs.declared.act.Act.{Act}
use Rattle.bw_procedures.specs.declared.act.Act.TheVariants as acts
use Rattle.bw_procedures.specs.declared.reply.Reply.{Reply}
use Rattle.bw_step.specs.Tellings.{reported_in}
use Rattle.bw_procedures.specs.Reported.{GoWith}
use Rattle.bw_procedures.proofs.Receipts.{go_none}

-- before the first act nothing is reported
pub none_done : (acts : List Act) (replies : List Reply) (trail : List Receipt) → replies ≡ [] → trail ≡ [] → GoWith acts replies (reported_in trail)
none_done acts replies trail empty new = rw (empty, new) (go_none acts)
