use Rattle.std.proofs.Common.{◌++◌, ◌∷◌, [], ◌∙◌, ap}
use Rattle.bw_audit.proofs.Adding.{receipt_put}
use Rattle.bw_audit.proofs.replayer.add_receipt.Goals as goal

pub returns : goal.returns
returns c =
    receipt_put (λ trail. trail.items) c.args.trails.now.items c.args.worker c.index_mut.result.now c.push.new.self c.args.receipt c.requires
    (c.in_ok-push.ensures.items ∙ ap (λ trail. trail.items ++ c.args.receipt ∷ []) c.index_mut.ensures.value)
