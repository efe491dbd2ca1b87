use Rattle.std.proofs.Common.{◌≡◌, ◌∙◌, ◌++◌, ◌∷◌, [], ap, rules, true, arith, Vec, Global}
use Rattle.std.specs.Result.{is_ok}
use Rattle.bw_step.specs.declared.receipt.Receipt.{Receipt}
use Rattle.bw_texts.proofs.Trails.{receipt_added}
use Rattle.bw_texts.proofs.history.read.add_receipt.Goals as goal

pub returns-clause-added : goal.returns-clause-added
returns-clause-added c =
    let pushed : is_ok c.push.result ≡ true = search rules in
    let items = rw pushed at c.push.ensures.items in
    let filled = c.in_ok-fill_up.ensures in
    receipt_added (λ (trail : Vec Receipt Global). trail.items) c.args.trails.now.items c.fill_up.new.trails.items c.args.worker c.push.new.self c.index_mut.result.now c.args.receipt
    (omega arith) (items ∙ ap (λ (trail : Vec Receipt Global). trail.items ++ c.args.receipt ∷ []) c.index_mut.ensures.value) filled.count filled.same
