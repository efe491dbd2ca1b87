use Rattle.std.proofs.Common.{◌≡◌, map, ap, ◌∙◌}
use Rattle.std.proofs.lemmas.Result.{IfOk-weaker}
use Rattle.bw_run.specs.Reads.{handed_out}
use Rattle.bw_run.proofs.Answering.{kits_planned}
use Rattle.bw_run.proofs.Runs.{same_length}
use Rattle.bw_run.proofs.kits.kits_for.Goals as goal

pub returns : goal.returns
returns g c =
    let plan = c.in_ok-plan.plan.items in
    let planned = c.in_ok-plan.ensures in
    let done = c.kits_of in
    record {
      count = IfOk-weaker done.result _ _ (λ kits same. same_length (λ kit. kit.acts.items) (λ acts. acts.items) kits.items plan same ∙ planned.count) done.ensures.acts;
      acts = IfOk-weaker done.result _ _ (λ kits same. kits_planned (λ kit. kit.acts.items) c.args.rows.now kits.items (map (λ acts. acts.items) plan) same planned.planned) done.ensures.acts;
      readers = IfOk-weaker done.result _ _ (λ kits same. same ∙ ap (λ n. handed_out n c.args.readers.items) planned.count) done.ensures.readers;
    }
