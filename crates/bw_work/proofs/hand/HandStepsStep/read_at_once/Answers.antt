use Rattle.bw_tree.proofs.Trees.{read_of_tree}
use Rattle.bw_work.proofs.hand.HandStepsStep.read_at_once.Goals as goal

pub returns-clause-read : goal.returns-clause-read
returns-clause-read g c =
    rw (← c.in_ok-reserve.ensures.items)
    (read_of_tree _ (λ low end pairs. tt) c.args.key c.args.high c.args.limit c.read_at_once.result _ _ c.read_at_once.ensures)
