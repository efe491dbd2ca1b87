use Rattle.std.proofs.Common.{◌∙◌}
use Rattle.bw_keys.specs.Reasons.{first_reason}
use Rattle.bw_law.specs.Refusals.{term_add_reasons}
use Rattle.bw_table.specs.Answers.{fine_unless}
use Rattle.bw_table.proofs.table.Table.check_term_add.Goals as goal

pub returns : goal.returns
returns g c =
    c.may_add_term.ensures
    ∙ (λ i. fine_unless (first_reason (term_add_reasons (c.in-Some-Some.ensures.there i) (c.in-Some-Some.ensures'.there i) c.args.step.now.parent_seen.0 c.args.step.now.child_seen.0)))
