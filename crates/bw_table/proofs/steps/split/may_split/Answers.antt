use Rattle.std.proofs.Common.{◌≡◌, Err, ◌∙◌, rules}
use Rattle.bw_law.specs.Refusals.{open_reasons}
use Rattle.bw_table.proofs.Reasons.{refused_before}
use Rattle.bw_table.proofs.steps.split.may_split.Goals as goal

pub returns-in_err-check_open : goal.returns-in_err-check_open
returns-in_err-check_open g c =
    let slot = c.args.slot.now in
    let reason = c.in_err-check_open.field-0.0 in
    let same : c.from_residual.result ≡ Err reason = search rules in
    λ other. same ∙ refused_before (open_reasons slot c.args.step.now.seen.0) _ reason c.in_err-check_open.ensures

pub returns-then-not-has_upper_part : goal.returns-then-not-has_upper_part
returns-then-not-has_upper_part g c = search rules

pub returns : goal.returns
returns g c = search rules
