use Rattle.std.proofs.Common.{sym, ◌∙◌}
use Rattle.bw_procedures.proofs.Performing.{posted_costs, unposted_same}
use Rattle.bw_procedures.proofs.round.post_in_place.Goals as goal

pub returns-clause-posted : goal.returns-clause-posted
returns-clause-posted g c = λ posted. posted_costs c.args.page c.perform.result _ _ c.perform.ensures.seen (sym c.is_ok.ensures.value ∙ posted)

pub returns-clause-unposted : goal.returns-clause-unposted
returns-clause-unposted g c = λ unposted. unposted_same c.args.page c.perform.result _ _ c.perform.ensures.seen (sym c.is_ok.ensures.value ∙ unposted)

pub returns-clause-follows : goal.returns-clause-follows
returns-clause-follows g c = c.perform.ensures.follows
