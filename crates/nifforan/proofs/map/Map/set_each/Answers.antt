use Rattle.std.proofs.Common.{rules, sym, ◌∙◌, arith}
use Rattle.nifforan.proofs.Fills.{set_all-append}
use Rattle.nifforan.proofs.Rooms.{full_still}
use Rattle.nifforan.proofs.map.Map.set_each.Goals as goal

pub loop-key-preserved : goal.loop-key-preserved
loop-key-preserved g c =
    (search rules, search rules, search (rules, set_all-append), c.in_ok-done.ensures.config ∙ c.loop-key.invariant.3, omega (arith, c.in_ok-done.ensures.pages, c.loop-key.invariant.4), λ is. full_still c.loop-key.fault c.in_ok-done.done.fault c.loop-key.self c.set.new.self c.loop-key.invariant.5 c.in_ok-done.ensures.full c.in_ok-done.ensures.pages c.in_ok-done.ensures.config (sym c.or-fault.ensures ∙ is))

pub returns-in_err-done-clause-sets : goal.returns-in_err-done-clause-sets
returns-in_err-done-clause-sets g c = (c.loop-key.yielded, c.in_err-done.ensures.unchanged ∙ c.loop-key.invariant.2, search rules)

pub returns-clause-sets : goal.returns-clause-sets
returns-clause-sets g c = (c.loop-key.yielded, c.loop-key.invariant.2, search rules)

pub returns-in_err-done-clause-config : goal.returns-in_err-done-clause-config
returns-in_err-done-clause-config g c = c.in_err-done.ensures.config ∙ c.loop-key.invariant.3
