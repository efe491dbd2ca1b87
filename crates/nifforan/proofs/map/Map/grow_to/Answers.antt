use Rattle.std.proofs.Common.{◌≡◌, ◌+◌, ◌-◌, ◌≤◌, ap, arith}
use Rattle.bw_keys.specs.declared.config.Config.{Config}
use Rattle.nifforan.proofs.Growing.{has_grown}
use Rattle.nifforan.proofs.map.Map.grow_to.Goals as goal

pub returns-clause-kept : goal.returns-clause-kept
returns-clause-kept g c =
    let inside = c.self.inside in
    let old = inside.worker.owner.table.value in
    let there : c.config-there.result.pages ≡ old.config.pages = ap (λ (f : Config). f.pages) c.config-there.ensures.config in
    let few : old.config.pages + (c.min.result - c.config-there.result.pages) ≤ inside.most = omega (arith, c.min.ensures, there, c.self.invariant.pages) in
    rw (← c.self.view_is) (has_grown inside.most (c.min.result - c.config-there.result.pages) old c.add_pages.new.self inside.worker.owner.account.seen.trail c.self.invariant few
    c.add_pages.result c.add_pages.ensures.more c.add_pages.ensures.kept c.add_pages.ensures.unchanged)
