use Rattle.std.proofs.Common.{◌<◌, length, sym, ap, ◌∙◌, arith}
use Rattle.bw_law.specs.Tables.{TableValue}
use Rattle.bw_forest.proofs.Closing.{as_many}
use Rattle.bw_forest.proofs.Fits.{first_tree, some_bounds}
use Rattle.bw_forest.proofs.closed.ClosedForest.config.Goals as goal

pub index-requires : goal.index-requires
index-requires g c =
    let inv = c.self.invariant in
    let count = as_many c.self.inside.bounds c.self.inside.trees.items inv.ranges in
    let some = some_bounds c.self.inside.bounds inv.are_bounds in
    omega (arith, count, some)

pub returns-clause-first : goal.returns-clause-first
returns-clause-first g c =
    let inv = c.self.invariant in
    let trees = c.self.inside.trees.items in
    let count = as_many c.self.inside.bounds trees inv.ranges in
    let some = some_bounds c.self.inside.bounds inv.are_bounds in
    let less : 0 < length trees = omega (arith, count, some) in
    rw (sym c.self.view_is)
    (c.config.ensures.config ∙ (ap (λ (t : TableValue). t.config) c.table.ensures.same
    ∙ sym (first_tree trees c.index.result.now less c.index.ensures)))

pub returns-clause-all : goal.returns-clause-all
returns-clause-all g c = rw (sym c.self.view_is) c.self.invariant.alike
