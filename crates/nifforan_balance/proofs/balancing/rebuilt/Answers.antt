use Rattle.std.proofs.Common.{rules, ◌≡◌, ◌<◌, ◌≤◌, Err, length, max, ap, ◌∙◌, arith}
use Rattle.nifforan_balance.specs.Balancing.{parts_for}
use Rattle.nifforan_balance.proofs.Bordering.{are_bounds, fit, not_bad}
use Rattle.nifforan_balance.proofs.Dividing.{is_balanced, is_put_fault, some_parts}
use Rattle.nifforan_balance.proofs.balancing.rebuilt.Goals as goal

pub unreachable-requires : goal.unreachable-requires
unreachable-requires c =
    let pairs = c.in_ok-pairs.pairs.items in
    let parts = c.min-trees.result in
    let many : parts ≡ parts_for c.args.trees (length pairs) = search rules in
    let few : parts ≤ max (length pairs) 1 = omega (arith, many) in
    not_bad c.in_ok-lows.lows.items c.in_default.field-0
    (are_bounds pairs parts c.in_ok-lows.lows.items c.in_ok-pairs.ensures.rise few (rw c.as_slice.ensures.value at c.in_ok-lows.ensures)
    c.args.trees c.requires.number many)
    c.in_default.ensures.fault

pub unreachable-requires-in_default-fault : goal.unreachable-requires-in_default-fault
unreachable-requires-in_default-fault c =
    let pairs = c.in_ok-pairs.pairs.items in
    let parts = c.min-trees.result in
    let many : parts ≡ parts_for c.args.trees (length pairs) = search rules in
    let few : parts ≤ max (length pairs) 1 = omega (arith, many) in
    fit c.config.result pairs parts c.in_ok-lows.lows.items c.in_ok-tables.tables.items c.in_ok-pairs.ensures.rise few
    (rw c.as_slice.ensures.value at c.in_ok-lows.ensures) c.in_ok-tables.ensures.number
    (rw c.as_slice-2.ensures.value at c.in_ok-tables.ensures.parts)
    c.in-Err.unclosed.fault c.in_default-fault.not-NoMemory (rw c.in-Ok.ensures.bounds at c.in-Err.ensures.fault)

pub returns-in_err-tables-clause-fault : goal.returns-in_err-tables-clause-fault
returns-in_err-tables-clause-fault c =
    let pairs = c.in_ok-pairs.pairs in
    let many : c.min-trees.result ≡ parts_for c.args.trees (length pairs.items) = search rules in
    is_put_fault c.args.forest.now c.args.trees c.min-trees.result pairs.items c.as_slice-2.result.now c.config.result
    c.in_ok-pairs.ensures c.as_slice-2.ensures.value c.config.ensures.first many
    c.from_residual-in_err-tables.result c.in_err-tables.field-0.0 c.from_residual-in_err-tables.ensures.1
    (λ same. c.in_err-tables.ensures.full (ap Err same))

pub returns-in-Ok-of-clause-balanced : goal.returns-in-Ok-of-clause-balanced
returns-in-Ok-of-clause-balanced c =
    let pairs = c.in_ok-pairs.pairs in
    let parts = c.min-trees.result in
    let new = c.in-Ok-of.made in
    let many : parts ≡ parts_for c.args.trees (length pairs.items) = search rules in
    let some : 0 < parts = some_parts c.args.trees parts (length pairs.items) c.requires.number many in
    let bounds = c.in-Ok-of.ensures.bounds ∙ c.in-Ok.ensures.bounds in
    let tables = c.in-Ok-of.ensures.tables in
    is_balanced c.args.forest.now new c.args.trees parts pairs.items c.config.result some many c.config.ensures.first c.in_ok-pairs.ensures
    (rw bounds (rw c.as_slice.ensures.value at c.in_ok-lows.ensures))
    (rw tables c.in_ok-tables.ensures.number)
    (rw tables (rw c.as_slice-2.ensures.value at c.in_ok-tables.ensures.parts))
