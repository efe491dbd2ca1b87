use Rattle.std.proofs.Common.{◌≡◌, length, arith}
use Rattle.bw_delta.specs.Slices.{list_of}
use Rattle.bw_table.proofs.Same.{two_items}
use Rattle.bw_table.proofs.steps.grow.are_root_routes.Goals as goal

pub returns : goal.returns
returns c =
    let two : length (list_of c.args.routes) ≡ 2 = omega arith in
    rw (two_items (list_of c.args.routes) c.entry.result c.entry-2.result two c.entry.ensures c.entry-2.ensures) c.are_these.ensures
