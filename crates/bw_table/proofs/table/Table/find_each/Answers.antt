use Rattle.std.proofs.Common.{arith, ◌∙◌}
use Rattle.std.proofs.lemmas.List.{length-replicate, length-set}
use Rattle.bw_table.specs.Gets.{HasLeaf, IsMapAt}
use Rattle.bw_table.proofs.Zips.{zip-at, zip-more_set, zip-whole}
use Rattle.bw_table.proofs.table.Table.find_each.Goals as goal

pub keys-init : goal.keys-init
keys-init g c = (length-replicate _ _, tt)

pub find_in-requires : goal.find_in-requires
find_in-requires g c = zip-at (HasLeaf c.args.self.now) c.args.keys.now c.args.leaves.now c.keys.place 0 (record { 0 = 0 }) c.requires (omega arith)

pub keys-preserved : goal.keys-preserved
keys-preserved g c =
    let long = c.keys.invariant.0 in (
      length-set _ _ _ ∙ long,
      zip-more_set (IsMapAt c.args.self.now) c.args.keys.now c.keys.found c.keys.place 0 c.find_in.result (omega arith) (omega arith) c.keys.invariant.1 c.find_in.ensures,
    )

pub returns : goal.returns
returns g c = let long = c.keys.invariant.0 in zip-whole (IsMapAt c.args.self.now) c.args.keys.now c.keys.found c.keys.place (omega arith) (omega arith) c.keys.invariant.1
