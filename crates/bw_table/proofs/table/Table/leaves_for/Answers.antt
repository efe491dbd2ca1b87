use Rattle.std.proofs.Common.{arith, ◌∙◌}
use Rattle.std.proofs.lemmas.List.{length-replicate, length-set}
use Rattle.bw_table.specs.Gets.{HasLeaf}
use Rattle.bw_table.proofs.Zips.{zip-more_set, zip-whole}
use Rattle.bw_table.proofs.table.Table.leaves_for.Goals as goal

pub keys-init : goal.keys-init
keys-init g c = (length-replicate _ _, tt)

pub keys-preserved : goal.keys-preserved
keys-preserved g c =
    let long = c.keys.invariant.0 in (
      length-set _ _ _ ∙ long,
      zip-more_set (HasLeaf c.args.self.now) c.args.keys.now c.keys.leaves c.keys.place 0 c.page_for.result (omega arith) (omega arith) c.keys.invariant.1 c.page_for.ensures.leaf,
    )

pub returns : goal.returns
returns g c = let long = c.keys.invariant.0 in zip-whole (HasLeaf c.args.self.now) c.args.keys.now c.keys.leaves c.keys.place (omega arith) (omega arith) c.keys.invariant.1
