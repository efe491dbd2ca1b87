use Rattle.std.proofs.Common.{◌-◌, refl, arith}
use Rattle.bw_delta.proofs.Runs.{raise_one}
use Rattle.bw_delta.proofs.moves.move_few_up.Goals as goal

pub up-preserved : goal.up-preserved
up-preserved g c =
    let place = c.up.at - 1 in
    let before = c.up.invariant in
    record {
      from = omega arith;
      upto = omega arith;
      keys = raise_one c.args.keys.now place c.up.at 0 _ _ before.keys refl (omega arith) (omega arith);
      values = raise_one c.args.values.now place c.up.at c.index-values-at.result _ _ before.values c.index-values-at.is (omega arith) (omega arith);
    }
