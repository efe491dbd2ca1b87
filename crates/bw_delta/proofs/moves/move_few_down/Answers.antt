use Rattle.std.proofs.Common.{refl, arith}
use Rattle.bw_delta.proofs.Runs.{lower_one}
use Rattle.bw_delta.proofs.moves.move_few_down.Goals as goal

pub down-preserved : goal.down-preserved
down-preserved g c =
    let before = c.down.invariant in
    record {
      from = omega arith;
      upto = omega arith;
      keys = lower_one c.args.place c.args.keys.now c.down.at 0 _ _ before.keys refl before.from (omega arith);
      values = lower_one c.args.place c.args.values.now c.down.at c.index-values-at.result _ _ before.values c.index-values-at.is before.from (omega arith);
    }
