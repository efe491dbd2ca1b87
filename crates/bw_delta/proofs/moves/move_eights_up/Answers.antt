use Rattle.std.proofs.Common.{◌-◌, arith}
use Rattle.bw_delta.proofs.Runs.{raise_kept, raise_next}
use Rattle.bw_delta.proofs.moves.move_eights_up.Goals as goal

pub up-preserved : goal.up-preserved
up-preserved g c =
    let place = c.up.at - 8 in
    let before = c.up.invariant in
    record {
      from = omega arith;
      upto = omega arith;
      keys = raise_next c.args.keys.now 8 place c.up.at _ _ _ before.keys c.eight_from.ensures c.put_eight.ensures (omega arith) (omega arith);
      values = raise_next c.args.values.now 8 place c.up.at _ _ _ before.values c.eight_from-in-up.ensures c.put_eight-in-up.ensures (omega arith) (omega arith);
    }

pub returns-clause-keys : goal.returns-clause-keys
returns-clause-keys g c =
    raise_kept c.args.keys.now 8 c.args.place c.up.at _ _ _ c.up.invariant.keys c.eight_from-first_keys.ensures c.put_eight-2.ensures (omega arith) (omega arith) (omega arith)

pub returns-clause-values : goal.returns-clause-values
returns-clause-values g c =
    raise_kept c.args.values.now 8 c.args.place c.up.at _ _ _ c.up.invariant.values c.eight_from-first_values.ensures c.put_eight-3.ensures (omega arith) (omega arith) (omega arith)
