use Rattle.std.proofs.Common.{◌≡◌, ◌+◌, ◌-◌, ◌∙◌, ap, arith}
use Rattle.bw_delta.specs.Moves.{lowered}
use Rattle.bw_delta.proofs.Runs.{lower_kept, lower_next}
use Rattle.bw_delta.proofs.moves.move_eights_down.Goals as goal

pub down-preserved : goal.down-preserved
down-preserved g c =
    let before = c.down.invariant in
    record {
      from = omega arith;
      upto = omega arith;
      keys = lower_next c.args.place c.args.keys.now 8 c.down.at _ _ _ before.keys c.eight_from.ensures c.put_eight.ensures before.from (omega arith);
      values = lower_next c.args.place c.args.values.now 8 c.down.at _ _ _ before.values c.eight_from-in-down.ensures c.put_eight-in-down.ensures before.from (omega arith);
    }

pub returns-clause-keys : goal.returns-clause-keys
returns-clause-keys g c =
    let behind = c.args.last - 8 in
    let end : behind + 8 ≡ c.args.last = omega arith in
    lower_kept c.args.place c.args.keys.now 8 behind c.down.at _ _ _ c.down.invariant.keys c.eight_from-last_keys.ensures c.put_eight-2.ensures (omega arith) (omega arith) (omega arith) (omega arith)
    ∙ ap (λ n. lowered c.args.place n c.args.keys.now) end

pub returns-clause-values : goal.returns-clause-values
returns-clause-values g c =
    let behind = c.args.last - 8 in
    let end : behind + 8 ≡ c.args.last = omega arith in
    lower_kept c.args.place c.args.values.now 8 behind c.down.at _ _ _ c.down.invariant.values c.eight_from-last_values.ensures c.put_eight-3.ensures (omega arith) (omega arith) (omega arith) (omega arith)
    ∙ ap (λ n. lowered c.args.place n c.args.values.now) end
