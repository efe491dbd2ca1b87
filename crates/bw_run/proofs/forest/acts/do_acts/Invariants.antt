use Rattle.std.proofs.Common.{◌≡◌, ◌≤◌, length, map, vec_len}
use Rattle.std.specs.Prelude.{vec_capacity}
use Rattle.bw_run.specs.ForestAnswers.{TellInTurn}
use Rattle.bw_run.proofs.forest.acts.do_acts.Given as goal

abbrev pub invariant-loop-act : goal.invariant-loop-act
invariant-loop-act g l = record {
  told : TellInTurn g.H.ForestHand.bounds l.acts l.replies.items (map (λ hand. (g.H.Steps.seen hand).trail) l.fn.forest.hands.items)
      (map (λ hand. (g.H.Steps.seen hand).trail) l.forest.hands.items);
  count : vec_len l.replies ≡ l.act-index;
  room : length l.acts ≤ vec_capacity l.replies;
}
