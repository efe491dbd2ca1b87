use Rattle.std.proofs.Common.{◌≡◌, ◌≤◌, length, vec_len}
use Rattle.std.specs.Prelude.{vec_capacity}
use Rattle.bw_step.specs.Tellings.{reported_in}
use Rattle.bw_procedures.specs.Reported.{GoWith}
use Rattle.bw_run.proofs.acts.do_acts.Given as goal

abbrev pub invariant-loop-act : goal.invariant-loop-act
invariant-loop-act g l = record {
  reported : GoWith l.acts l.replies.items (reported_in (g.W.Steps.seen l.hand).trail);
  count : vec_len l.replies ≡ l.act-index;
  room : length l.acts ≤ vec_capacity l.replies;
}
