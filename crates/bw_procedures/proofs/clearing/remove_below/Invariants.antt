use Rattle.std.proofs.Common.{ℕ, ◌≤◌, List, drop}
use Rattle.bw_keys.specs.Ranges.{end_of}
use Rattle.bw_procedures.specs.Seen.{Grows}
use Rattle.bw_procedures.specs.Clearing.{RemovesFirst}
use Rattle.bw_procedures.proofs.clearing.remove_below.Given as goal

abbrev pub invariant-loop-pair : goal.invariant-loop-pair
invariant-loop-pair g l = record {
  follows : g.S.Steps.follows l.fn.steps l.steps;
  grows : Grows (g.S.Steps.seen l.fn.steps) (g.S.Steps.seen l.steps);
  removes : (done : List (ℕ × ℕ)) × RemovesFirst (end_of l.high) l.pairs done (drop l.pair-index l.pairs) l.removed (g.S.Steps.seen l.fn.steps) (g.S.Steps.seen l.steps);
  few : l.removed ≤ l.pair-index;
}
