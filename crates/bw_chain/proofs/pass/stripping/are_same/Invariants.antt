use Rattle.std.proofs.Common.{◌≡◌, take}
use Rattle.bw_delta.specs.Slices.{list_of}
use Rattle.bw_chain.proofs.pass.stripping.are_same.Given as goal

abbrev pub invariant-loop-i : goal.invariant-loop-i
invariant-loop-i g l = take l.i (list_of l.one) ≡ take l.i (list_of l.other)
