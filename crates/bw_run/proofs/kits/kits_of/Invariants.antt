use Rattle.std.proofs.Common.{◌≡◌, ◌++◌, length, map}
use Rattle.bw_run.specs.Reads.{handed_out}
use Rattle.bw_run.proofs.kits.kits_of.Given as goal

abbrev pub invariant-loop-acts : goal.invariant-loop-acts
invariant-loop-acts g l = record {
  readers : map (λ kit. kit.reader) l.kits.items ++ handed_out (length l.acts-iterator.rest.items) l.left.rest.items ≡ handed_out (length l.fn.plan.items) l.fn.readers.items;
  acts : map (λ kit. kit.acts.items) l.kits.items ++ map (λ acts. acts.items) l.acts-iterator.rest.items ≡ map (λ acts. acts.items) l.fn.plan.items;
}
