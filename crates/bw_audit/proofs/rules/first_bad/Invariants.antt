use Rattle.std.proofs.Common.{◌≡◌, ◌+◌, drop, length}
use Rattle.bw_audit.specs.Changes.{changes_of}
use Rattle.bw_audit.specs.Verdicts.{first_bad}
use Rattle.bw_audit.proofs.rules.first_bad.Given as goal

abbrev pub invariant-loop-place : goal.invariant-loop-place
invariant-loop-place l = record {
  counted : l.before + length (changes_of (drop l.place l.trail)) ≡ l.initial.before + length (changes_of l.trail);
  same : first_bad l.index l.before l.last l.place (drop l.place l.trail) ≡ first_bad l.index l.initial.before 0 0 l.trail;
}
