use Rattle.std.proofs.Common.{◌≡◌, ◌+◌, ◌≤◌, All}
use Rattle.std.specs.Vec.{vec_len, vec_capacity}
use Rattle.bw_tree.specs.Shares.{no_changes}
use Rattle.bw_tree.proofs.stock.Parts.shares.Given as goal

abbrev pub invariant-loop-share : goal.invariant-loop-share
invariant-loop-share g l = record {
  parts : (l.self-inside.insertions.parts + l._share ≡ l.fn.self) × (l.self-inside.removals.parts ≡ l.self-inside.insertions.parts);
  amounts : (l.self-inside.insertions.amount ≡ 0) × (l.self-inside.removals.amount ≡ 0);
  room : (vec_len l.shares ≡ l._share) × (l.count ≤ vec_capacity l.shares);
  none : All (λ share. share ≡ no_changes) l.shares.items;
}
