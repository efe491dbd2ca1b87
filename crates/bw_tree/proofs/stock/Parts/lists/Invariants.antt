use Rattle.std.proofs.Common.{◌≡◌, ◌+◌, ◌*◌, ◌≤◌, length, All}
use Rattle.std.specs.Vec.{vec_len, vec_capacity}
use Rattle.bw_tree.specs.Shares.{no_changes}
use Rattle.bw_tree.proofs.stock.Parts.lists.Given as goal

abbrev pub invariant-loop-worker : goal.invariant-loop-worker
invariant-loop-worker g l = record {
  parts : l.self + l._worker * l.trees ≡ l.fn.self;
  room : (vec_len l.lists ≡ l._worker) × (l.workers ≤ vec_capacity l.lists);
  each : All (λ its. length its.items ≡ l.trees) l.lists.items;
  none : All (λ its. All (λ share. share ≡ no_changes) its.items) l.lists.items;
}
