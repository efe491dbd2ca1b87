use Rattle.std.proofs.Common.{◌≡◌, [], All, List}
use Rattle.std.specs.Vec.{vec_len, vec_capacity}
use Rattle.bw_step.specs.Proposals.{Proposal}
use Rattle.bw_snap.proofs.read_tree.readers_of.Given as goal

abbrev pub invariant-loop-reader : goal.invariant-loop-reader
invariant-loop-reader g l = record {
  room : (vec_len l.readers ≡ l._reader) × (vec_capacity l.readers ≡ l.count);
  unread : All (λ (reader : List Proposal). reader ≡ []) l.readers.items;
}
