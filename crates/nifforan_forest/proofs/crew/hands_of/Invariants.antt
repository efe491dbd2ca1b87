use Rattle.std.proofs.Common.{◌≡◌, ◌+◌, [], length}
use Rattle.std.specs.Prelude.{All}
use Rattle.bw_tree.specs.Shares.{no_changes}
use Rattle.bw_crew.specs.Workers.{ByNumber}
use Rattle.nifforan_forest.proofs.crew.hands_of.Given as goal

abbrev pub invariant-loop-its : goal.invariant-loop-its
invariant-loop-its g l = record {
  count : length l.hands.items + length l.its-iterator.rest.items ≡ length l.fn.shares.items;
  worker : l.worker ≡ length l.hands.items;
  quiet : ByNumber (λ worker it. All (λ hand. hand.seen.trail ≡ []) it.members.items) 0 l.hands.items;
  each : All (λ its. length its.items ≡ length g.I.Divides.bounds) l.its-iterator.rest.items;
  new : All (λ its. All (λ share. share ≡ no_changes) its.items) l.its-iterator.rest.items;
}
