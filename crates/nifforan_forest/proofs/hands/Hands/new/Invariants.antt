use Rattle.std.proofs.Common.{◌≡◌, ◌+◌, ◌≤◌, [], length, map, take}
use Rattle.std.specs.Prelude.{All, vec_capacity}
use Rattle.bw_tree.specs.Shares.{no_changes}
use Rattle.nifforan_forest.proofs.hands.Hands.new.Given as goal

abbrev pub invariant-loop-i : goal.invariant-loop-i
invariant-loop-i g l = record {
  shares : length l.shares.items + l.i ≡ length l.trees;
  new : All (λ share. share ≡ no_changes) l.shares.items;
  count : length l.members.items ≡ l.i;
  room : length l.trees ≤ vec_capacity l.members;
  quiet : All (λ hand. hand.seen.trail ≡ []) l.members.items;
  placed : map (λ hand. hand.range) l.members.items ≡ map g.S.Shared.range (take l.i l.trees);
}
