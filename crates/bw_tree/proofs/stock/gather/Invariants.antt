use Rattle.std.proofs.Common.{◌≡◌, ◌+◌, length}
use Rattle.bw_tree.specs.Shares.{sum_of}
use Rattle.bw_tree.proofs.stock.gather.Given as goal

abbrev pub invariant-shares : goal.invariant-shares
invariant-shares g l =
    let left = length l.shares.items in
    let all = length l.fn.shares.items in
    record {
      parts : (l.insertions.parts + left ≡ l.fn.insertions.parts + all) × (l.removals.parts + left ≡ l.fn.removals.parts + all);
      inserted : l.insertions.amount + (sum_of l.shares.items).inserted ≡ l.fn.insertions.amount + (sum_of l.fn.shares.items).inserted;
      removed : l.removals.amount + (sum_of l.shares.items).removed ≡ l.fn.removals.amount + (sum_of l.fn.shares.items).removed;
    }

abbrev pub decreases-shares : goal.decreases-shares
decreases-shares g l = goal.left-shares g l
