-- The pairs of a table are one list.
use Rattle.std.proofs.Common.{◌≡◌, ℕ, List, ap, sym, ◌∙◌}
use Rattle.bw_law.specs.Tables.{TableValue, joined_pairs}
use Rattle.bw_table.specs.Views.{ArePairsOf}
use Rattle.bw_tree.specs.Trees.{IsTree}

pub same_pairs : (table : TableValue) (one other : List (ℕ × ℕ)) → IsTree table → ArePairsOf table one → ArePairsOf table other → other ≡ one
same_pairs table one other tree p q =
    let rows = tree.leaves.only q.row q.is_row.is_row ∙ sym (tree.leaves.only p.row p.is_row.is_row) in
    q.joined ∙ (ap (joined_pairs table.slots) rows ∙ sym p.joined)
