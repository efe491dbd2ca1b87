use Rattle.std.proofs.Common.{◌≡◌, take}
use Rattle.bw_forest.specs.Bounds.{ranges_of}
use Rattle.bw_run.specs.ForestSurveys.{AreLeavesInARow, capped_sum, most_levels}
use Rattle.bw_run.proofs.forest.ending.FinishedForest.survey.Given as goal

abbrev pub invariant-loop-tree : goal.invariant-loop-tree
invariant-loop-tree l = record {
  leaves : AreLeavesInARow (take l.tree-index (ranges_of l.self.forest.bounds)) (take l.tree-index l.self.forest.tables) l.leaves.items;
  levels : l.levels ≡ most_levels (take l.tree-index l.self.forest.tables);
  inserted : l.book.inserted ≡ capped_sum (λ table. table.book.inserted) (take l.tree-index l.self.forest.tables);
  removed : l.book.removed ≡ capped_sum (λ table. table.book.removed) (take l.tree-index l.self.forest.tables);
  modified : l.book.modified ≡ capped_sum (λ table. table.book.modified) (take l.tree-index l.self.forest.tables);
}
