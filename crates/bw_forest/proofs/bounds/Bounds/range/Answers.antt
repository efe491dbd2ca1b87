use Rattle.std.proofs.Common.{rules, ◌≡◌, ◌<◌, ◌≤◌, suc, Some, None, length}
use Rattle.std.specs.Prelude.{slice_index_or}
use Rattle.bw_forest.proofs.Bounding.{got, got_none, range_from}
use Rattle.bw_forest.proofs.bounds.Bounds.range.Goals as goal
use Rattle.bw_forest.proofs.bounds.Bounds.range.Goals.{in-Some, in-None}

pub returns : goal.returns
returns c =
    let there = c.requires.there in
    let low : c.index.result.now ≡ slice_index_or c.args.self.now c.args.tree c.index.result.now = search rules in
    elim c.match-get.branch [
      | in-Some w ↦
          let next = w.in-Some.next.now in
          let less : suc c.args.tree < length c.args.self.now = search rules in
          let is : next ≡ slice_index_or c.args.self.now (suc c.args.tree) next = search rules in
          record { range = range_from _ _ _ (Some next) _ there low (got _ _ next less is) w.high-is }
      | in-None w ↦
          let past : length c.args.self.now ≤ suc c.args.tree = search rules in
          record { range = range_from _ _ _ None _ there low (got_none _ _ past) w.high-is }
    ]
