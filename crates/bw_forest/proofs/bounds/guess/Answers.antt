use Rattle.std.proofs.Common.{rules, arith}
use Rattle.bw_forest.proofs.Bounding.{begun_at}
use Rattle.bw_forest.proofs.bounds.guess.Goals as goal

pub returns-then-is_past : goal.returns-then-is_past
returns-then-is_past c =
    begun_at c.args.key _ _ c.args.lows.now c.requires.rise (omega arith) (search rules) c.if-lows-tree.true
    (c.is_past.ensures c.if-is_past.true)
