use Rattle.std.proofs.Common.{arith}
use Rattle.bw_procedures.proofs.walk.leaf.Goals as goal

pub returns-in-None : goal.returns-in-None
returns-in-None g c =
    let descends = c.descend.ensures in
    record {
      follows = descends.follows;
      seen = descends.seen;
      gone = descends.gone;
      level = descends.level;
      calm = λ calm. descends.calm (c.root-root.ensures.calm calm c.args.key 0 (omega arith));
      no_effort = λ calm. descends.no_effort (c.root-root.ensures.calm calm c.args.key 0 (omega arith));
    }
