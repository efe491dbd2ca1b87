use Rattle.std.proofs.Common.{rules}
use Rattle.bw_tree.proofs.Staying.{perform_stays}
use Rattle.bw_tree.proofs.plot.Plot.perform.Goals as goal

pub invariant_of-self : goal.invariant_of-self
invariant_of-self g c =
    let said = c.perform.ensures in
    record {
      within =
          perform_stays (g.K.Keys.range c.args.self.now.range) _ _ _ c.perform.result c.table.ensures.tree
          (c.acts_in.ensures.0 (search rules)) said.done said.unchanged c.args.self.now.within;
    }
