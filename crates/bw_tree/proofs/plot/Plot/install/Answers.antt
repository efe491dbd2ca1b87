use Rattle.std.proofs.Common.{rules}
use Rattle.bw_tree.proofs.Staying.{install_stays}
use Rattle.bw_tree.proofs.plot.Plot.install.Goals as goal

pub invariant_of-self : goal.invariant_of-self
invariant_of-self g c =
    let said = c.install.ensures in
    record {
      within =
          install_stays (g.K.Keys.range c.args.self.now.range) _ _ _ c.install.result (c.stays_in.ensures.0 (search rules))
          said.map said.taken said.unchanged c.args.self.now.within;
    }
