use Rattle.std.proofs.Common.{ap, ◌∙◌}
use Rattle.bw_law.specs.Tables.{TableValue}
use Rattle.nifforan_shared.proofs.Trails.{counts_from_nothing}
use Rattle.nifforan_shared.proofs.sharing.share.Goals as goal

pub returns-in-Ok-share_table-clause-shared : goal.returns-in-Ok-share_table-clause-shared
returns-in-Ok-share_table-clause-shared g c =
    let all = c.in-Ok-share_table.ensures.shared in
    let new = c.in-Ok.ensures.ok in
    record {
      tree = all.tree;
      config = all.config ∙ ap (λ (t : TableValue). t.config) new;
      outputs = all.outputs;
      trails = all.trails;
      pairs = counts_from_nothing c.in-Ok-share_table.outcome.table c.in-Ok.table c.args.config _ all.tree new all.book;
      promised = all.promised;
    }
