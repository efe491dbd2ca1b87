use Rattle.std.proofs.Common.{sym, ◌∙◌}
use Rattle.bw_table.proofs.Undone.{seen_is_there, term_refused}
use Rattle.bw_table.proofs.table.Table.perform_term.Goals as goal

pub returns-in-Err-clause-performs : goal.returns-in-Err-clause-performs
returns-in-Err-clause-performs g c =
    let under = seen_is_there c.args.self.now c.args.child c.in-Some-peek.view (sym c.in-Some-peek.is ∙ c.peek.ensures.view) in
    let parent = c.in-Some-page_above.parent in
    let over = c.in-Some-page_above.ensures in
    let why = c.in-Err.ensures.refused in
    record {
      done = tt;
      why = term_refused c.args.self.now c.args.child c.in-Some-peek.view parent c.in-Err.field-0 under over.view over.above why;
      unchanged = c.in-Err.ensures.unchanged;
    }
