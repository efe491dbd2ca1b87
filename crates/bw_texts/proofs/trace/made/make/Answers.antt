use Rattle.std.proofs.Common.{rules, ◌≡◌, true}
use Rattle.std.specs.Result.{is_ok}
use Rattle.bw_texts.specs.Made.{trace_drawn}
use Rattle.bw_texts.proofs.Drawn.{drawn_more, all_drawn}
use Rattle.bw_texts.proofs.trace.made.make.Goals as goal

pub loop-number-preserved : goal.loop-number-preserved
loop-number-preserved c =
    let l = c.loop-number in
    let done : is_ok c.push.result ≡ true = search rules in
    let items = rw done at c.push.ensures.items in
    drawn_more c.args.workers c.args.span l.random c.draw_row.new.random l.number c.args.rows l.made.items c.push.new.self.items
    (trace_drawn c.args.seed c.args.rows c.args.workers c.args.span) c.draw_row.result c.loop-number-test.true c.draw_row.ensures.row c.draw_row.ensures.random items l.invariant

pub returns : goal.returns
returns c =
    let l = c.loop-number in
    all_drawn c.args.workers c.args.span l.random l.number c.args.rows l.made.items
    (trace_drawn c.args.seed c.args.rows c.args.workers c.args.span) c.loop-number-test.false l.invariant
