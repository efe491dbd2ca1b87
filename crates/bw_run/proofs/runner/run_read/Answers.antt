use denote.Param.Send.{sendable}
use Rattle.std.proofs.Common.{◌<◌, ℕ, arith, subst, sym, ◌∙◌}
use Rattle.std.proofs.Crossing.{crosses}
use Rattle.std.specs.List.{AllByRecursion}
use Rattle.bw_snap.proofs.Crossing.{Reader-send, ReadTree-sync}
use Rattle.bw_texts.specs.declared.trace.row.Row.{Row}
use Rattle.nifforan_shared.proofs.Trails.{counts_trails}
use Rattle.bw_crew.proofs.Workers.{few_workers}
use Rattle.bw_run.proofs.runner.run_read.Goals as goal

pub do_rows-requires-send-L : goal.do_rows-requires-send-L
do_rows-requires-send-L g c κs within = search (Reader-send, ReadTree-sync, sendable, crosses) depth 60 fits 10000

pub do_rows-requires-sync-T : goal.do_rows-requires-sync-T
do_rows-requires-sync-T g c κs within = search (ReadTree-sync, sendable, crosses) depth 60 fits 10000

pub do_rows-requires-clause-few : goal.do_rows-requires-clause-few
do_rows-requires-clause-few g c κs within = few_workers 64 c.args.blanks.workers _ c.requires.made.0.1 c.in-Ok.ensures.count (omega arith)

pub do_rows-requires-clause-workers : goal.do_rows-requires-clause-workers
do_rows-requires-clause-workers g c κs within = subst (λ (n : ℕ). AllByRecursion (λ (row : Row). row.worker < n) c.args.rows.now) (sym c.in-Ok.ensures.count) c.requires.workers

pub finish-requires-clause-workers : goal.finish-requires-clause-workers
finish-requires-clause-workers g c =
    let all = c.in_ok-all.all in
    subst (λ (n : ℕ). AllByRecursion (λ (row : Row). row.worker < n) c.args.rows.now) (sym (all.answered ∙ (c.in_ok-all.ensures.count ∙ c.in-Ok.ensures.count))) c.requires.workers

pub finish-requires-clause-counted : goal.finish-requires-clause-counted
finish-requires-clause-counted g c =
    let all = c.in_ok-all.all in
    counts_trails (λ trail. trail.items) c.in-Ok-close.table all.shares.items all.trails.items all.counted c.in-Ok-close.ensures.closed.pairs
