use Rattle.std.proofs.Common.{◌≡◌, ◌<◌, rules, sym, arith, true}
use Rattle.std.specs.Result.{is_ok}
use Rattle.csv.specs.Records.{fields_of}
use Rattle.bw_texts.specs.declared.trace.row.Row.{Row}
use Rattle.bw_texts.specs.Traces.{trace_row}
use Rattle.bw_texts.proofs.RowsRead.{row_read, all_read, all_more, row_faulty, row_past}
use Rattle.bw_texts.proofs.trace.read.read_trace.Goals as goal

pub returns-then-not-branch-clause-rows : goal.returns-then-not-branch-clause-rows
returns-then-not-branch-clause-rows g c = λ bytes known.
    let l = c.loop-done in
    all_read g.R.Read.remaining l.reader (trace_row c.args.workers) bytes l.rows.items (l.invariant.read bytes known) (c.in_ok-next_record.ensures.end c.if-not-branch.true)

pub returns-in-Err-clause-fault : goal.returns-in-Err-clause-fault
returns-in-Err-clause-fault g c = λ bytes known.
    let l = c.loop-done in
    row_faulty g.R.Read.remaining l.reader c.next_record.new.reader (trace_row c.args.workers) bytes l.rows.items (fields_of c.next_record.new.row) 1000000 l.done c.in-Err.part
    (l.invariant.read bytes known) (c.in_ok-next_record.ensures.more c.if-not-branch.false) c.in-Err.ensures.reading (sym l.invariant.count) (omega arith)

pub loop-done-preserved : goal.loop-done-preserved
loop-done-preserved g c =
    let l = c.loop-done in
    let done : is_ok c.push.result ≡ true = search rules in
    let items = rw done at c.push.ensures.items in
    record {
      fresh = search rules;
      workers = rw items (all_more (λ (row : Row). row.worker < c.args.workers) l.rows.items c.in-Ok.row l.invariant.workers c.in-Ok.ensures.worker);
      count = search rules;
      read = λ bytes known. rw items (row_read g.R.Read.remaining l.reader c.next_record.new.reader (trace_row c.args.workers) bytes l.rows.items (fields_of c.next_record.new.row) c.in-Ok.row
          (l.invariant.read bytes known) (c.in_ok-next_record.ensures.more c.if-not-branch.false) c.in-Ok.ensures.reading);
    }

pub returns-then-branch-clause-fault : goal.returns-then-branch-clause-fault
returns-then-branch-clause-fault g c = λ bytes known.
    let l = c.loop-done in
    row_past g.R.Read.remaining l.reader c.next_record-2.new.reader (trace_row c.args.workers) bytes l.rows.items (fields_of c.next_record-2.new.row) 1000000
    (l.invariant.read bytes known) (c.in_ok-next_record-2.ensures.more c.if-branch.true) (omega arith)

pub returns-clause-rows : goal.returns-clause-rows
returns-clause-rows g c = λ bytes known.
    let l = c.loop-done in
    all_read g.R.Read.remaining l.reader (trace_row c.args.workers) bytes l.rows.items (l.invariant.read bytes known) (c.in_ok-next_record-2.ensures.end c.if-branch.false)
