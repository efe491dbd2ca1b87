use Rattle.std.proofs.Common.{◌∙◌, ◌+◌, ◌++◌, ◌∷◌, [], ap, sym, refl, rules, arith, List, Ok, Err, Vec, Global, length-append}
use Rattle.std.specs.Option.{ForSome}
use Rattle.bw_step.specs.Trails.{lists_of}
use Rattle.csv.specs.Records.{fields_of}
use Rattle.bw_step.specs.declared.receipt.Receipt.{Receipt}
use Rattle.bw_texts.specs.Lines.{history_line}
use Rattle.bw_texts.specs.Reading.{ExplainsFault}
use Rattle.bw_texts.proofs.RowsRead.{row_read, all_read, row_faulty, row_past, excused, passed_on}
use Rattle.bw_texts.proofs.Trails.{line_added, read_after}
use Rattle.bw_texts.proofs.Counted.{line_counted}
use Rattle.bw_texts.proofs.history.read.read_history.Goals as goal

pub loop-done-init : goal.loop-done-init
loop-done-init g c = rw (c.new-trails.ensures.items, c.new-pairs.ensures.items) (record {
  fresh = c.open-reader.ensures.«open»;
  ascending = refl;
  count = refl;
  read = λ bytes known. ([], ([], c.open-reader.ensures.start bytes known, tt), record { count = refl; each = λ worker. refl }, refl, refl);
})

pub returns-then-not-branch-clause-rows : goal.returns-then-not-branch-clause-rows
returns-then-not-branch-clause-rows g c = λ bytes known.
    let l = c.loop-done in
    let r = l.invariant.read bytes known in
    (r.0, all_read g.R.Read.remaining l.reader history_line bytes r.0 r.1 (c.in_ok-next_record.ensures.end c.if-not-branch.true), r.2, r.3)

pub returns-in-Err-clause-fault : goal.returns-in-Err-clause-fault
returns-in-Err-clause-fault g c = λ bytes known.
    let l = c.loop-done in
    let r = l.invariant.read bytes known in
    row_faulty g.R.Read.remaining l.reader c.next_record.new.reader history_line bytes r.0 (fields_of c.next_record.new.row) 2000000 l.done c.in-Err.part
    r.1 (c.in_ok-next_record.ensures.more c.if-not-branch.false) (read_after (Err c.in-Err.part) c.last_key_of.result c.deref.result.now l.pairs.items r.0 (fields_of c.next_record.new.row) c.in-Err.ensures.line c.last_key_of.ensures c.deref.ensures.value r.3) (sym r.4) (omega arith)

pub loop-done-preserved : goal.loop-done-preserved
loop-done-preserved g c =
    let l = c.loop-done in
    let texts : List (Vec Receipt Global) → List (List Receipt) = lists_of in
    record {
      fresh = search rules;
      ascending = c.in_ok-add_line-in-Ok.ensures.ascending;
      count = line_counted (texts l.trails.items) (texts c.add_line.new.trails.items) l.pairs.items c.add_line.new.pairs.items c.in-Ok.line c.in_ok-add_line-in-Ok.ensures.added ∙ ap (λ n. n + 1) l.invariant.count;
      read = λ bytes known.
          let r = l.invariant.read bytes known in
          let next = line_added (texts l.trails.items) (texts c.add_line.new.trails.items) l.pairs.items c.add_line.new.pairs.items r.0 c.in-Ok.line c.in_ok-add_line-in-Ok.ensures.added r.2 r.3 in (
            r.0 ++ c.in-Ok.line ∷ [],
            row_read g.R.Read.remaining l.reader c.next_record.new.reader history_line bytes r.0 (fields_of c.next_record.new.row) c.in-Ok.line
                r.1 (c.in_ok-next_record.ensures.more c.if-not-branch.false) (read_after (Ok c.in-Ok.line) c.last_key_of.result c.deref.result.now l.pairs.items r.0 (fields_of c.next_record.new.row) c.in-Ok.ensures.line c.last_key_of.ensures c.deref.ensures.value r.3),
            next.0,
            next.1,
            length-append r.0 (c.in-Ok.line ∷ []) ∙ ap (λ n. n + 1) r.4,
          );
    }

pub returns-then-branch-clause-fault : goal.returns-then-branch-clause-fault
returns-then-branch-clause-fault g c = λ bytes known.
    let l = c.loop-done in
    let r = l.invariant.read bytes known in
    row_past g.R.Read.remaining l.reader c.next_record-2.new.reader history_line bytes r.0 (fields_of c.next_record-2.new.row) 2000000
    r.1 (c.in_ok-next_record-2.ensures.more c.if-branch.true) (r.4 ∙ omega arith)

pub returns-clause-rows : goal.returns-clause-rows
returns-clause-rows g c = λ bytes known.
    let l = c.loop-done in
    let r = l.invariant.read bytes known in
    (r.0, all_read g.R.Read.remaining l.reader history_line bytes r.0 r.1 (c.in_ok-next_record-2.ensures.end c.if-branch.false), r.2, r.3)

pub returns-in_err-add_line-in-Ok-clause-fault : goal.returns-in_err-add_line-in-Ok-clause-fault
returns-in_err-add_line-in-Ok-clause-fault g c =
    let fault = c.in_err-add_line-in-Ok.field-0.0 in
    passed_on c.from_residual-in_err-add_line-in-Ok.result fault
    (λ fault. ForSome (g.R.Read.remaining c.args.input) (λ bytes. ExplainsFault history_line 2000000 bytes fault))
    c.from_residual-in_err-add_line-in-Ok.ensures.1 (λ bytes known. excused history_line 2000000 bytes fault c.in_err-add_line-in-Ok.ensures.excused)
