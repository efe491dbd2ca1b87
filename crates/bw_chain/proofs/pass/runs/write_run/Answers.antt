use Rattle.std.proofs.Common.{◌<◌, ◌+◌, ◌++◌, ◌∙◌, length, take, ap, sym, arith}
use Rattle.std.proofs.lemmas.List.{length-set, take_all}
use Rattle.bw_delta.specs.Slices.{list_of}
use Rattle.bw_chain.proofs.Passing.Writes.{one-written}
use Rattle.bw_chain.proofs.pass.runs.write_run.Goals as goal

pub loop-i-preserved : goal.loop-i-preserved
loop-i-preserved c =
    let run = list_of c.args.run in
    let now = c.loop-i.list in
    let place = c.args.place + c.loop-i.i in
    let inside : c.loop-i.i < length run = omega arith in
    let room : place < length now = omega (arith, inside, c.requires, c.loop-i.invariant.as_many) in
    record {
      as_many = length-set now place c.entry.result ∙ c.loop-i.invariant.as_many;
      written = one-written c.args.list.now now run c.args.place c.loop-i.i c.entry.result inside room c.entry.ensures c.loop-i.invariant.written;
    }

pub returns : goal.returns
returns c =
    let run = list_of c.args.run in
    let i = c.loop-i.i in
    let now = c.loop-i.list in
    let place = c.args.place in
    sym (take_all (place + i) now (omega (arith, c.loop-i.invariant.as_many, c.requires)))
    ∙ c.loop-i.invariant.written
    ∙ ap (λ l. take place c.args.list.now ++ l) (take_all i run (omega arith))
