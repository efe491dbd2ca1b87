use Rattle.std.proofs.Common.{suc, ◌≡◌, ◌<◌, ◌+◌, ◌∙◌, length, drop, arith}
use Rattle.std.specs.List.{zip}
use Rattle.std.proofs.lemmas.List.{length-drop}
use Rattle.bw_delta.specs.Slices.{list_of}
use Rattle.bw_delta.proofs.Zips.{length-zip}
use Rattle.bw_chain.proofs.KeysAt.{below-upto, from-upto, last-before}
use Rattle.bw_chain.proofs.Passing.Around.{length-below}
use Rattle.bw_chain.proofs.Passing.Writes.{pair-written}
use Rattle.bw_chain.proofs.pass.writing.copy_by_twos.Goals as goal

pub returns-then-key-next-clause-last : goal.returns-then-key-next-clause-last
returns-then-key-next-clause-last g c =
    let es = list_of c.args.entries in
    let inside : c.twos.i + 1 < length es = omega (arith, c.twos-test.true, c.twos.invariant.within) in
    let next : suc c.twos.i ≡ c.twos.i + 1 = omega arith in
    last-before c.args.key c.twos.i c.key-next.result es c.requires.ascending (rw next inside) (rw next c.key-next.ensures) c.if-key-next.true

pub twos-preserved : goal.twos-preserved
twos-preserved g c =
    let es = list_of c.args.entries in
    let i = c.twos.i in
    let first = c.entry in
    let second = c.entry-in-twos in
    let now = zip c.twos.keys c.twos.values in
    let place = c.args.place + i in
    let before = c.twos.invariant in
    let inside : i + 1 < length es = omega (arith, c.twos-test.true, before.within) in
    let long = length-zip c.twos.keys c.twos.values before.even in
    let room : place + 1 < length now = omega (arith, inside, c.requires.room, before.as_many, long) in
    let next : suc (i + 1) ≡ i + 2 = omega arith in
    record {
      within = omega (arith, inside);
      before = rw next at (below-upto c.args.key (i + 1) c.key-next.result es c.requires.ascending inside c.key-next.ensures (omega (arith, c.if-key-next.false)));
      after = rw next at (from-upto c.args.key (i + 1) c.key-next.result es c.requires.ascending inside c.key-next.ensures (omega (arith, c.if-key-next.false)));
      as_many = c.write-in-twos.ensures.as_many ∙ c.write.ensures.as_many ∙ before.as_many;
      even = c.write-in-twos.ensures.even;
      written = rw (c.write-in-twos.ensures.written, c.write.ensures.written) (pair-written (zip c.args.keys.now c.args.values.now) now es c.args.place i first.result second.result inside room first.ensures second.ensures before.written);
    }

pub returns-clause-last : goal.returns-clause-last
returns-clause-last g c =
    let es = list_of c.args.entries in
    omega (arith, length-below c.args.key (drop c.twos.i es), length-drop c.twos.i es, c.twos-test.false, c.twos.invariant.within)
