use Rattle.std.proofs.Common.{suc, ◌≡◌, ◌≤◌, ◌<◌, ◌+◌, ◌++◌, ◌∙◌, take, length, append-nil, ap, sym, arith}
use Rattle.std.proofs.lemmas.List.{drop_all}
use Rattle.std.specs.List.{zip}
use Rattle.bw_delta.specs.Entries.{below, from}
use Rattle.bw_delta.specs.Slices.{list_of}
use Rattle.bw_delta.proofs.Zips.{length-zip}
use Rattle.bw_chain.proofs.KeysAt.{below-drop, from-drop, last-below, last-after}
use Rattle.bw_chain.proofs.Passing.Writes.{one-written}
use Rattle.bw_chain.proofs.pass.writing.copy_before.Goals as goal

pub returns-then-key-next-clause-before : goal.returns-then-key-next-clause-before
returns-then-key-next-clause-before g c =
    let es = list_of c.args.entries in
    let twos = c.copy_by_twos-count in
    let inside : twos.result < length es = omega (arith, twos.ensures.within, c.if-count-len.false) in
    let none = below-drop c.args.key twos.result c.key-next.result es c.requires.ascending inside c.key-next.ensures c.if-key-next.true in
    twos.ensures.before ∙ ap (λ l. take twos.result es ++ l) none ∙ append-nil _

pub returns-then-key-next-clause-after : goal.returns-then-key-next-clause-after
returns-then-key-next-clause-after g c =
    let es = list_of c.args.entries in
    let twos = c.copy_by_twos-count in
    let inside : twos.result < length es = omega (arith, twos.ensures.within, c.if-count-len.false) in
    twos.ensures.after ∙ from-drop c.args.key twos.result c.key-next.result es c.requires.ascending inside c.key-next.ensures c.if-key-next.true

pub returns-clause-before : goal.returns-clause-before
returns-clause-before g c =
    let es = list_of c.args.entries in
    let twos = c.copy_by_twos-count in
    let inside : twos.result < length es = omega (arith, twos.ensures.within, c.if-count-len.false) in
    let next : suc twos.result ≡ twos.result + 1 = omega arith in
    rw next at (last-below c.args.key twos.result c.key-next.result es c.requires.ascending inside c.key-next.ensures (omega (arith, c.if-key-next.false)) twos.ensures.last)

pub returns-clause-after : goal.returns-clause-after
returns-clause-after g c =
    let es = list_of c.args.entries in
    let twos = c.copy_by_twos-count in
    let inside : twos.result < length es = omega (arith, twos.ensures.within, c.if-count-len.false) in
    let next : suc twos.result ≡ twos.result + 1 = omega arith in
    rw next at (last-after c.args.key twos.result c.key-next.result es c.requires.ascending inside c.key-next.ensures (omega (arith, c.if-key-next.false)) twos.ensures.last)

pub returns-clause-written : goal.returns-clause-written
returns-clause-written g c =
    let es = list_of c.args.entries in
    let twos = c.copy_by_twos-count in
    let now = zip twos.new.keys twos.new.values in
    let long = length-zip twos.new.keys twos.new.values twos.ensures.even in
    let inside : twos.result < length es = omega (arith, twos.ensures.within, c.if-count-len.false) in
    let room : c.args.place + twos.result < length now = omega (arith, inside, c.requires.room, twos.ensures.as_many, long) in
    rw c.write.ensures.written (one-written (zip c.args.keys.now c.args.values.now) now es c.args.place twos.result c.entry.result inside room c.entry.ensures twos.ensures.written)

pub returns-then-count-len-clause-before : goal.returns-then-count-len-clause-before
returns-then-count-len-clause-before g c =
    let es = list_of c.args.entries in
    let twos = c.copy_by_twos-count in
    let all : length es ≤ twos.result = omega (arith, c.if-count-len.true) in
    twos.ensures.before ∙ ap (λ l. take twos.result es ++ below c.args.key l) (drop_all twos.result es all) ∙ append-nil _

pub returns-then-count-len-clause-after : goal.returns-then-count-len-clause-after
returns-then-count-len-clause-after g c =
    let es = list_of c.args.entries in
    let twos = c.copy_by_twos-count in
    let all : length es ≤ twos.result = omega (arith, c.if-count-len.true) in
    let none = drop_all twos.result es all in
    twos.ensures.after ∙ ap (from c.args.key) none ∙ sym none
