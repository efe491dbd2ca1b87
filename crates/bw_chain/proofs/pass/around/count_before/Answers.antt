use Rattle.std.proofs.Common.{suc, ◌≡◌, ◌<◌, ◌+◌, ◌++◌, append-nil, length, take, ap, ◌∙◌, arith}
use Rattle.bw_delta.specs.Slices.{list_of}
use Rattle.bw_chain.proofs.KeysAt.{below-drop, from-drop, below-upto, from-upto}
use Rattle.bw_chain.proofs.pass.around.count_before.Goals as goal

pub returns-then-key-here-clause-before : goal.returns-then-key-here-clause-before
returns-then-key-here-clause-before g c =
    let es = list_of c.args.entries in
    let inside : c.loop-i.i < length es = omega arith in
    let none = below-drop c.args.key c.loop-i.i c.key-here.result es c.requires.ascending inside c.key-here.ensures c.if-key-here.true in
    c.loop-i.invariant.before ∙ ap (λ l. take c.loop-i.i es ++ l) none ∙ append-nil _

pub returns-then-key-here-clause-after : goal.returns-then-key-here-clause-after
returns-then-key-here-clause-after g c =
    let es = list_of c.args.entries in
    let inside : c.loop-i.i < length es = omega arith in
    c.loop-i.invariant.after ∙ from-drop c.args.key c.loop-i.i c.key-here.result es c.requires.ascending inside c.key-here.ensures c.if-key-here.true

pub loop-i-preserved : goal.loop-i-preserved
loop-i-preserved g c =
    let es = list_of c.args.entries in
    let inside : c.loop-i.i < length es = omega arith in
    let less = c.if-key-here.false in
    let next : suc c.loop-i.i ≡ c.loop-i.i + 1 = omega arith in
    record {
      before = rw next at (below-upto c.args.key c.loop-i.i c.key-here.result es c.requires.ascending inside c.key-here.ensures less);
      after = rw next at (from-upto c.args.key c.loop-i.i c.key-here.result es c.requires.ascending inside c.key-here.ensures less);
    }
