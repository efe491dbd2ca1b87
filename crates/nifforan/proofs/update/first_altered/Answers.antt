use Rattle.std.proofs.Common.{rules, Some, refl, arith}
use denote.Param.Always.{mut_next}
use Rattle.std.proofs.lemmas.Bool.Decides.{nat_tests}
use Rattle.nifforan.proofs.Updates.{alters_first, alters_behind}
use Rattle.nifforan.proofs.update.first_altered.Goals as goal

pub returns-then-value-had-clause-alters : goal.returns-then-value-had-clause-alters
returns-then-value-had-clause-alters g c =
    c.loop-key.invariant.3 (Some (c.in-Some.key, c.new-value.result)) c.new-value.new.self
    (alters_first _ c.loop-key.new c.new-value.new.self c.in-Some.key c.in-Some.had c.new-value.result c.loop-key.pairs c.next.new.self
    c.in-Some.ensures.steps (search rules) (grind (arith, nat_tests, c.if-value-had.true)))

pub loop-key-preserved : goal.loop-key-preserved
loop-key-preserved g c = (
  search rules,
  search rules,
  mut_next g.F.FnMut _ _ _ _ _ c.new-value.ensures refl c.loop-key.invariant.2,
  λ found last those. c.loop-key.invariant.3 found last
      (alters_behind _ found c.loop-key.new c.new-value.new.self last c.in-Some.key c.in-Some.had c.new-value.result c.loop-key.pairs
      c.next.new.self c.in-Some.ensures.steps (search rules) (grind (arith, nat_tests, c.if-value-had.false)) those),
)
