use Rattle.std.proofs.Common.{sym, ◌∙◌, arith}
use Rattle.std.proofs.lemmas.Bool.Decides.{nat_tests}
use Rattle.bw_delta.specs.Slices.{list_of}
use Rattle.bw_chain.proofs.Appends.{ascends_with, ascends_after_none, ascends_before_none}
use Rattle.bw_chain.proofs.appending.is_behind.Goals as goal

pub returns-in-Some-Some : goal.returns-in-Some-Some
returns-in-Some-Some c = λ less.
    ascends_with c.in-Some-Some.first c.in-Some-Some.last (list_of c.args.front) (list_of c.args.more) c.requires.ascending
    c.requires.more_ascending
    (sym c.in-Some-Some.is-0 ∙ c.last.ensures) (sym c.in-Some-Some.is-1 ∙ c.first.ensures) (grind (arith, nat_tests, less))

pub returns-in_default : goal.returns-in_default
returns-in_default c = λ yes.
    ascends_before_none (list_of c.args.front) (list_of c.args.more) c.requires.ascending (sym c.in_default.is-1 ∙ c.first.ensures)

pub returns-in_default-2 : goal.returns-in_default-2
returns-in_default-2 c = λ yes.
    ascends_after_none (list_of c.args.front) (list_of c.args.more) c.requires.more_ascending (sym c.in_default.is-0 ∙ c.last.ensures)
