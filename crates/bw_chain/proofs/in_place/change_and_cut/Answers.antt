use Rattle.std.specs.Prelude.{is_some}
use Rattle.std.proofs.Common.{refl, ap, sym, subst, ◌∙◌}
use Rattle.bw_delta.specs.Pages.{IsPage}
use Rattle.bw_chain.specs.InPlaces.{delta_for, inserts}
use Rattle.bw_chain.proofs.InPlaces.{cut_behind, found_behind_cut}
use Rattle.bw_chain.proofs.in_place.change_and_cut.Goals as goal

pub returns-then-is_some-clause-had : goal.returns-then-is_some-clause-had
returns-then-is_some-clause-had g c = c.in_ok-had.ensures.had ∙ sym (found_behind_cut c.args.separator c.args.key c.args.right c.args.base.now c.requires.within)

pub returns-then-is_some-clause-changed : goal.returns-then-is_some-clause-changed
returns-then-is_some-clause-changed g c =
    cut_behind c.args.base.now (subst IsPage c.base.view_is c.base.invariant) c.args.separator c.args.right c.args.key c.requires.within.below_high c.args.wished c.in_ok-had.had (delta_for c.args.wished c.args.key c.in_ok-had.had)
    c.change_on_base.new.base c.cut_base.new.base refl c.in_ok-had.ensures.changed c.cut_base.ensures (ap is_some (sym c.delta_for.ensures) ∙ sym c.is_some.ensures ∙ c.if-is_some.true)

pub returns-else-is_some-clause-had : goal.returns-else-is_some-clause-had
returns-else-is_some-clause-had g c = c.in_ok-had.ensures.had ∙ sym (found_behind_cut c.args.separator c.args.key c.args.right c.args.base.now c.requires.within)

pub returns-in_err-had-clause-memory : goal.returns-in_err-had-clause-memory
returns-in_err-had-clause-memory g c =
    let found = found_behind_cut c.args.separator c.args.key c.args.right c.args.base.now c.requires.within in
    rw c.from_residual.ensures (λ sound leaf flat. ap (inserts c.args.wished) found ∙ c.in_err-had.ensures.memory leaf)
