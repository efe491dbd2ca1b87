use Rattle.std.proofs.Common.{◌<◌, ℕ, [], ◌∷◌, arith}
use Rattle.std.proofs.lemmas.Bool.Decides.{nat_tests}
use Rattle.bw_keys.specs.Ranges.{key_count}
use Rattle.bw_chain.specs.Ascends.{IsAscending}
use Rattle.bw_chain.proofs.pass.first.take_edit.Goals as goal

one-ascends : (key value : ℕ) → key < key_count → IsAscending ((key, value) ∷ [])
one-ascends key value fits = grind (arith, nat_tests)

pub take_run-requires : goal.take_run-requires
take_run-requires g c = record { ascending = rw c.of.ensures (one-ascends c.args.key c.in-Some.value (omega (arith, c.ranges.key.fits))) }

pub returns-in-Some-clause-taken : goal.returns-in-Some-clause-taken
returns-in-Some-clause-taken g c = rw c.in-Some.is (rw c.of.ensures at c.take_run.ensures.taken)

pub returns-in-Some-clause-refused : goal.returns-in-Some-clause-refused
returns-in-Some-clause-refused g c = rw c.in-Some.is (rw c.of.ensures at c.take_run.ensures.refused)
