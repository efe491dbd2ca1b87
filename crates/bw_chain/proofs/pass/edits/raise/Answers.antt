use Rattle.std.proofs.Common.{suc, ◌≡◌, ◌<◌, ◌-◌, ◌∙◌, length, take, sym, ap, arith}
use Rattle.std.proofs.lemmas.Bool.Decides.{nat_tests}
use Rattle.std.proofs.lemmas.List.{length-set, length-take-le}
use Rattle.bw_keys.specs.Ranges.{key_count}
use Rattle.bw_chain.proofs.Passing.Inserts.{raised, raise-before, raise-behind}
use Rattle.bw_chain.proofs.Passing.Notes.{falls-rest, noted-behind, noted-in_front, noted-there}
use Rattle.bw_chain.proofs.pass.edits.raise.Goals as goal

pub returns-then-key-edit-clause-missing : goal.returns-then-key-edit-clause-missing
returns-then-key-edit-clause-missing g c is_missing x =
    let front = take c.args.count c.args.edits.now in
    let i = c.up.i in
    let y = c.index-edits-i.result in
    let same = raised c.args.edits.now c.up.edits c.args.count i y c.up.invariant.upto c.up-test.true c.requires.inside c.up.invariant.as_many c.up.invariant.before c.index-edits-i.is in
    let inside : i - 1 < length front = omega (arith, length-take-le c.args.count c.args.edits.now (omega (arith, c.requires.inside)), c.up.invariant.upto, c.up-test.true) in
    let next : suc (i - 1) ≡ i = omega (arith, c.up-test.true) in
    let less : c.args.key < y.0 = grind (arith, nat_tests, c.if-key-edit.true, is_missing) in
    rw next at (noted-behind 0 key_count c.args.key (i - 1) x y front c.requires.falling inside (rw same at less) (rw next c.up.invariant.smaller))

pub returns-then-key-edit-clause-there : goal.returns-then-key-edit-clause-there
returns-then-key-edit-clause-there g c is_there x =
    let front = take c.args.count c.args.edits.now in
    let i = c.up.i in
    let y = c.index-edits-i.result in
    let same = raised c.args.edits.now c.up.edits c.args.count i y c.up.invariant.upto c.up-test.true c.requires.inside c.up.invariant.as_many c.up.invariant.before c.index-edits-i.is in
    let inside : i - 1 < length front = omega (arith, length-take-le c.args.count c.args.edits.now (omega (arith, c.requires.inside)), c.up.invariant.upto, c.up-test.true) in
    let equal : c.args.key ≡ y.0 = grind (arith, nat_tests, is_there) in
    noted-there 0 key_count c.args.key (i - 1) x y front c.requires.falling inside (sym (ap (λ e. e.0) same) ∙ sym equal)

pub up-preserved : goal.up-preserved
up-preserved g c =
    let old = c.args.edits.now in
    let now = c.up.edits in
    let i = c.up.i in
    let y = c.index-edits-i.result in
    let before = c.up.invariant in
    let inside = c.requires.inside in
    let same = raised old now c.args.count i y before.upto c.up-test.true inside before.as_many before.before c.index-edits-i.is in
    let less : y.0 < c.args.key = omega (arith, c.if-key-edit.false) in
    record {
      upto = omega (arith, before.upto);
      as_many = length-set now i y ∙ before.as_many;
      before = raise-before old now c.args.count i y before.upto c.up-test.true inside before.as_many before.before c.index-edits-i.is;
      behind = raise-behind old now c.args.count i y before.upto c.up-test.true inside before.as_many before.before c.index-edits-i.is before.behind;
      smaller = falls-rest 0 key_count c.args.key (i - 1) y (take c.args.count old) c.requires.falling (omega (arith, length-take-le c.args.count old (omega (arith, inside)), before.upto, c.up-test.true)) (rw same at less);
    }

pub returns-clause-missing : goal.returns-clause-missing
returns-clause-missing g c is_missing x =
    let front = take c.args.count c.args.edits.now in
    let none : c.up.i ≡ 0 = omega (arith, c.up-test.false) in
    rw none (noted-in_front c.args.key x front (rw none at c.up.invariant.smaller))
