use Rattle.std.proofs.Common.{◌≡◌, ◌+◌, ◌∙◌, true, false, not, sym, ap, arith}
use Rattle.bw_chain.specs.Searching.Reaches.{is_open}
use Rattle.bw_chain.proofs.Searching.Reaches.{greatest_put, greatest_raised, greatest_lowered, greatest_without}
use Rattle.bw_chain.proofs.search.reach.Reach.passes.Goals as goal

pub returns-then-is_open-clause-passed : goal.returns-then-is_open-clause-passed
returns-then-is_open-clause-passed g c passed es answer greatest =
    let reach = c.args.self.now in
    let inside : is_open reach.upto reach.best c.in-Put.key ≡ true = sym c.if-is_open.ensures in
    rw c.in-Put.is (greatest_raised reach.upto c.in-Put.key c.in-Put.value reach.best es answer inside greatest)

pub returns-else-is_open-clause-passed : goal.returns-else-is_open-clause-passed
returns-else-is_open-clause-passed g c passed es answer greatest =
    let reach = c.args.self.now in
    let shut : is_open reach.upto reach.best c.in-Put.key ≡ false = sym c.if-is_open.ensures in
    rw c.in-Put.is (greatest_put reach.upto c.in-Put.key c.in-Put.value reach.best es answer shut greatest)

pub returns-in-Some-clause-passed : goal.returns-in-Some-clause-passed
returns-in-Some-clause-passed g c passed es answer greatest =
    let reach = c.args.self.now in
    let next : c.in-Below.bound ≡ c.in-Some.last + 1 = omega (arith, c.in-Some.ensures) in
    let lower = rw c.min-self.ensures at greatest in
    rw c.in-Below.is (greatest_lowered reach.upto c.in-Below.bound c.in-Some.last reach.best es answer next lower)

pub returns-in-Without-clause-passed : goal.returns-in-Without-clause-passed
returns-in-Without-clause-passed g c passed es answer greatest =
    let reach = c.args.self.now in
    let shut : not (is_open reach.upto reach.best c.in-Without.key) ≡ true = ap not (sym c.is_open-in-Without.ensures) ∙ passed in
    rw c.in-Without.is (greatest_without reach.upto c.in-Without.key reach.best es answer shut greatest)
