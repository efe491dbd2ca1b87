use Rattle.std.proofs.Common.{rules, ◌≡◌, refl, arith}
use Rattle.bw_tree.specs.Shares.{sum_of}
use Rattle.bw_tree.specs.Stocks.{fresh}
use Rattle.bw_tree.proofs.Trees.{closed}
use Rattle.bw_tree.proofs.booked.Booked+A+I+D.close.Goals as goal

pub returns-clause-closed : goal.returns-clause-closed
returns-clause-closed g c =
    let sum : c.self.inside.stock ≡ sum_of c.args.shares.items = search rules in
    closed _ _ _ _ c.self.invariant.0 c.self.invariant.1 sum

pub returns-clause-all : goal.returns-clause-all
returns-clause-all g c =
    let begun : c.in-Some.totals ≡ fresh 1 g.I.Ledger.parts = let kept = c.self.invariant.2 in let is = c.in-Some.is in cc in
    let all = rw (c.take.ensures, begun) at c.in_ok-close.ensures.all in
    let whole = all.0 refl in
    (λ _. omega (arith, whole), λ _. refl)
