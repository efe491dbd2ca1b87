use Rattle.std.proofs.Common.{rules, ◌≡◌, ◌<◌, ◌≤◌, length, slice_index_or, arith}
use Rattle.std.proofs.lemmas.Bool.Decides.{nat_tests}
use Rattle.bw_forest.proofs.Bounding.{begun_below, begun_few}
use Rattle.bw_forest.proofs.bounds.is_past.Goals as goal

pub returns-in-Some : goal.returns-in-Some
returns-in-Some c = λ above.
    let low = c.in-Some.low.now in
    let inside : c.args.place < length c.args.lows.now = search rules in
    let is : low ≡ slice_index_or c.args.lows.now c.args.place low = search rules in
    let less : c.args.key < low = grind (arith, nat_tests, above) in
    begun_below c.args.key c.args.place low c.args.lows.now c.requires.rise inside is less

pub returns-in-None : goal.returns-in-None
returns-in-None c = λ yes.
    let past : length c.args.lows.now ≤ c.args.place = search rules in
    omega (arith, past, begun_few c.args.key c.args.lows.now)
