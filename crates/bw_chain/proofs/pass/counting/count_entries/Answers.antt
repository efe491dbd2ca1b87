use Rattle.std.proofs.Common.{[], length, refl, ap, arith}
use Rattle.bw_chain.proofs.Passing.Descents.{unedited}
use Rattle.bw_chain.proofs.pass.counting.count_entries.Goals as goal

pub returns : goal.returns
returns g c =
    let entry = g.X.EntryValue in
    let laws = g.met.X.EntryValue in
    let whole = unedited entry.own_entries entry.own_change laws.rise laws.cut c.args.chain.now c.args.high [] c.requires.built c.requires.high refl in
    omega (arith, c.in-Ok.ensures.taken, ap length whole)
