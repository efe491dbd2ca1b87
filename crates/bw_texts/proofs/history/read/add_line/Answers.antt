use Rattle.std.proofs.Common.{◌≡◌, ◌<◌, ◌^◌, rules, true, arith}
use Rattle.std.specs.Result.{is_ok}
use Rattle.bw_texts.proofs.Trails.{rises_on}
use Rattle.bw_texts.proofs.history.read.add_line.Goals as goal

pub returns-in_ok-push-in-Pair-clause-ascending : goal.returns-in_ok-push-in-Pair-clause-ascending
returns-in_ok-push-in-Pair-clause-ascending c =
    let pushed : is_ok c.push.result ≡ true = search rules in
    let items = rw pushed at c.push.ensures.items in
    let small : c.in-Pair.key < 2 ^ 64 = omega arith in
    rw items (rises_on 0 c.args.pairs.now.items c.in-Pair.key c.in-Pair.value c.requires.ascending (omega arith) small (rw c.in-Pair.is at c.requires.above))
