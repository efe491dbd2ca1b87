use Rattle.std.proofs.Common.{sym, ◌∙◌, arith}
use Rattle.bw_delta.proofs.At.{at-put_other, at-without_other, at-below_in}
use Rattle.bw_chain.proofs.search.stretch.stretch_under.Goals as goal

pub returns-in-Put-clause-same : goal.returns-in-Put-clause-same
returns-in-Put-clause-same c es same q above inside =
    let within = c.beside.ensures.inside q above inside in
    rw c.in-Put.is (same q within.0 within.1 ∙ sym (at-put_other c.in-Put.named q c.in-Put.field-1 es (c.beside.ensures.others q above inside)))

pub returns-in-Without-clause-same : goal.returns-in-Without-clause-same
returns-in-Without-clause-same c es same q above inside =
    let within = c.beside-in-Without.ensures.inside q above inside in
    rw c.in-Without.is (same q within.0 within.1 ∙ sym (at-without_other c.in-Without.named q es (c.beside-in-Without.ensures.others q above inside)))

pub returns-in-Below-clause-same : goal.returns-in-Below-clause-same
returns-in-Below-clause-same c es same q above inside =
    rw c.in-Below.is (same q (omega (arith, above, c.part_before.ensures.low)) (omega (arith, inside, c.part_before.ensures.end)) ∙ sym (at-below_in c.in-Below.bound q es (omega (arith, inside, c.part_before.ensures.end))))
