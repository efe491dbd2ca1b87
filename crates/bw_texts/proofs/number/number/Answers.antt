use Rattle.std.proofs.Common.{◌∙◌, sym, arith}
use Rattle.bw_texts.proofs.Digits.{past_the_end, all_read}
use Rattle.bw_texts.proofs.number.number.Goals as goal

pub returns-in_err-checked_mul : goal.returns-in_err-checked_mul
returns-in_err-checked_mul c =
    let l = c.loop-digit in
    c.from_residual.ensures ∙ sym (past_the_end c.args.text.now l.digit-index l.value c.loop-digit-test.true (omega arith) l.invariant.fit)

pub returns-in_err-value : goal.returns-in_err-value
returns-in_err-value c =
    let l = c.loop-digit in
    c.from_residual-in_err-value.ensures ∙ sym (past_the_end c.args.text.now l.digit-index l.value c.loop-digit-test.true (omega arith) l.invariant.fit)

pub returns : goal.returns
returns c =
    let l = c.loop-digit in
    all_read c.args.text.now l.digit-index l.value (sym c.if-is_empty.ensures) (omega arith) c.loop-digit-test.false (omega arith) l.invariant.fit l.invariant.value
