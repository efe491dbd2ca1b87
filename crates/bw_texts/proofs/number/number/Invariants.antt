use Rattle.std.proofs.Common.{◌≡◌, ◌<◌, ◌^◌, drop}
use Rattle.bw_texts.specs.Numbers.{fits, value_after}
use Rattle.bw_texts.proofs.number.number.Given as goal

abbrev pub invariant-loop-digit : goal.invariant-loop-digit
invariant-loop-digit l = record {
  small : l.value < 2 ^ 64;
  fit : fits l.value (drop l.digit-index l.text) ≡ fits 0 l.text;
  value : value_after l.value (drop l.digit-index l.text) ≡ value_after 0 l.text;
}
