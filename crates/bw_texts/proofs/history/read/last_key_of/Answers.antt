use Rattle.std.proofs.Common.{◌∙◌, ap, ℕ, Option, option_map}
use Rattle.bw_texts.proofs.Trails.{last_entry_is}
use Rattle.bw_texts.proofs.history.read.last_key_of.Goals as goal

pub returns : goal.returns
returns c =
    let last = rw c.in_ok-last.was at c.last.ensures.value in
    ap (λ (pair : Option (ℕ × ℕ)). option_map (λ p. p.0) pair) (last ∙ last_entry_is c.args.pairs.now)
