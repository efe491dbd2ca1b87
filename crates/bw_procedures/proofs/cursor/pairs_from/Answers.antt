use Rattle.std.proofs.Common.{rules, ◌≡◌, ℕ, nat_le, List, ap, ◌∙◌}
use Rattle.std.proofs.lemmas.Bool.Decides.{nat_tests}
use Rattle.std.proofs.lemmas.Fn.{filter_same}
use Rattle.bw_delta.specs.Entries.{from}
use Rattle.bw_delta.specs.Pairs.{pairs}
use Rattle.bw_procedures.proofs.cursor.pairs_from.Goals as goal

pub returns : goal.returns
returns g c =
    let kept = filter_same _ (λ (e : ℕ × ℕ). nat_le c.args.key e.0) _ (λ x b f' called. search (rules, nat_tests)) _ _ c.retain.ensures.filtered in
    let appended : c.append_pairs.new.list.items ≡ pairs c.args.chain.now = search rules in
    kept ∙ ap (λ (es : List (ℕ × ℕ)). from c.args.key es) appended
