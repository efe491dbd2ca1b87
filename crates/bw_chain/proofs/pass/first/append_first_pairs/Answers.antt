use Rattle.std.proofs.Common.{◌∙◌, [], length, refl, sym, ap, arith}
use Rattle.bw_keys.specs.declared.range.Fence.TheVariants.{Key}
use Rattle.bw_delta.specs.Pairs.{pairs, pairs_listed}
use Rattle.bw_chain.specs.Changes.{pair_change}
use Rattle.bw_chain.specs.Kinds.{pairs_are, pairs_rise_in_range, pairs_cut_at_high}
use Rattle.bw_chain.specs.Passing.Firsts.{with_first, first_of_all}
use Rattle.bw_chain.proofs.Passing.Descents.{unedited}
use Rattle.bw_chain.proofs.pass.first.append_first_pairs.Goals as goal

pub unreachable-requires : goal.unreachable-requires
unreachable-requires g c =
    let chain = c.args.chain.now in
    let high = ap (λ fence. fence.high) c.extent_of.ensures.fences in
    let whole = unedited pairs_listed pair_change pairs_rise_in_range pairs_cut_at_high chain c.extent_of.result.fences.high [] c.requires.sound.built high refl ∙ pairs_are chain in
    let none = rw whole at c.in-Err.ensures.refused in
    omega (arith, none, c.requires.room, ap length (first_of_all c.args.limit (Key c.args.low) c.args.list.items (pairs chain) c.requires.few))

pub returns-clause-items : goal.returns-clause-items
returns-clause-items g c =
    let chain = c.args.chain.now in
    let high = ap (λ fence. fence.high) c.extent_of.ensures.fences in
    let whole = unedited pairs_listed pair_change pairs_rise_in_range pairs_cut_at_high chain c.extent_of.result.fences.high [] c.requires.sound.built high refl ∙ pairs_are chain in
    c.in-Ok.ensures.taken.taken
    ∙ ap (λ es. with_first c.args.limit (Key c.args.low) c.args.list.items es) whole
    ∙ sym (first_of_all c.args.limit (Key c.args.low) c.args.list.items (pairs chain) c.requires.few)
