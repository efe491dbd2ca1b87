use Rattle.std.proofs.Common.{◌++◌, [], refl, ap, ◌∙◌}
use Rattle.std.proofs.lemmas.Result.{on_ok_weaker}
use Rattle.bw_delta.specs.Pairs.{pairs_listed}
use Rattle.bw_chain.specs.Changes.{pair_change}
use Rattle.bw_chain.specs.Kinds.{pairs_are, pairs_rise_in_range, pairs_cut_at_high}
use Rattle.bw_chain.proofs.Passing.Descents.{unedited}
use Rattle.bw_chain.proofs.pass.listing.append_pairs.Goals as goal

pub returns : goal.returns
returns g c =
    let chain = c.args.chain.now in
    let high = ap (λ fence. fence.high) c.extent_of-room.ensures.fences in
    let whole = unedited pairs_listed pair_change pairs_rise_in_range pairs_cut_at_high chain c.extent_of-room.result.fences.high [] c.requires.sound.built high refl in
    on_ok_weaker c.pass.result (λ taken. (rw c.in_ok-reserve.ensures.items at taken) ∙ ap (λ list. c.args.list.now.items ++ list) (whole ∙ pairs_are chain)) c.pass.ensures.taken
