-- The entries of each kind are the pairs and the routes. What holds of both: the laws of `EntryValue`.
use Rattle.std.proofs.Common.{◌≡◌, refl, ap, arith}
use Rattle.bw_delta.specs.declared.chain.Delta.TheVariants.{Insert, Modify, Delete, Split, Remove, TermAdd, TermDelete}
use Rattle.bw_delta.specs.Entries.{below, put, without}
use Rattle.bw_delta.specs.Pairs.{pairs, pairs_listed, routes, routes_listed}
use Rattle.bw_delta.specs.Records.{Records, bare, above, merged}
use Rattle.bw_delta.proofs.Stands.{pairs_rise, routes_rise}
use Rattle.bw_chain.specs.Changes.{entries_by, pair_change, route_change}
use Rattle.bw_chain.specs.Laws.{RiseInRange, AreCutAtHigh}

pub pairs_are : (chain : Records) → entries_by pairs_listed pair_change chain ≡ pairs chain
pairs_are (bare page) = refl
pairs_are (above (Insert key value) chain) = ap (put key value) (pairs_are chain)
pairs_are (above (Modify key value) chain) = ap (put key value) (pairs_are chain)
pairs_are (above (Delete key) chain) = ap (without key) (pairs_are chain)
pairs_are (above (Split separator right) chain) = ap (below separator) (pairs_are chain)
pairs_are (above Remove chain) = pairs_are chain
pairs_are (above (TermAdd separator child) chain) = pairs_are chain
pairs_are (above (TermDelete separator) chain) = pairs_are chain
pairs_are (merged merging left right) = rw (pairs_are left, pairs_are right) refl

pub routes_are : (chain : Records) → entries_by routes_listed route_change chain ≡ routes chain
routes_are (bare page) = refl
routes_are (above (Insert key value) chain) = routes_are chain
routes_are (above (Modify key value) chain) = routes_are chain
routes_are (above (Delete key) chain) = routes_are chain
routes_are (above (Split separator right) chain) = ap (below separator) (routes_are chain)
routes_are (above Remove chain) = routes_are chain
routes_are (above (TermAdd separator child) chain) = ap (put separator child) (routes_are chain)
routes_are (above (TermDelete separator) chain) = ap (without separator) (routes_are chain)
routes_are (merged merging left right) = rw (routes_are left, routes_are right) refl

pub pairs_rise_in_range : RiseInRange pairs_listed pair_change
pairs_rise_in_range chain built = rw (pairs_are chain) (pairs_rise chain built)

pub routes_rise_in_range : RiseInRange routes_listed route_change
routes_rise_in_range chain built = rw (routes_are chain) (routes_rise chain built)

-- a split cuts them off where the range ends
pub pairs_cut_at_high : AreCutAtHigh pair_change
pairs_cut_at_high (Insert key value) chain = tt
pairs_cut_at_high (Modify key value) chain = tt
pairs_cut_at_high (Delete key) chain = tt
pairs_cut_at_high (Split separator right) chain = omega arith
pairs_cut_at_high Remove chain = tt
pairs_cut_at_high (TermAdd separator child) chain = tt
pairs_cut_at_high (TermDelete separator) chain = tt

pub routes_cut_at_high : AreCutAtHigh route_change
routes_cut_at_high (Insert key value) chain = tt
routes_cut_at_high (Modify key value) chain = tt
routes_cut_at_high (Delete key) chain = tt
routes_cut_at_high (Split separator right) chain = omega arith
routes_cut_at_high Remove chain = tt
routes_cut_at_high (TermAdd separator child) chain = tt
routes_cut_at_high (TermDelete separator) chain = tt
