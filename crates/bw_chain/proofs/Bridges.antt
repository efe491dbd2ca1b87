-- The entries of each kind are the pairs and the routes.
use Rattle.std.proofs.Common.{◌≡◌, ◌≤◌, ℕ, List, Bool, true, false, ◌&&◌, ◌||◌, not, is_some, length, refl, ap, sym, subst, arith}
use Rattle.bw_keys.specs.declared.page.Pid.{Pid}
use Rattle.bw_keys.specs.Ranges.{end_of}
use Rattle.bw_delta.specs.declared.chain.Delta.{Delta}
use Rattle.bw_delta.specs.declared.chain.Delta.TheVariants.{Insert, Modify, Delete, Split, Remove, TermAdd, TermDelete}
use Rattle.bw_delta.specs.Entries.{at, starts_at}
use Rattle.bw_delta.specs.Records.{Records, above}
use Rattle.bw_delta.specs.Pairs.{pairs, pairs_listed, routes, routes_listed}
use Rattle.bw_delta.specs.Sound.{IsWellBuilt, IsSound, entry_count, is_later_key}
use Rattle.bw_delta.specs.Fence.{fences, is_leaf}
use Rattle.bw_delta.proofs.Stands.{leaf_has_no_routes, inner_has_no_pairs}
use Rattle.bw_chain.specs.Ascends.{IsAscending}
use Rattle.bw_chain.proofs.Ascending.{pairs_ascend, routes_ascend}
use Rattle.bw_chain.specs.Changes.{entries_by, pair_change, route_change}
use Rattle.bw_chain.specs.Kinds.{pairs_are, routes_are}

pub own_pairs_ascend : (chain : Records) → IsSound chain → IsAscending (entries_by pairs_listed pair_change chain)
own_pairs_ascend chain sound = rw (pairs_are chain) (pairs_ascend chain sound.built)

pub own_routes_ascend : (chain : Records) → IsSound chain → IsAscending (entries_by routes_listed route_change chain)
own_routes_ascend chain sound = rw (routes_are chain) (routes_ascend chain sound.built)

-- no record takes the range further
pub ranges_shrink : (delta : Delta) (chain : Records) → IsWellBuilt (above delta chain) → end_of (fences (above delta chain)).high ≤ end_of (fences chain).high
ranges_shrink (Insert key value) chain built = omega arith
ranges_shrink (Modify key value) chain built = omega arith
ranges_shrink (Delete key) chain built = omega arith
ranges_shrink (Split separator right) chain built = omega (arith, built.1.1.below_high)
ranges_shrink Remove chain built = omega arith
ranges_shrink (TermAdd separator child) chain built = omega arith
ranges_shrink (TermDelete separator) chain built = omega arith

-- a chain has entries of one kind alone
pub own_pair_count : (chain : Records) → IsSound chain → is_leaf chain ≡ true → length (entries_by pairs_listed pair_change chain) ≡ entry_count chain
own_pair_count chain sound leaf = omega (arith, ap length (pairs_are chain), ap length (leaf_has_no_routes chain sound.built leaf))

pub own_route_count : (chain : Records) → IsSound chain → is_leaf chain ≡ false → length (entries_by routes_listed route_change chain) ≡ entry_count chain
own_route_count chain sound inner = omega (arith, ap length (routes_are chain), ap length (inner_has_no_pairs chain sound.built inner))

nothing_more : (a b : Bool) → (a && not b) ≡ ((a || false) && not (b || false))
nothing_more true true = refl
nothing_more true false = refl
nothing_more false true = refl
nothing_more false false = refl

-- so a page can be split at a later key of that kind
pub later_pair : (key : ℕ) (chain : Records) → IsSound chain → is_leaf chain ≡ true → (is_some (at key (pairs chain)) && not (starts_at key (pairs chain))) ≡ is_later_key key chain
later_pair key chain sound leaf =
    let P : List (ℕ × Pid) → Type 0 = λ es. (is_some (at key (pairs chain)) && not (starts_at key (pairs chain)))
    ≡ ((is_some (at key (pairs chain)) || is_some (at key es)) && not (starts_at key (pairs chain) || starts_at key es)) in
    subst P (sym (leaf_has_no_routes chain sound.built leaf)) (nothing_more (is_some (at key (pairs chain))) (starts_at key (pairs chain)))

pub later_route : (key : ℕ) (chain : Records) → IsSound chain → is_leaf chain ≡ false → (is_some (at key (routes chain)) && not (starts_at key (routes chain))) ≡ is_later_key key chain
later_route key chain sound inner =
    let P : List (ℕ × ℕ) → Type 0 = λ es. (is_some (at key (routes chain)) && not (starts_at key (routes chain)))
    ≡ ((is_some (at key es) || is_some (at key (routes chain))) && not (starts_at key es || starts_at key (routes chain))) in
    subst P (sym (inner_has_no_pairs chain sound.built inner)) refl

pub ruleset both_kinds = (pairs_are, routes_are, own_pairs_ascend, own_routes_ascend)
