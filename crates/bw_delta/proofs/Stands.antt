-- What a sound chain stands for: its range isn't empty, and its entries rise inside it.
use Rattle.std.proofs.Common.{◌≡◌, ℕ, ◌<◌, ◌≤◌, Bool, true, false, List, [], ◌++◌, refl, ap, sym, ◌∙◌, arith}
use Rattle.std.proofs.lemmas.Bool.Decides.{nat_tests}
use Rattle.bw_keys.specs.Ranges.{key_count, end_of}
use Rattle.bw_delta.specs.declared.chain.Delta.TheVariants.{Insert, Modify, Delete, Split, Remove, TermAdd, TermDelete}
use Rattle.bw_delta.specs.declared.fences.Fences.{Fences}
use Rattle.bw_delta.specs.Entries.{below, from, rises}
use Rattle.bw_delta.specs.Pages.{IsPage, Listed, pairs_of, routes_of, listed_rises, lists_pairs}
use Rattle.bw_delta.specs.Records.{Records, bare, above, merged}
use Rattle.bw_delta.specs.Fence.{fences, is_leaf}
use Rattle.bw_delta.specs.Pairs.{pairs, pairs_listed, routes, routes_listed}
use Rattle.bw_delta.specs.Sound.{IsWellBuilt, IsSound, Joins, listed_for, page_for}
use Rattle.bw_delta.proofs.Rises.{there-from, there-below, rises-put, rises-without, rises-below, below_all, from_all, rises-append}

-- the range of a chain isn't empty
pub range_not_empty : (chain : Records) → IsWellBuilt chain → (fences chain).low < end_of (fences chain).high
range_not_empty (bare page) built = grind (arith, nat_tests)
range_not_empty (above (Insert key value) chain) built = range_not_empty chain built.0
range_not_empty (above (Modify key value) chain) built = range_not_empty chain built.0
range_not_empty (above (Delete key) chain) built = range_not_empty chain built.0
range_not_empty (above (Split separator right) chain) built = built.1.0
range_not_empty (above Remove chain) built = range_not_empty chain built.0
range_not_empty (above (TermAdd separator child) chain) built = range_not_empty chain built.0
range_not_empty (above (TermDelete separator) chain) built = range_not_empty chain built.0
range_not_empty (merged merging left right) built =
    let joins : Joins merging (fences left) (fences right) = built.3 in
    omega (arith, range_not_empty left built.0, range_not_empty right built.1, ap end_of joins.left_ends, ap end_of joins.same_high, joins.right_begins)

-- no range reaches past the keys
pub end_among_keys : (chain : Records) → IsWellBuilt chain → end_of (fences chain).high ≤ key_count
end_among_keys (bare page) built = grind (arith, nat_tests)
end_among_keys (above (Insert key value) chain) built = end_among_keys chain built.0
end_among_keys (above (Modify key value) chain) built = end_among_keys chain built.0
end_among_keys (above (Delete key) chain) built = end_among_keys chain built.0
end_among_keys (above (Split separator right) chain) built = omega (arith, end_among_keys chain built.0, built.1.1.below_high)
end_among_keys (above Remove chain) built = end_among_keys chain built.0
end_among_keys (above (TermAdd separator child) chain) built = end_among_keys chain built.0
end_among_keys (above (TermDelete separator) chain) built = end_among_keys chain built.0
end_among_keys (merged merging left right) built =
    let joins : Joins merging (fences left) (fences right) = built.3 in
    omega (arith, end_among_keys right built.1, ap end_of joins.same_high)

-- the entries rise inside the range
abbrev pub RisesIn : {X : Type 0} → Fences → List (ℕ × X) → Type 0
RisesIn fence es = rises fence.low (end_of fence.high) es ≡ true

joined_rises : {X : Type 0} → (low middle end : ℕ) (xs ys : List (ℕ × X)) → low ≤ middle → middle < end → rises low middle xs ≡ true → rises middle end ys ≡ true → rises low end (below middle xs ++ from middle ys) ≡ true
joined_rises low middle end xs ys le inside lower upper =
    rw (below_all low middle xs lower, from_all end middle middle ys (omega arith) upper) (rises-append end low middle xs ys le inside lower upper)

pub pairs_rise : (chain : Records) → IsWellBuilt chain → RisesIn (fences chain) (pairs chain)
pairs_rise (bare page) built = listed page.low (end_of page.high) page.listed (grind (arith, nat_tests))
  where
    listed : (low end : ℕ) (l : Listed) → listed_rises low end l ≡ true → rises low end (pairs_listed l) ≡ true
    listed low end (pairs_of es) h = h
    listed low end (routes_of es) h = refl
pairs_rise (above (Insert key value) chain) built =
    rises-put (end_of (fences chain).high) (fences chain).low key value (pairs chain) built.1.1.from_low built.1.1.below_high (pairs_rise chain built.0)
pairs_rise (above (Modify key value) chain) built =
    let end : ℕ = end_of (fences chain).high in
    let low : ℕ = (fences chain).low in
    let rise = pairs_rise chain built.0 in
    rises-put end low key value (pairs chain) (there-from end low key (pairs chain) built.1.1 rise) (there-below end low key (pairs chain) built.1.1 rise) rise
pairs_rise (above (Delete key) chain) built = rises-without (end_of (fences chain).high) (fences chain).low key (pairs chain) (pairs_rise chain built.0)
pairs_rise (above (Split separator right) chain) built = rises-below (end_of (fences chain).high) (fences chain).low separator (pairs chain) (pairs_rise chain built.0)
pairs_rise (above Remove chain) built = pairs_rise chain built.0
pairs_rise (above (TermAdd separator child) chain) built = pairs_rise chain built.0
pairs_rise (above (TermDelete separator) chain) built = pairs_rise chain built.0
pairs_rise (merged merging left right) built =
    let joins : Joins merging (fences left) (fences right) = built.3 in
    let lower : rises (fences left).low merging.separator (pairs left) ≡ true = rw (ap end_of joins.left_ends) at (pairs_rise left built.0) in
    let upper : rises merging.separator (end_of merging.high) (pairs right) ≡ true = rw (ap end_of joins.same_high, joins.right_begins) at (pairs_rise right built.1) in
    joined_rises (fences left).low merging.separator (end_of merging.high) (pairs left) (pairs right) (omega (arith, range_not_empty left built.0, ap end_of joins.left_ends))
    (omega (arith, range_not_empty right built.1, ap end_of joins.same_high, joins.right_begins)) lower upper

pub routes_rise : (chain : Records) → IsWellBuilt chain → RisesIn (fences chain) (routes chain)
routes_rise (bare page) built = listed page.low (end_of page.high) page.listed (grind (arith, nat_tests))
  where
    listed : (low end : ℕ) (l : Listed) → listed_rises low end l ≡ true → rises low end (routes_listed l) ≡ true
    listed low end (pairs_of es) h = refl
    listed low end (routes_of es) h = h
routes_rise (above (Insert key value) chain) built = routes_rise chain built.0
routes_rise (above (Modify key value) chain) built = routes_rise chain built.0
routes_rise (above (Delete key) chain) built = routes_rise chain built.0
routes_rise (above (Split separator right) chain) built = rises-below (end_of (fences chain).high) (fences chain).low separator (routes chain) (routes_rise chain built.0)
routes_rise (above Remove chain) built = routes_rise chain built.0
routes_rise (above (TermAdd separator child) chain) built =
    rises-put (end_of (fences chain).high) (fences chain).low separator child (routes chain) built.1.1.from_low built.1.1.below_high (routes_rise chain built.0)
routes_rise (above (TermDelete separator) chain) built =
    rises-without (end_of (fences chain).high) (fences chain).low separator (routes chain) (routes_rise chain built.0)
routes_rise (merged merging left right) built =
    let joins : Joins merging (fences left) (fences right) = built.3 in
    let lower : rises (fences left).low merging.separator (routes left) ≡ true = rw (ap end_of joins.left_ends) at (routes_rise left built.0) in
    let upper : rises merging.separator (end_of merging.high) (routes right) ≡ true = rw (ap end_of joins.same_high, joins.right_begins) at (routes_rise right built.1) in
    joined_rises (fences left).low merging.separator (end_of merging.high) (routes left) (routes right) (omega (arith, range_not_empty left built.0, ap end_of joins.left_ends))
    (omega (arith, range_not_empty right built.1, ap end_of joins.same_high, joins.right_begins)) lower upper

-- the page that a sound chain stands for is one
pub page_for_is_page : (chain : Records) → IsSound chain → IsPage (page_for chain)
page_for_is_page chain sound =
    grind (arith, nat_tests, range_not_empty chain sound.built, end_among_keys chain sound.built, leaf_or_not (is_leaf chain))
  where
    leaf_or_not : (leaf : Bool) → listed_rises (fences chain).low (end_of (fences chain).high) (listed_for leaf chain) ≡ true
    leaf_or_not true = pairs_rise chain sound.built
    leaf_or_not false = routes_rise chain sound.built

-- an inner chain has no pairs
pub inner_has_no_pairs : (chain : Records) → IsWellBuilt chain → is_leaf chain ≡ false → pairs chain ≡ []
inner_has_no_pairs (bare page) built inner = unlisted page.listed inner
  where
    unlisted : (l : Listed) → lists_pairs l ≡ false → pairs_listed l ≡ []
    unlisted (pairs_of es) h = cc
    unlisted (routes_of es) h = refl
inner_has_no_pairs (above (Insert key value) chain) built inner = let leaf = built.1.0 in cc
inner_has_no_pairs (above (Modify key value) chain) built inner = let leaf = built.1.0 in cc
inner_has_no_pairs (above (Delete key) chain) built inner = let leaf = built.1.0 in cc
inner_has_no_pairs (above (Split separator right) chain) built inner = ap (below separator) (inner_has_no_pairs chain built.0 inner)
inner_has_no_pairs (above Remove chain) built inner = inner_has_no_pairs chain built.0 inner
inner_has_no_pairs (above (TermAdd separator child) chain) built inner = inner_has_no_pairs chain built.0 inner
inner_has_no_pairs (above (TermDelete separator) chain) built inner = inner_has_no_pairs chain built.0 inner
inner_has_no_pairs (merged merging left right) built inner =
    let same : is_leaf left ≡ is_leaf right = built.2 in
    rw (inner_has_no_pairs left built.0 inner, inner_has_no_pairs right built.1 (sym same ∙ inner)) refl

-- a leaf chain has no routes
pub leaf_has_no_routes : (chain : Records) → IsWellBuilt chain → is_leaf chain ≡ true → routes chain ≡ []
leaf_has_no_routes (bare page) built leaf = unlisted page.listed leaf
  where
    unlisted : (l : Listed) → lists_pairs l ≡ true → routes_listed l ≡ []
    unlisted (pairs_of es) h = refl
    unlisted (routes_of es) h = cc
leaf_has_no_routes (above (Insert key value) chain) built leaf = leaf_has_no_routes chain built.0 leaf
leaf_has_no_routes (above (Modify key value) chain) built leaf = leaf_has_no_routes chain built.0 leaf
leaf_has_no_routes (above (Delete key) chain) built leaf = leaf_has_no_routes chain built.0 leaf
leaf_has_no_routes (above (Split separator right) chain) built leaf = ap (below separator) (leaf_has_no_routes chain built.0 leaf)
leaf_has_no_routes (above Remove chain) built leaf = leaf_has_no_routes chain built.0 leaf
leaf_has_no_routes (above (TermAdd separator child) chain) built leaf = let inner = built.1.0 in cc
leaf_has_no_routes (above (TermDelete separator) chain) built leaf = let inner = built.1.0 in cc
leaf_has_no_routes (merged merging left right) built leaf =
    let same : is_leaf left ≡ is_leaf right = built.2 in
    rw (leaf_has_no_routes left built.0 leaf, leaf_has_no_routes right built.1 (sym same ∙ leaf)) refl
