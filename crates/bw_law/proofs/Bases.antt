-- The page that a sound chain stands for, and its part from a separator on.
use Rattle.std.proofs.Common.{◌≡◌, ℕ, ◌<◌, Bool, true, false, refl, sym, arith}
use Rattle.std.proofs.lemmas.Bool.Decides.{nat_tests}
use Rattle.bw_keys.specs.Ranges.{end_of}
use Rattle.bw_delta.specs.Entries.{from}
use Rattle.bw_delta.specs.Pages.{Page, Listed, pairs_of, routes_of, listed_rises, IsPage}
use Rattle.bw_delta.specs.Records.{Records}
use Rattle.bw_delta.specs.Fence.{is_leaf}
use Rattle.bw_delta.specs.Pairs.{pairs, pairs_listed, routes, routes_listed}
use Rattle.bw_delta.specs.Sound.{IsSound, listed_for, page_for}
use Rattle.bw_delta.proofs.Rises.{rises-from}
use Rattle.bw_delta.proofs.Stands.{inner_has_no_pairs, leaf_has_no_routes}
use Rattle.bw_delta.specs.Pages.{listed_from, upper_part}

-- a base lists the pairs and the routes of the chain
pub pairs_of_base : (chain : Records) → IsSound chain → pairs_listed (page_for chain).listed ≡ pairs chain
pairs_of_base chain sound = by_kind (is_leaf chain) (λ _. is_leaf chain)
  where
    by_kind : (leaf : Bool) → is_leaf chain ≡ leaf → pairs_listed (listed_for leaf chain) ≡ pairs chain
    by_kind true is = refl
    by_kind false is = sym (inner_has_no_pairs chain sound.built is)

pub routes_of_base : (chain : Records) → IsSound chain → routes_listed (page_for chain).listed ≡ routes chain
routes_of_base chain sound = by_kind (is_leaf chain) (λ _. is_leaf chain)
  where
    by_kind : (leaf : Bool) → is_leaf chain ≡ leaf → routes_listed (listed_for leaf chain) ≡ routes chain
    by_kind true is = sym (leaf_has_no_routes chain sound.built is)
    by_kind false is = refl

-- the part of a list from a separator on lists the part of its pairs, and of its routes
pub pairs_from : (separator : ℕ) (l : Listed) → pairs_listed (listed_from separator l) ≡ from separator (pairs_listed l)
pairs_from separator (pairs_of es) = refl
pairs_from separator (routes_of es) = refl

pub routes_from : (separator : ℕ) (l : Listed) → routes_listed (listed_from separator l) ≡ from separator (routes_listed l)
routes_from separator (pairs_of es) = refl
routes_from separator (routes_of es) = refl

-- that part rises from the separator on
listed_rises_from : (low end separator : ℕ) (l : Listed) → listed_rises low end l ≡ true → listed_rises separator end (listed_from separator l) ≡ true
listed_rises_from low end separator (pairs_of es) rise = rises-from end low separator es rise
listed_rises_from low end separator (routes_of es) rise = rises-from end low separator es rise

-- the part of a page from a separator in its range on is a page
pub upper_part_is_page : (separator : ℕ) (page : Page) → IsPage page → separator < end_of page.high → IsPage (upper_part separator page)
upper_part_is_page separator page is_page inside = grind (arith, nat_tests, listed_rises_from page.low (end_of page.high) separator page.listed)
