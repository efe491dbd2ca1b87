-- The part of a page from one of its entries on is that from the entry's key on, and a page.
use Rattle.std.proofs.Common.{◌≡◌, ℕ, zero, suc, ◌+◌, ◌<◌, ◌≤◌, true, List, [], ◌∷◌, drop, ap, arith}
use Rattle.std.specs.Prelude.{Some}
use Rattle.std.proofs.lemmas.Bool.Decides.{nat_tests}
use Rattle.bw_keys.specs.Ranges.{end_of}
use Rattle.bw_delta.specs.Entries.{rises, from}
use Rattle.bw_delta.specs.Pages.{Page, IsPage, Listed, pairs_of, routes_of, listed_rises, listed_from, upper_part}
use Rattle.bw_delta.proofs.Rises.{from_all}
use Rattle.bw_chain.specs.Pages.Halves.{key_at, listed_key_at, listed_behind}

module _ {X : Type 0} where
  record StandsByNumber (low end n separator : ℕ) (es : List (ℕ × X)) : Type 0 where
    from_low : low ≤ separator
    below_end : separator < end
    rest : from separator es ≡ drop n es
    rising : rises separator end (drop n es) ≡ true

  stands_by_number : (low end n separator : ℕ) (es : List (ℕ × X)) → key_at n es ≡ Some separator → rises low end es ≡ true → StandsByNumber low end n separator es
  stands_by_number low end n separator [] key h = cc
  stands_by_number low end zero separator (e ∷ es) key h =
      let same : e.0 ≡ separator = cc in
      let rises_on : rises (e.0 + 1) end es ≡ true = grind (arith, nat_tests) in
      record {
        from_low = grind (arith, nat_tests);
        below_end = grind (arith, nat_tests);
        rest = grind (arith, nat_tests, from_all end (e.0 + 1) separator es);
        rising = grind (arith, nat_tests);
      }
  stands_by_number low end (suc n) separator (e ∷ es) key h =
      let rises_on : rises (e.0 + 1) end es ≡ true = grind (arith, nat_tests) in
      let first : low ≤ e.0 = grind (arith, nat_tests) in
      let later = stands_by_number (e.0 + 1) end n separator es key rises_on in
      record {
        from_low = omega (arith, later.from_low);
        below_end = later.below_end;
        rest = grind (arith, nat_tests, later.from_low, later.rest);
        rising = later.rising;
      }

part_rises : (low end n separator : ℕ) (listed : Listed) → listed_key_at n listed ≡ Some separator → listed_rises low end listed ≡ true → (listed_rises separator end (listed_behind n listed) ≡ true) × (separator < end)
part_rises low end n separator (pairs_of es) key h = let at = stands_by_number low end n separator es key h in (at.rising, at.below_end)
part_rises low end n separator (routes_of es) key h = let at = stands_by_number low end n separator es key h in (at.rising, at.below_end)

part_is_from : (low end n separator : ℕ) (listed : Listed) → listed_key_at n listed ≡ Some separator → listed_rises low end listed ≡ true → listed_from separator listed ≡ listed_behind n listed
part_is_from low end n separator (pairs_of es) key h = ap pairs_of (stands_by_number low end n separator es key h).rest
part_is_from low end n separator (routes_of es) key h = ap routes_of (stands_by_number low end n separator es key h).rest

module _ (page : Page) (n separator : ℕ) (whole : IsPage page) (key : listed_key_at n page.listed ≡ Some separator) where
  all_rise : listed_rises page.low (end_of page.high) page.listed ≡ true
  all_rise = grind (arith, nat_tests, whole)

  pub from_its_key : listed_from separator page.listed ≡ listed_behind n page.listed
  from_its_key = part_is_from page.low (end_of page.high) n separator page.listed key all_rise

  pub upper_part_is_page : IsPage (upper_part separator page)
  upper_part_is_page =
      let upper = part_rises page.low (end_of page.high) n separator page.listed key all_rise in
      rw from_its_key (grind (arith, nat_tests, whole, upper.0, upper.1))
