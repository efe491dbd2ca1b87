-- The pairs joined over the leaf row are the map, and the routes joined over a row the terms of the level below.
use Rattle.std.proofs.Common.{◌≡◌, ◌↔◌, ℕ, ◌+◌, ◌<◌, List, [], ◌∷◌, ◌++◌, Some, refl, sym, ◌∙◌, ap, subst, arith}
use Rattle.std.specs.Prelude.{option_map}
use Rattle.bw_keys.specs.declared.page.Pid.{Pid}
use Rattle.bw_keys.specs.Ranges.{key_count}
use Rattle.bw_delta.specs.Entries.{at}
use Rattle.bw_delta.specs.Pairs.{pairs, routes}
use Rattle.bw_delta.proofs.Stands.{RisesIn, pairs_rise, routes_rise}
use Rattle.bw_law.specs.Slots.{SlotValue, slot_in, routes_in}
use Rattle.bw_law.specs.Rows.{InRow}
use Rattle.bw_law.specs.Walks.{IsRowOf}
use Rattle.bw_law.specs.Tables.{TableValue, slot_at, id_of, outlines, slot_fences, Lawful, leaf_pairs, joined_pairs}
use Rattle.bw_law.specs.Laws.{joined_routes, IsTheMap, MapLaw, HasTermAt, TermLaw, AreTheLows}
use Rattle.bw_law.proofs.Shares.{leaf_pairs_in_row, pair_is_spanned}
use Rattle.bw_law.proofs.Chains.{pairs_are, routes_are, some_route, route_with_id}
use Rattle.bw_law.proofs.Facts.{route_is_term}
use Rattle.bw_law.proofs.Joined.{joined, EachRises, HasOne, joined_rise, joined_has}

abbrev shares : List SlotValue → ℕ → List (ℕ × ℕ)
shares slots page = leaf_pairs (slot_in slots page)

abbrev terms : List SlotValue → ℕ → List (ℕ × Pid)
terms slots page = routes_in (slot_in slots page)

-- the joins of the specification are joins over a row
joined_shares : (slots : List SlotValue) (row : List ℕ) → joined_pairs slots row ≡ joined (shares slots) row
joined_shares slots [] = refl
joined_shares slots (page ∷ row) = ap (λ es. leaf_pairs (slot_in slots page) ++ es) (joined_shares slots row)

joined_terms : (slots : List SlotValue) (row : List ℕ) → joined_routes slots row ≡ joined (terms slots) row
joined_terms slots [] = refl
joined_terms slots (page ∷ row) = ap (λ es. routes_in (slot_in slots page) ++ es) (joined_terms slots row)

module _ (table : TableValue) (law : Lawful table) where
  -- the pairs and the routes of a page in a row rise in its range
  pub leaf_pairs_rise : (page : ℕ) → InRow (outlines table.slots page) → (slot_at table page).level ≡ 0 → RisesIn (slot_fences (slot_at table page)) (leaf_pairs (slot_at table page))
  leaf_pairs_rise page in_row leaf =
      let own = law.pages page in_row in
      subst (RisesIn (slot_fences (slot_at table page))) (sym (leaf_pairs_in_row (slot_at table page) in_row leaf ∙ pairs_are (slot_at table page) own.0 own.1))
      (subst (λ fence. RisesIn fence (pairs own.0)) (sym own.1.fence) (pairs_rise own.0 own.1.sound.built))

  pub routes_in_rise : (page : ℕ) → InRow (outlines table.slots page) → RisesIn (slot_fences (slot_at table page)) (routes_in (slot_at table page))
  routes_in_rise page in_row =
      let own = law.pages page in_row in
      subst (RisesIn (slot_fences (slot_at table page))) (sym (routes_are (slot_at table page) own.0 own.1))
      (subst (λ fence. RisesIn fence (routes own.0)) (sym own.1.fence) (routes_rise own.0 own.1.sound.built))

  module _ (row : List ℕ) (is : IsRowOf (outlines table.slots) key_count 0 row) where
    each_share : EachRises (outlines table.slots) (shares table.slots) row
    each_share page among = let there = (is.members page).0 among in leaf_pairs_rise page there.0 there.1

    pub map_is_joined : IsTheMap table (joined_pairs table.slots row)
    map_is_joined = subst (IsTheMap table) (sym (joined_shares table.slots row)) (record {
      rise = (joined_rise (outlines table.slots) (shares table.slots) 0 key_count row is.partitions each_share).1;
      same = λ key value.
          let has = joined_has (outlines table.slots) (shares table.slots) 0 key_count row is.partitions each_share key value in (
            (λ found. let one = has.0 found in (one.page, one.found)),
            (λ maps.
                let there = pair_is_spanned table.slots maps.0 key value law.pages maps.1 in
                has.1 (record { page = maps.0; among = (is.members maps.0).1 (there.0, there.1); found = maps.1 })),
          );
    })

  module _ (level : ℕ) (under : level < (slot_at table table.root).level) (row : List ℕ) (is : IsRowOf (outlines table.slots) key_count (level + 1) row) where
    each_routes : EachRises (outlines table.slots) (terms table.slots) row
    each_routes page among = let there = (is.members page).0 among in routes_in_rise page there.0

    has : (key : ℕ) (child : Pid) → (at key (joined (terms table.slots) row) ≡ Some child) ↔ HasOne (terms table.slots) row key child
    has key child = joined_has (outlines table.slots) (terms table.slots) 0 key_count row is.partitions each_routes key child

    -- each joined route is a term
    to_term : (key page : ℕ) → option_map id_of (at key (joined (terms table.slots) row)) ≡ Some page → HasTermAt table level page key
    to_term key page found =
        let route = some_route (at key (joined (terms table.slots) row)) page found in
        let one = (has key route.0).0 route.1 in
        let there = (is.members one.page).0 one.among in
        let term = route_is_term table law one.page key route.0 there.0 one.found in
        subst (λ c. HasTermAt table level c key) route.2 (record { posted = term.0; on_level = omega (arith, term.1, there.1); begins = term.2 })

    -- and each term is routed by the page that spans its key
    from_term : (key page : ℕ) → key < key_count → HasTermAt table level page key → option_map id_of (at key (joined (terms table.slots) row)) ≡ Some page
    from_term key page below term =
        let over = law.rows.held (level + 1) key (omega arith) below in
        let routed = law.rows.termed over.0 page key over.1 over.3 (record { posted = term.posted; above = omega (arith, over.2, term.on_level); at_low = term.begins }) in
        let route = some_route (at key (terms table.slots over.0)) page routed in
        route_with_id (at key (joined (terms table.slots) row)) route.0 page
        ((has key route.0).1 (record { page = over.0; among = (is.members over.0).1 (over.1, over.2); found = route.1 }))
        route.2

    pub terms_are_joined : AreTheLows table level (joined_routes table.slots row)
    terms_are_joined = subst (AreTheLows table level) (sym (joined_terms table.slots row)) (record {
      rise = (joined_rise (outlines table.slots) (terms table.slots) 0 key_count row is.partitions each_routes).1;
      same = λ key page below. (to_term key page, from_term key page below);
    })

-- the pairs joined over the leaf row are the map
pub map_law : MapLaw
map_law table law row is = map_is_joined table law row is

-- the routes joined over a row are the terms of the level below
pub term_law : TermLaw
term_law table law level under row is = terms_are_joined table law level under row is
