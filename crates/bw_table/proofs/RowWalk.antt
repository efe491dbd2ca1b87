-- The leaf row, read from its first leaf on by right links.
use Rattle.std.proofs.Common.{◌≡◌, ℕ, zero, suc, ◌+◌, ◌-◌, ◌<◌, true, List, [], ◌∷◌, ◌++◌, Option, Some, None, refl, sym, ◌∙◌, ap, subst, append_assoc, append-nil, arith}
use Rattle.std.specs.Prelude.{option_map, IfSome, IfNone}
use Rattle.bw_keys.specs.declared.page.Pid.{Pid}
use Rattle.bw_keys.specs.Ranges.{key_count}
use Rattle.bw_delta.specs.Entries.{at}
use Rattle.bw_step.specs.Stages.{is_in_row}
use Rattle.bw_law.specs.Slots.{SlotValue, slot_in, pairs_in, routes_in}
use Rattle.bw_law.specs.Walks.{Linked, IsRowOf}
use Rattle.bw_law.specs.Tables.{TableValue, slot_at, id_of, outlines, Lawful, leaf_pairs, joined_pairs}
use Rattle.bw_law.proofs.Facts.{range_is_not_empty, range_is_among_keys, right_is_next, route_is_term, first_child}
use Rattle.bw_law.proofs.RowList.{row_of, row_goes_on, row_ends}
use Rattle.bw_law.proofs.Shares.{leaf_pairs_in_row}
use Rattle.bw_table.specs.LeafRows.{IsRowStart}

-- the leaf row from a page on
pub record IsRestFrom (slots : List SlotValue) (page : ℕ) (rest : List ℕ) : Type 0 where
  pub in_row : is_in_row (slot_in slots page).stage ≡ true
  pub is_leaf : (slot_in slots page).level ≡ 0
  pub tail : List ℕ
  pub is : rest ≡ page ∷ tail
  pub linked : Linked (outlines slots) (page ∷ tail)

-- no page is left where none is next
abbrev pub IsRestOf : List SlotValue → Option Pid → List ℕ → Type 0
IsRestOf slots None rest = rest ≡ []
IsRestOf slots (Some page) rest = IsRestFrom slots page.0 rest

-- what is listed is what there is of the pages before the next one
pub record IsListedBefore {X : Type 0} (table : TableValue) (of : List ℕ → List X) (next : Option Pid) (listed : List X) : Type 0 where
  pub lawful : Lawful table
  pub before : List ℕ
  pub rest : List ℕ
  pub is_row : IsRowOf (outlines table.slots) key_count 0 (before ++ rest)
  pub onward : IsRestOf table.slots next rest
  pub listed_is : listed ≡ of before

-- how many keys there are from the next page on
abbrev pub keys_left : List SlotValue → Option Pid → ℕ
keys_left slots None = 0
keys_left slots (Some page) = key_count - (slot_in slots page.0).low

-- the page one level down that begins at the least key too, or none below a leaf
pub record LeadsDown (table : TableValue) (page : ℕ) (child : Option Pid) : Type 0 where
  pub first : IfSome child (λ child. IsRowStart table child.0)
  pub down : IfSome child (λ child. (slot_at table page).level ≡ (slot_at table child.0).level + 1)
  pub leaf : IfNone child ((slot_at table page).level ≡ 0)

module _ (table : TableValue) (law : Lawful table) where
  -- the child at the least key of a page that begins there begins there too
  pub start_of_child : (page : ℕ) (child : Pid) → IsRowStart table page → at 0 (routes_in (slot_at table page)) ≡ Some child
      → IsRowStart table child.0 × ((slot_at table page).level ≡ (slot_at table child.0).level + 1)
  start_of_child page child start found =
      let term = route_is_term table law page 0 child start.in_row found in
      let first = first_child table law page (slot_at table child.0).level start.in_row term.1 in
      let same : first.0 ≡ child = cc (ap (λ key. at key (routes_in (slot_at table page))) start.at_least_key, first.1, found) in
      (record { in_row = subst (λ (p : Pid). is_in_row (slot_at table p.0).stage ≡ true) same first.2; at_least_key = term.2 }, term.1)

  pub leaf_has_no_child : (page : ℕ) → IsRowStart table page → at 0 (routes_in (slot_at table page)) ≡ None → (slot_at table page).level ≡ 0
  leaf_has_no_child page start none = by_level (slot_at table page).level refl
    where
      by_level : (level : ℕ) → (slot_at table page).level ≡ level → (slot_at table page).level ≡ 0
      by_level zero leaf = leaf
      by_level (suc level) inner =
          let first = first_child table law page level start.in_row (omega arith) in
          absurd (cc (ap (λ key. at key (routes_in (slot_at table page))) start.at_least_key, first.1, none))

  -- what the route at the least key says of a page that begins there
  pub down_from_start : (page : ℕ) (child : Option Pid) → IsRowStart table page → child ≡ at 0 (routes_in (slot_at table page)) → LeadsDown table page child
  down_from_start page None start is = record { first = tt; down = tt; leaf = leaf_has_no_child page start (sym is) }
  down_from_start page (Some child) start is = let below = start_of_child page child start (sym is) in record { first = below.0; down = below.1; leaf = tt }

  -- each right link leads on along the keys
  pub fewer_keys_left : (next right : Option Pid) (page : Pid) → is_in_row (slot_at table page.0).stage ≡ true → next ≡ Some page → right ≡ (slot_at table page.0).right → keys_left table.slots right < keys_left table.slots next
  fewer_keys_left next right page here at_page right_is = rw (at_page, right_is) (by_right (slot_at table page.0).right refl)
    where
      by_right : (right : Option Pid) → (slot_at table page.0).right ≡ right → keys_left table.slots right < keys_left table.slots (Some page)
      by_right None none = omega (arith, range_is_not_empty table law page.0 here, range_is_among_keys table law page.0 here)
      by_right (Some next) is =
          let there = right_is_next table law page.0 next here is in
          omega (arith, there.2, range_is_not_empty table law page.0 here, range_is_not_empty table law next.0 there.0, range_is_among_keys table law next.0 there.0)

  -- what comes after a page of the leaf row
  pub rest_after : (page : Pid) (rest : List ℕ) (from : IsRestFrom table.slots page.0 rest) → IsRestOf table.slots (slot_at table page.0).right from.tail
  rest_after page rest from = by_right (slot_at table page.0).right refl
    where
      by_right : (right : Option Pid) → (slot_at table page.0).right ≡ right → IsRestOf table.slots right from.tail
      by_right None none = row_ends (outlines table.slots) page.0 from.tail from.linked (ap (option_map id_of) none)
      by_right (Some next) is =
          let there = right_is_next table law page.0 next from.in_row is in
          let onward = row_goes_on (outlines table.slots) page.0 next.0 from.tail from.linked (ap (option_map id_of) is) in
          record { in_row = there.0; is_leaf = there.1 ∙ from.is_leaf; tail = onward.0; is = onward.1; linked = onward.2 }

  module _ {X : Type 0} (of : List ℕ → List X) where
    -- at the first leaf nothing is listed
    pub listing_begins : (first : Pid) (listed : List X) → IsRowStart table first.0 → (slot_at table first.0).level ≡ 0 → listed ≡ of [] → IsListedBefore table of (Some first) listed
    listing_begins first listed start leaf none = let found = row_of key_count (outlines table.slots) table.root law.rows 0 (omega arith) in from_row found.0 found.1
      where
        from_row : (row : List ℕ) → IsRowOf (outlines table.slots) key_count 0 row → IsListedBefore table of (Some first) listed
        from_row [] is = absurd is.is_row
        from_row (page ∷ tail) is =
            let (page_in, page_leaf, page_low, linked) = is.is_row in
            let page_spans = law.rows.some_key page page_in in
            let first_spans = law.rows.some_key first.0 start.in_row in
            let same : page ≡ first.0 = law.rows.apart page first.0 0 page_in start.in_row (page_leaf ∙ sym leaf) (omega (arith, page_low), omega (arith, page_low, page_spans)) (omega (arith, start.at_least_key), omega (arith, start.at_least_key, first_spans)) in
            record {
              lawful = law;
              before = [];
              rest = page ∷ tail;
              is_row = is;
              onward = record { in_row = start.in_row; is_leaf = leaf; tail = tail; is = ap (λ p. p ∷ tail) same; linked = subst (λ p. Linked (outlines table.slots) (p ∷ tail)) same linked };
              listed_is = none;
            }

    -- the next page is a leaf in its row
    pub at_next : (next : Option Pid) (page : Pid) (listed : List X) (so_far : IsListedBefore table of next listed) → next ≡ Some page → IsRestFrom table.slots page.0 so_far.rest
    at_next next page listed so_far here = subst (λ (n : Option Pid). IsRestOf table.slots n so_far.rest) here so_far.onward

    -- one leaf more is listed
    pub listing_goes_on : ((xs ys : List ℕ) → of (xs ++ ys) ≡ of xs ++ of ys) → (next right : Option Pid) (page : Pid) (listed more : List X)
        → IsListedBefore table of next listed → next ≡ Some page → right ≡ (slot_at table page.0).right → more ≡ listed ++ of (page.0 ∷ []) → IsListedBefore table of right more
    listing_goes_on joins next right page listed more so_far here right_is more_is =
        let from = at_next next page listed so_far here in
        subst (λ (to : Option Pid). IsListedBefore table of to more) (sym right_is) (record {
          lawful = law;
          before = so_far.before ++ page.0 ∷ [];
          rest = from.tail;
          is_row = subst (IsRowOf (outlines table.slots) key_count 0) (ap (λ rest. so_far.before ++ rest) from.is ∙ sym (append_assoc so_far.before (page.0 ∷ []) from.tail)) so_far.is_row;
          onward = rest_after page so_far.rest from;
          listed_is = more_is ∙ ap (λ xs. xs ++ of (page.0 ∷ [])) so_far.listed_is ∙ sym (joins so_far.before (page.0 ∷ []));
        })

    -- where no page is next, the pages before are the row
    pub whole_is_listed : (next : Option Pid) (listed : List X) (so_far : IsListedBefore table of next listed) → next ≡ None → IsRowOf (outlines table.slots) key_count 0 so_far.before
    whole_is_listed next listed so_far none =
        let over : so_far.rest ≡ [] = subst (λ (n : Option Pid). IsRestOf table.slots n so_far.rest) none so_far.onward in
        subst (IsRowOf (outlines table.slots) key_count 0) (ap (λ rest. so_far.before ++ rest) over ∙ append-nil so_far.before) so_far.is_row

-- a leaf in its row has its pairs
pub joined_pairs-one : (slots : List SlotValue) (page : ℕ) → is_in_row (slot_in slots page).stage ≡ true → (slot_in slots page).level ≡ 0 → joined_pairs slots (page ∷ []) ≡ pairs_in (slot_in slots page)
joined_pairs-one slots page here leaf = append-nil (leaf_pairs (slot_in slots page)) ∙ leaf_pairs_in_row (slot_in slots page) here leaf

-- the pairs of two parts of a row
pub joined_pairs-append : (slots : List SlotValue) (xs ys : List ℕ) → joined_pairs slots (xs ++ ys) ≡ joined_pairs slots xs ++ joined_pairs slots ys
joined_pairs-append slots [] ys = refl
joined_pairs-append slots (x ∷ xs) ys = ap (λ rest. leaf_pairs (slot_in slots x) ++ rest) (joined_pairs-append slots xs ys) ∙ sym (append_assoc (leaf_pairs (slot_in slots x)) (joined_pairs slots xs) (joined_pairs slots ys))
