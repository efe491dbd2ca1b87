-- The list that is a table's map, and what it is after a change.
use Rattle.std.proofs.Common.{◌≡◌, ◌≢◌, ◌⊎◌, ◌↔◌, ℕ, zero, suc, ◌+◌, ◌-◌, ◌<◌, ◌≤◌, ◌^◌, true, false, cond, eqb, List, [], ◌∷◌, length, map, Option, Some, None, refl, sym, ◌∙◌, ap, ap₂, subst, inl, inr, ⊎_elim, arith}
use Rattle.std.proofs.lemmas.Bool.{cases_eq, cases_lt, cases_Bool, and_parts, eqb-true}
use Rattle.std.proofs.lemmas.Bool.Decides.{nat_tests}
use Rattle.std.specs.List.{AllZip}
use Rattle.bw_keys.specs.declared.config.Config.{Config}
use Rattle.bw_keys.specs.Limits.{first_bad_field}
use Rattle.bw_keys.specs.Ranges.{key_count, end_of}
use Rattle.bw_delta.specs.Entries.{at, put, without, rises}
use Rattle.bw_chain.proofs.Overlays.{same_entries}
use Rattle.bw_delta.proofs.Rises.{rises-lower, rises-put, rises-without}
use Rattle.bw_step.specs.Stages.{is_in_row}
use Rattle.bw_law.specs.Laws.{IsTheMap}
use Rattle.bw_law.specs.Slots.{SlotValue, slot_in, pairs_in}
use Rattle.bw_law.specs.Tables.{TableValue, slot_at, Lawful, Maps, SameMap, IsValueAt, ChangesKey, is_leaf_in_row, leaf_pairs, new_table, ids_down}
use Rattle.bw_law.proofs.Facts.{range_is_among_keys}
use Rattle.bw_law.proofs.Lists.{option_cases, at-put, at-without}
use Rattle.bw_law.proofs.MapAndTerms.{leaf_pairs_rise}
use Rattle.bw_law.proofs.NewTable.{new_law}
use Rattle.bw_law.proofs.Shares.{pair_is_spanned}
use Rattle.bw_table.proofs.Orders.{one_map, same_option}
use Rattle.bw_alone.specs.Clearing.{IsMapWithout}
use Rattle.nifforan.specs.Maps.{PairList, put_all, pairs_of, outside}

-- Lists.

-- what stands at a key after pairs were put into a list
found_all : (key value : ℕ) (ps es : PairList) → at key (put_all ps es) ≡ Some value → (at key ps ≡ Some value) ⊎ (at key es ≡ Some value)
found_all key value [] es found = inr found
found_all key value (p ∷ ps) es found = let put = at-put p.0 key p.1 (put_all ps es) in ⊎_elim
    (λ (same : p.0 ≡ key). inl (grind (arith, nat_tests)))
    (λ (other : p.0 ≢ key).
    let rest : at key (put_all ps es) ≡ Some value = grind (arith, nat_tests) in
    ⊎_elim (λ (here : at key ps ≡ Some value). inl (grind (arith, nat_tests))) (λ (there : at key es ≡ Some value). inr there) (found_all key value ps es rest))
    (cases_eq p.0 key)

here_all : (key value : ℕ) (ps es : PairList) → at key ps ≡ Some value → at key (put_all ps es) ≡ Some value
here_all key value [] es found = cc
here_all key value (p ∷ ps) es found = grind (arith, nat_tests, at-put p.0 key p.1 (put_all ps es), here_all key value ps es)

there_all : (key value : ℕ) (ps es : PairList) → at key ps ≡ None → at key es ≡ Some value → at key (put_all ps es) ≡ Some value
there_all key value [] es none found = found
there_all key value (p ∷ ps) es none found = grind (arith, nat_tests, at-put p.0 key p.1 (put_all ps es), there_all key value ps es)

rise_all : (end low : ℕ) (ps es : PairList) → rises low end ps ≡ true → rises 0 end es ≡ true → rises 0 end (put_all ps es) ≡ true
rise_all end low [] es first then = then
rise_all end low (p ∷ ps) es first then =
    let rest : rises (p.0 + 1) end ps ≡ true = grind (arith, nat_tests) in
    let below : p.0 < end = grind (arith, nat_tests) in
    rises-put end 0 p.0 p.1 (put_all ps es) (omega arith) below (rise_all end (p.0 + 1) ps es rest then)

rises_further : (low end more : ℕ) (es : PairList) → end ≤ more → rises low end es ≡ true → rises low more es ≡ true
rises_further low end more [] le rise = refl
rises_further low end more (e ∷ es) le rise = grind (arith, nat_tests, rises_further (e.0 + 1) end more es)

rises_outside : (low end a b : ℕ) (es : PairList) → rises a b es ≡ true → rises a b (outside low end es) ≡ true
rises_outside low end a b [] rise = refl
rises_outside low end a b (e ∷ es) rise = grind (arith, nat_tests, rises_outside low end (e.0 + 1) b es, rises-lower b a (e.0 + 1) (outside low end es))

at_outside : (low end key : ℕ) (es : PairList) → (key < low) ⊎ (end ≤ key) → at key (outside low end es) ≡ at key es
at_outside low end key [] out = refl
at_outside low end key (e ∷ es) (inl less) = grind (arith, nat_tests, at_outside low end key es (inl less))
at_outside low end key (e ∷ es) (inr more) = grind (arith, nat_tests, at_outside low end key es (inr more))

at_inside : (low end key : ℕ) (es : PairList) → low ≤ key → key < end → at key (outside low end es) ≡ None
at_inside low end key [] from below = refl
at_inside low end key (e ∷ es) from below = grind (arith, nat_tests, at_inside low end key es from below)

-- Slots.

rises_of : (slots : List SlotValue) → ((page : ℕ) → rises 0 key_count (leaf_pairs (slot_in slots page)) ≡ true) → rises 0 key_count (pairs_of slots) ≡ true
rises_of [] each = refl
rises_of (slot ∷ slots) each = rise_all key_count 0 (leaf_pairs slot) (pairs_of slots) (each 0) (rises_of slots (λ page. each (suc page)))

found_of : (slots : List SlotValue) (key value : ℕ) → at key (pairs_of slots) ≡ Some value → Maps slots key value
found_of [] key value found = cc
found_of (slot ∷ slots) key value found = ⊎_elim
    (λ (here : at key (leaf_pairs slot) ≡ Some value). (0, here))
    (λ (there : at key (pairs_of slots) ≡ Some value). let more = found_of slots key value there in (suc more.0, more.1))
    (found_all key value (leaf_pairs slot) (pairs_of slots) found)

-- no key has different values in two slots
abbrev HasOneValue : List SlotValue → Type 0
HasOneValue slots = (p q key value other : ℕ) → at key (leaf_pairs (slot_in slots p)) ≡ Some value → at key (leaf_pairs (slot_in slots q)) ≡ Some other → other ≡ value

of_found : (slots : List SlotValue) → HasOneValue slots → (key value page : ℕ) → at key (leaf_pairs (slot_in slots page)) ≡ Some value → at key (pairs_of slots) ≡ Some value
of_found [] one key value page found = absurd (cc found)
of_found (slot ∷ slots) one key value zero found = here_all key value (leaf_pairs slot) (pairs_of slots) found
of_found (slot ∷ slots) one key value (suc page) found =
    let rest = of_found slots (λ p q k v w. one (suc p) (suc q) k v w) key value page found in ⊎_elim
    (λ (none : at key (leaf_pairs slot) ≡ None). there_all key value (leaf_pairs slot) (pairs_of slots) none rest)
    (λ (some : (other : ℕ) × (at key (leaf_pairs slot) ≡ Some other)).
    here_all key value (leaf_pairs slot) (pairs_of slots) (some.1 ∙ ap Some (one (suc page) 0 key value some.0 found some.1)))
    (option_cases (at key (leaf_pairs slot)))

-- Tables.

module _ (table : TableValue) (law : Lawful table) where
  share_rises : (page : ℕ) → rises 0 key_count (leaf_pairs (slot_at table page)) ≡ true
  share_rises page = ⊎_elim
      (λ (leaf : is_leaf_in_row (slot_at table page) ≡ true).
      let parts = and_parts (is_in_row (slot_at table page).stage) (eqb (slot_at table page).level 0) leaf in
      let rise = leaf_pairs_rise table law page parts.0 (eqb-true _ _ parts.1) in
      rises_further 0 (end_of (slot_at table page).high) key_count (leaf_pairs (slot_at table page)) (range_is_among_keys table law page parts.0)
      (rises-lower (end_of (slot_at table page).high) 0 (slot_at table page).low (leaf_pairs (slot_at table page)) (omega arith) rise))
      (λ (other : is_leaf_in_row (slot_at table page) ≡ false). ap (λ b. rises 0 key_count (cond b (pairs_in (slot_at table page)) [])) other)
      (cases_Bool (is_leaf_in_row (slot_at table page)))

  one_value : HasOneValue table.slots
  one_value p q key value other found also =
      let a = pair_is_spanned table.slots p key value law.pages found in
      let b = pair_is_spanned table.slots q key other law.pages also in
      let same = law.rows.apart p q key a.0 b.0 (a.1 ∙ sym b.1) a.2 b.2 in
      let there = subst (λ page. at key (leaf_pairs (slot_at table page)) ≡ Some value) same found in cc (there, also)

  -- the list is the map
  pub pairs_are : IsTheMap table (pairs_of table.slots)
  pairs_are = record {
    rise = rises_of table.slots share_rises;
    same = λ key value. (found_of table.slots key value, (λ maps. of_found table.slots one_value key value maps.0 maps.1));
  }

  -- and no other one is
  pub list_is : (pairs : PairList) → IsTheMap table pairs → pairs_of table.slots ≡ pairs
  list_is pairs is = one_map table (pairs_of table.slots) pairs pairs_are is

  pub value_is : (key : ℕ) (found : Option ℕ) → IsValueAt table.slots key found → found ≡ at key (pairs_of table.slots)
  value_is key found is = same_option found (at key (pairs_of table.slots))
      (λ value. ((λ some. (pairs_are.same key value).1 ((is value).0 some)), (λ there. (is value).1 ((pairs_are.same key value).0 there))))

  pub values_are : (keys : List ℕ) (found : List (Option ℕ)) → AllZip (IsValueAt table.slots) keys found → found ≡ map (λ key. at key (pairs_of table.slots)) keys
  values_are [] [] zip = refl
  values_are [] (value ∷ found) zip = absurd zip
  values_are (key ∷ keys) [] zip = absurd zip
  values_are (key ∷ keys) (value ∷ found) zip = ap₂ (λ first rest. first ∷ rest) (value_is key value zip.0) (values_are keys found zip.1)

-- a new table's free pages are all but one
free_ids : (n : ℕ) → length (ids_down n) ≡ n - 1
free_ids zero = refl
free_ids (suc zero) = refl
free_ids (suc (suc n)) = let rest : length (ids_down (suc n)) ≡ suc n - 1 = free_ids (suc n) in omega arith

pub new_is_free : (config : Config) → length (new_table config).free ≡ config.pages - 1
new_is_free config = free_ids config.pages

-- a new table has no pairs
pub new_is_empty : (config : Config) → first_bad_field config ≡ None → config.first_version < 2 ^ 64 → pairs_of (new_table config).slots ≡ []
new_is_empty config fine fits =
    let empty = new_law config fine fits in
    list_is (new_table config) empty.lawful [] (record { rise = refl; same = λ key value. ((λ there. absurd (cc there)), (λ maps. absurd (empty.no_pairs key value maps))) })

module _ (old new : TableValue) (old_law : Lawful old) (new_law : Lawful new) where
  abbrev pairs : PairList
  pairs = pairs_of old.slots

  pub same_pairs : SameMap old.slots new.slots → pairs_of new.slots ≡ pairs_of old.slots
  same_pairs same = list_is new new_law pairs (record {
    rise = (pairs_are old old_law).rise;
    same = λ key value. (
      (λ there. (same key value).1 (((pairs_are old old_law).same key value).0 there)),
      (λ maps. ((pairs_are old old_law).same key value).1 ((same key value).0 maps)),
    );
  })

  -- what has a value at each key, in the new map, is the new map
  by_values : (es : PairList) → rises 0 key_count es ≡ true → ((key : ℕ) → IsValueAt new.slots key (at key es)) → pairs_of new.slots ≡ es
  by_values es rise is = list_is new new_law es (record { rise = rise; same = λ key value. is key value })

  old_value : (key : ℕ) → IsValueAt old.slots key (at key pairs)
  old_value key value = (pairs_are old old_law).same key value

  module _ (key : ℕ) (before after : Option ℕ) (changes : ChangesKey old.slots new.slots key before after) where
    other_value : (k : ℕ) → k ≢ key → IsValueAt new.slots k (at k pairs)
    other_value k other value = (
      (λ there. (changes.others k value other).1 ((old_value k value).0 there)),
      (λ maps. (old_value k value).1 ((changes.others k value other).0 maps)),
    )

    pub had_value : before ≡ at key (pairs_of old.slots)
    had_value = value_is old old_law key before changes.had

    pub put_pairs : (value : ℕ) → key < key_count → after ≡ Some value → pairs_of new.slots ≡ put key value (pairs_of old.slots)
    put_pairs value is_key is = by_values (put key value pairs) (rises-put key_count 0 key value pairs (omega arith) is_key (pairs_are old old_law).rise) each
      where
        each : (k : ℕ) → IsValueAt new.slots k (at k (put key value pairs))
        each k = ⊎_elim
            (λ (same : k ≡ key).
            let here : at k (put key value pairs) ≡ after = grind (arith, nat_tests, at-put key k value pairs) in
            subst (IsValueAt new.slots k) (sym here) (subst (λ q. IsValueAt new.slots q after) (sym same) changes.has))
            (λ (other : k ≢ key).
            let there : at k (put key value pairs) ≡ at k pairs = grind (arith, nat_tests, at-put key k value pairs) in
            subst (IsValueAt new.slots k) (sym there) (other_value k other))
            (cases_eq k key)

    pub without_pairs : after ≡ None → pairs_of new.slots ≡ without key (pairs_of old.slots)
    without_pairs is = by_values (without key pairs) (rises-without key_count 0 key pairs (pairs_are old old_law).rise) each
      where
        each : (k : ℕ) → IsValueAt new.slots k (at k (without key pairs))
        each k = ⊎_elim
            (λ (same : k ≡ key).
            let here : at k (without key pairs) ≡ after = grind (arith, nat_tests, at-without key k pairs) in
            subst (IsValueAt new.slots k) (sym here) (subst (λ q. IsValueAt new.slots q after) (sym same) changes.has))
            (λ (other : k ≢ key).
            let there : at k (without key pairs) ≡ at k pairs = grind (arith, nat_tests, at-without key k pairs) in
            subst (IsValueAt new.slots k) (sym there) (other_value k other))
            (cases_eq k key)

    -- a key that keeps its value
    pub kept_pairs : before ≡ after → pairs_of new.slots ≡ pairs_of old.slots
    kept_pairs is = by_values pairs (pairs_are old old_law).rise each
      where
        each : (k : ℕ) → IsValueAt new.slots k (at k pairs)
        each k = ⊎_elim
            (λ (same : k ≡ key).
            let here : at k pairs ≡ after = ap (λ q. at q pairs) same ∙ (sym had_value ∙ is) in
            subst (IsValueAt new.slots k) (sym here) (subst (λ q. IsValueAt new.slots q after) (sym same) changes.has))
            (λ (other : k ≢ key). other_value k other)
            (cases_eq k key)

  -- the map without the keys of a range
  pub cleared_pairs : (low high : ℕ) → IsMapWithout low high old.slots new.slots → pairs_of new.slots ≡ outside low high (pairs_of old.slots)
  cleared_pairs low high is = by_values (outside low high pairs) (rises_outside low high 0 key_count pairs (pairs_are old old_law).rise) each
    where
      out : (k value : ℕ) → (k < low) ⊎ (high ≤ k) → (at k (outside low high pairs) ≡ Some value) ↔ Maps new.slots k value
      out k value off =
          let same = at_outside low high k pairs off in (
            (λ there. (is k value).1 ((old_value k value).0 (sym same ∙ there), off)),
            (λ maps. same ∙ (old_value k value).1 ((is k value).0 maps).0),
          )

      inside : (k value : ℕ) → low ≤ k → k < high → (at k (outside low high pairs) ≡ Some value) ↔ Maps new.slots k value
      inside k value from below =
          let none = at_inside low high k pairs from below in (
            (λ there. absurd (cc (none, there))),
            (λ maps. ⊎_elim
                (λ (less : k < low). absurd (omega (arith, less, from)))
                (λ (more : high ≤ k). absurd (omega (arith, more, below)))
                ((is k value).0 maps).1),
          )

      each : (k : ℕ) → IsValueAt new.slots k (at k (outside low high pairs))
      each k value = ⊎_elim
          (λ (less : k < low). out k value (inl less))
          (λ (from : low ≤ k). ⊎_elim (λ (below : k < high). inside k value from below) (λ (past : high ≤ k). out k value (inr past)) (cases_lt k high))
          (cases_lt k low)

-- lists that have the same at each key out of a range
pub same_outside : (low high : ℕ) (xs ys : PairList) → rises 0 key_count xs ≡ true → rises 0 key_count ys ≡ true → ((key : ℕ) → (key < low) ⊎ (high ≤ key) → at key xs ≡ at key ys) → outside low high xs ≡ outside low high ys
same_outside low high xs ys first second same =
    same_entries 0 key_count (outside low high xs) (outside low high ys) (rises_outside low high 0 key_count xs first) (rises_outside low high 0 key_count ys second) each
  where
    out : (key : ℕ) → (key < low) ⊎ (high ≤ key) → at key (outside low high xs) ≡ at key (outside low high ys)
    out key off = at_outside low high key xs off ∙ (same key off ∙ sym (at_outside low high key ys off))

    each : (key : ℕ) → at key (outside low high xs) ≡ at key (outside low high ys)
    each key = ⊎_elim
        (λ (less : key < low). out key (inl less))
        (λ (from : low ≤ key). ⊎_elim
        (λ (below : key < high). at_inside low high key xs from below ∙ sym (at_inside low high key ys from below))
        (λ (past : high ≤ key). out key (inr past))
        (cases_lt key high))
        (cases_lt key low)
