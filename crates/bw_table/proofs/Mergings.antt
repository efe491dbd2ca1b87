-- A page that is merged into its left neighbour in one call is marked, taken in, and loses its term, step by step.
use Rattle.std.proofs.Common.{◌≡◌, ◌≢◌, ℕ, suc, ◌+◌, ◌-◌, ◌<◌, ◌≤◌, ◌^◌, true, false, eqb, List, length, get_or, set, refl, ap, sym, subst, ◌∙◌, arith}
use Rattle.std.specs.Prelude.{Option, Some, None, is_some, unwrap_or}
use Rattle.std.proofs.lemmas.Bool.{eq-eqb}
use Rattle.std.proofs.lemmas.Bool.Decides.{nat_tests}
use Rattle.std.proofs.lemmas.List.{set-set, set-get_or, get_or_default, length-set}
use Rattle.bw_keys.specs.declared.page.Pid.{Pid}
use Rattle.bw_keys.specs.Ranges.{end_of, is_within, key_count}
use Rattle.bw_keys.specs.Reasons.{first_reason}
use Rattle.bw_delta.specs.declared.chain.Delta.TheVariants as deltas
use Rattle.bw_keys.specs.declared.range.Fence.{Fence}
use Rattle.bw_keys.specs.declared.range.Fence.TheVariants.{Key, Top}
use Rattle.bw_delta.specs.declared.chain.Merging.{Merging}
use Rattle.bw_delta.specs.declared.fences.Fences.{Fences}
use Rattle.bw_delta.specs.Fence.{fences, is_leaf}
use Rattle.bw_delta.specs.Pages.{Page, lists_pairs}
use Rattle.bw_delta.specs.Records.{Records, bare, above, merged, depth}
use Rattle.bw_delta.specs.Sound.{page_for}
use Rattle.bw_chain.specs.InPlaces.{joined_chain}
use Rattle.bw_step.specs.declared.view.Stage.TheVariants.{Posted, Marked, Merged}
use Rattle.bw_step.specs.Proposals.{consolidate, mark, merge, term_delete}
use Rattle.bw_step.specs.Stages.{is_in_row}
use Rattle.bw_law.specs.Effects.{consolidated, freed, joined, marked, merging_of, pid, slots_unposted, taken_in, with_record}
use Rattle.bw_law.specs.Refusals.{is_other_kind, refusal, mark_reasons, merge_reasons, term_delete_reasons, consolidate_reasons}
use Rattle.bw_law.specs.Runs.{TakesInTurn}
use Rattle.bw_law.specs.Slots.{SlotValue, slot_in, chain_in, empty_page, free_slot}
use Rattle.bw_law.specs.Tables.{TableValue, slot_at, slot_fences, IsPageOf}
use Rattle.bw_law.proofs.Facts.{free_list_has_room, here_is_inside, range_is_among_keys, range_is_not_empty, right_is_next}
use Rattle.bw_law.proofs.Slots.{slot_written, slot_kept}
use Rattle.bw_table.specs.InPlaces.{IsMergedUnder, MayMergeUnder, MergesIn, merging_steps, slot_with, slots_merged_at_once}
use Rattle.bw_table.specs.Whole.{IsWhole}
use Rattle.bw_table.proofs.InPlaces.{consolidate_is_accepted, kind_fits, lists_as_the_chain, not_last, whole_in_turn}
use Rattle.bw_table.proofs.Writes.{set-swap}

-- nothing speaks against the first step
mark_is_accepted : (slot over : SlotValue) → slot.stage ≡ Posted → over.stage ≡ Posted → slot.depth ≡ 0 → over.level ≡ slot.level + 1 → is_within over.low over.high slot.low ≡ true → over.low < slot.low → slot.version + 1 < 2 ^ 64
    → first_reason (mark_reasons slot over slot.version) ≡ None
mark_is_accepted slot over posted over_posted bare_page over_level within later fits =
    let other : eqb slot.low over.low ≡ false = grind (arith, nat_tests) in
    rw (posted, over_posted, eq-eqb slot.version slot.version refl, over_level, eq-eqb (slot.level + 1) (slot.level + 1) refl, within, other, bare_page, not_last slot.version fits) refl

-- nor against the second
merge_is_accepted : (into slot : SlotValue) (page : ℕ) → into.stage ≡ Posted → slot.stage ≡ Marked → into.level ≡ slot.level → into.right ≡ Some (pid page) → into.depth ≡ 0 → slot.depth ≡ 1 → into.version + 1 < 2 ^ 64 → slot.version + 1 < 2 ^ 64
    → first_reason (merge_reasons into slot into.version slot.version page) ≡ None
merge_is_accepted into slot page into_posted is_marked same_level link into_bare one fits slot_fits =
    rw (
      into_posted,
      is_marked,
      eq-eqb into.version into.version refl,
      eq-eqb slot.version slot.version refl,
      same_level,
      eq-eqb slot.level slot.level refl,
      link,
      eq-eqb page page refl,
      into_bare,
      one,
      not_last into.version fits,
      not_last slot.version slot_fits,
    ) refl

-- nor against the fourth
term_delete_is_accepted : (over under : SlotValue) → over.stage ≡ Posted → under.stage ≡ Merged → over.level ≡ under.level + 1 → is_within over.low over.high under.low ≡ true → over.depth ≡ 0 → over.version + 1 < 2 ^ 64 → under.version + 1 < 2 ^ 64
    → first_reason (term_delete_reasons over under over.version under.version) ≡ None
term_delete_is_accepted over under over_posted is_merged over_level within bare_page fits under_fits =
    rw (
      over_posted,
      is_merged,
      eq-eqb over.version over.version refl,
      eq-eqb under.version under.version refl,
      over_level,
      eq-eqb (under.level + 1) (under.level + 1) refl,
      within,
      bare_page,
      not_last over.version fits,
      not_last under.version under_fits,
    ) refl

-- a slot that is written again
set_around : (slots : List SlotValue) (i j : ℕ) (x y z : SlotValue) → j ≢ i → set (set (set slots i x) j y) i z ≡ set (set slots i z) j y
set_around slots i j x y z apart = set-swap (set slots i x) i j z y apart ∙ ap (λ (s : List SlotValue). set s j y) (set-set slots i x z)

-- a slot that was taken out is put back, where no other has changed
pub put_back : (slots : List SlotValue) (left page : ℕ) (free taken into d e : SlotValue) → page < length slots → left < length slots → taken ≡ get_or slots page d → into ≡ get_or (set slots page free) left e
    → set (set (set slots page free) left into) page taken ≡ slots
put_back slots left page free taken into d e inside left_inside taken_is into_is =
    ap (λ (x : SlotValue). set (set (set slots page free) left x) page taken) (into_is ∙ get_or_default (set slots page free) left e (free_slot 0) (omega (arith, left_inside, length-set slots page free)))
    ∙ ap (λ (s : List SlotValue). set s page taken) (set-get_or (set slots page free) left (free_slot 0))
    ∙ set-set slots page free taken
    ∙ ap (λ (x : SlotValue). set slots page x) (taken_is ∙ get_or_default slots page d (free_slot 0) inside)
    ∙ set-get_or slots page (free_slot 0)

module _ {table : TableValue} {room : ℕ} (whole : IsWhole table room) (parent left page : ℕ) (may : MayMergeUnder table parent left page) where
  here : is_in_row (slot_at table page).stage ≡ true
  here = ap is_in_row may.bare.posted

  left_here : is_in_row (slot_at table left).stage ≡ true
  left_here = ap is_in_row may.left_bare.posted

  over_here : is_in_row (slot_at table parent).stage ≡ true
  over_here = ap is_in_row may.over_bare.posted

  pub page_is_inside : page < length table.slots
  page_is_inside = here_is_inside table whole.lawful page here

  pub left_is_inside : left < length table.slots
  left_is_inside = here_is_inside table whole.lawful left left_here

  pub over_is_inside : parent < length table.slots
  over_is_inside = here_is_inside table whole.lawful parent over_here

  next : is_in_row (slot_at table page).stage ≡ true × ((slot_at table page).level ≡ (slot_at table left).level) × ((slot_at table page).low ≡ end_of (slot_at table left).high)
  next = right_is_next table whole.lawful left (pid page) left_here may.left.link

  same_level : (slot_at table left).level ≡ (slot_at table page).level
  same_level = sym next.1

  pub left_is_apart : left ≢ page
  left_is_apart same =
      let Begins : ℕ → Type 0 = λ x. (slot_at table x).low ≡ end_of (slot_at table left).high in
      let own = subst Begins (sym same) next.2 in
      omega (arith, own, range_is_not_empty table whole.lawful left left_here)

  pub over_is_apart : parent ≢ page
  over_is_apart same = omega (arith, ap (λ (x : ℕ). (slot_at table x).level) same, may.under.above)

  pub over_is_not_left : parent ≢ left
  over_is_not_left same = omega (arith, ap (λ (x : ℕ). (slot_at table x).level) same, may.under.above, same_level)

  chain_of : (x : ℕ) → is_in_row (slot_at table x).stage ≡ true → (chain : Records) × IsPageOf (slot_at table x) chain
  chain_of x in_row = whole.lawful.pages x in_row

  chain_is : (x : ℕ) (in_row : is_in_row (slot_at table x).stage ≡ true) → chain_in (slot_at table x) ≡ (chain_of x in_row).0
  chain_is x in_row = ap (λ (c : Option Records). unwrap_or c (bare empty_page)) (chain_of x in_row).1.its_chain

  own_kind : (x : ℕ) → is_in_row (slot_at table x).stage ≡ true → is_leaf (chain_in (slot_at table x)) ≡ eqb (slot_at table x).level 0
  own_kind x in_row = ap is_leaf (chain_is x in_row) ∙ (chain_of x in_row).1.kind

  -- there is a slot less than there are for free ids
  pub free_has_room : length table.free + 1 ≤ length table.slots
  free_has_room = free_list_has_room table.slots table.free page whole.lawful.free_list page_is_inside (λ among. cc (may.bare.posted, (whole.lawful.free_list.are_free page among).1))

  has_chain : (x : ℕ) → is_in_row (slot_at table x).stage ≡ true → is_some (slot_at table x).chain ≡ true
  has_chain x in_row = ap is_some (chain_of x in_row).1.its_chain

  own_fence : (x : ℕ) (in_row : is_in_row (slot_at table x).stage ≡ true) → slot_fences (slot_at table x) ≡ fences (chain_in (slot_at table x))
  own_fence x in_row = (chain_of x in_row).1.fence ∙ ap fences (sym (chain_is x in_row))

  meets_at : end_of (slot_at table left).high ≡ (slot_at table page).low → (slot_at table left).high ≡ Key (slot_at table page).low
  meets_at = by_fence (slot_at table left).high
    where
      fits : (slot_at table page).low < key_count
      fits = omega (arith, range_is_not_empty table whole.lawful page here, range_is_among_keys table whole.lawful page here)

      by_fence : (f : Fence) → end_of f ≡ (slot_at table page).low → f ≡ Key (slot_at table page).low
      by_fence (Key key) is = ap Key is
      by_fence Top is = absurd (omega (arith, is, fits))

  pub merges_in : MergesIn table.slots parent left page
  merges_in = record {
    parent_exists = over_is_inside;
    left_exists = left_is_inside;
    exists = page_is_inside;
    parent_apart = over_is_apart;
    left_apart = left_is_apart;
    parent_other = over_is_not_left;
    version = may.version;
    meets = record {
      version = may.left_version;
      count = may.left.count;
      meets = ap (λ (f : Fences). f.high) (sym (own_fence left left_here)) ∙ meets_at (sym next.2) ∙ ap (λ (f : Fences). Key f.low) (own_fence page here);
    };
    loses = record {
      version = may.over_version;
      chain = has_chain parent over_here;
      no_records = (omega (arith, may.over_bare.no_records, (chain_of parent over_here).1.depth, ap depth (chain_is parent over_here)));
    };
  }

  -- the slots on the way
  abbrev gone : SlotValue
  gone = marked (slot_at table page)

  abbrev together : SlotValue
  together = joined (slot_at table left) gone

  abbrev base : Page
  base = page_for (chain_in together)

  abbrev emptied : SlotValue
  emptied = taken_in gone

  abbrev lessened : SlotValue
  lessened = with_record (deltas.TermDelete (slot_at table page).low) ((slot_at table parent).count - 1) (slot_at table parent)

  abbrev over : Page
  over = page_for (chain_in lessened)

  abbrev freed_slot : SlotValue
  freed_slot = free_slot (suc emptied.version)

  -- the tables on the way
  abbrev with_slots : List SlotValue → TableValue
  with_slots slots = record table { slots = slots }

  abbrev first : List SlotValue
  first = set table.slots page gone

  abbrev second : List SlotValue
  second = set (set table.slots left together) page emptied

  abbrev third : List SlotValue
  third = set (set table.slots left (consolidated base together)) page emptied

  abbrev freed_ids : List ℕ
  freed_ids = freed table.free page (suc emptied.version)

  abbrev with_both : List SlotValue → TableValue
  with_both slots = record table { slots = slots; free = freed_ids }

  abbrev fourth : List SlotValue
  fourth = set (set (set table.slots left (consolidated base together)) parent lessened) page freed_slot

  abbrev fifth : List SlotValue
  fifth = set (set (set table.slots left (consolidated base together)) parent (consolidated over lessened)) page freed_slot

  page_other : page ≢ left
  page_other same = left_is_apart (sym same)

  first_page : slot_in first page ≡ gone
  first_page = slot_written table.slots page gone page_is_inside

  first_left : slot_in first left ≡ slot_at table left
  first_left = slot_kept table.slots page gone left left_is_apart

  left_inside : (x : SlotValue) → slot_in (set table.slots left x) left ≡ x
  left_inside x = slot_written table.slots left x left_is_inside

  second_left : slot_in second left ≡ together
  second_left = slot_kept (set table.slots left together) page emptied left left_is_apart ∙ left_inside together

  page_stays_inside : (x : SlotValue) → page < length (set table.slots left x)
  page_stays_inside x = omega (arith, page_is_inside, length-set table.slots left x)

  third_page : slot_in third page ≡ emptied
  third_page = slot_written (set table.slots left (consolidated base together)) page emptied (page_stays_inside (consolidated base together))

  third_over : slot_in third parent ≡ slot_at table parent
  third_over = slot_kept (set table.slots left (consolidated base together)) page emptied parent over_is_apart ∙ slot_kept table.slots left (consolidated base together) parent over_is_not_left

  fourth_over : slot_in fourth parent ≡ lessened
  fourth_over =
      slot_kept (set (set table.slots left (consolidated base together)) parent lessened) page freed_slot parent over_is_apart
      ∙ slot_written (set table.slots left (consolidated base together)) parent lessened (omega (arith, over_is_inside, length-set table.slots left (consolidated base together)))

  -- each step leads to the next of them
  to_second : second ≡ set (set first left (joined (slot_in first left) (slot_in first page))) page (taken_in (slot_in first page))
  to_second =
      sym (
      ap (λ (s : SlotValue). set (set first left (joined (slot_in first left) s)) page (taken_in s)) first_page
      ∙ ap (λ (s : SlotValue). set (set first left (joined s gone)) page emptied) first_left
      ∙ set_around table.slots page left gone together emptied left_is_apart
      ∙ set-swap table.slots left page together emptied page_other
      )

  to_third : third ≡ set second left (consolidated base (slot_in second left))
  to_third = sym (rw second_left (set_around table.slots left page together emptied (consolidated base together) page_other))

  to_fourth : fourth ≡ set (set third parent (with_record (deltas.TermDelete (slot_in third page).low) ((slot_in third parent).count - 1) (slot_in third parent))) page (free_slot (suc (slot_in third page).version))
  to_fourth =
      let left_is : List SlotValue = set table.slots left (consolidated base together) in
      sym (rw (third_over, third_page) (
      ap (λ (s : List SlotValue). set s page freed_slot) (set-swap left_is parent page lessened emptied (λ same. over_is_apart (sym same)))
      ∙ set-set (set left_is parent lessened) page emptied freed_slot
      ))

  to_fifth : fifth ≡ set fourth parent (consolidated over (slot_in fourth parent))
  to_fifth = sym (rw fourth_over (set_around (set table.slots left (consolidated base together)) parent page lessened freed_slot (consolidated over lessened) (λ same. over_is_apart (sym same))))

  -- no step is refused
  first_accepted : refusal table (mark page (slot_at table page).version parent) ≡ None
  first_accepted =
      mark_is_accepted (slot_at table page) (slot_at table parent) may.bare.posted may.over_bare.posted may.bare.no_records may.under.above may.under.within may.under.after_low (omega (arith, may.version))

  second_accepted : refusal (with_slots first) (merge left (slot_at table left).version page (suc (slot_at table page).version)) ≡ None
  second_accepted =
      let Accepts : SlotValue → SlotValue → Type 0 = λ into slot. first_reason (merge_reasons into slot (slot_at table left).version (suc (slot_at table page).version) page) ≡ None in
      let accepts : Accepts (slot_at table left) gone =
      merge_is_accepted (slot_at table left) gone page may.left_bare.posted refl same_level may.left.link may.left_bare.no_records (ap suc may.bare.no_records) (omega (arith, may.left_version)) (omega (arith, may.version))
      in
      subst (λ (s : SlotValue). Accepts s (slot_in first page)) (sym first_left) (subst (λ (s : SlotValue). Accepts (slot_at table left) s) (sym first_page) accepts)

  together_chain : chain_in together ≡ merged (merging_of gone) (chain_in (slot_at table left)) (above deltas.Remove (chain_in (slot_at table page)))
  together_chain = rw ((chain_of left left_here).1.its_chain, (chain_of page here).1.its_chain) refl

  together_kind : is_other_kind base together ≡ false
  together_kind = kind_fits (lists_pairs base.listed) (slot_at table left).level (lists_as_the_chain (chain_in together) ∙ ap is_leaf together_chain ∙ own_kind left left_here)

  third_accepted : refusal (with_slots second) (consolidate left (suc (slot_at table left).version) base) ≡ None
  third_accepted =
      let Accepts : SlotValue → Type 0 = λ slot. first_reason (consolidate_reasons slot (suc (slot_at table left).version) base) ≡ None in
      subst Accepts (sym second_left) (consolidate_is_accepted together base may.left_bare.posted together_kind (omega (arith, may.left_version)) refl)

  fourth_accepted : refusal (with_slots third) (term_delete parent (slot_at table parent).version page (suc (suc (slot_at table page).version))) ≡ None
  fourth_accepted =
      let Accepts : SlotValue → SlotValue → Type 0 = λ own under. first_reason (term_delete_reasons own under (slot_at table parent).version (suc (suc (slot_at table page).version))) ≡ None in
      let accepts : Accepts (slot_at table parent) emptied =
      term_delete_is_accepted (slot_at table parent) emptied may.over_bare.posted refl may.under.above may.under.within may.over_bare.no_records (omega (arith, may.over_version)) (omega (arith, may.version))
      in
      subst (λ (s : SlotValue). Accepts s (slot_in third page)) (sym third_over) (subst (λ (s : SlotValue). Accepts (slot_at table parent) s) (sym third_page) accepts)

  lessened_chain : chain_in lessened ≡ above (deltas.TermDelete (slot_at table page).low) (chain_in (slot_at table parent))
  lessened_chain = rw (chain_of parent over_here).1.its_chain refl

  lessened_kind : is_other_kind over lessened ≡ false
  lessened_kind = kind_fits (lists_pairs over.listed) (slot_at table parent).level (lists_as_the_chain (chain_in lessened) ∙ ap is_leaf lessened_chain ∙ own_kind parent over_here)

  fifth_accepted : refusal (with_both fourth) (consolidate parent (suc (slot_at table parent).version) over) ≡ None
  fifth_accepted =
      let Accepts : SlotValue → Type 0 = λ slot. first_reason (consolidate_reasons slot (suc (slot_at table parent).version) over) ≡ None in
      subst Accepts (sym fourth_over) (consolidate_is_accepted lessened over may.over_bare.posted lessened_kind (omega (arith, may.over_version)) refl)

  -- the id of the page is free
  to_freed : freed_ids ≡ freed table.free page (suc (slot_in third page).version)
  to_freed = ap (λ (s : SlotValue). freed table.free page (suc s.version)) (sym third_page)

  -- all five in turn
  all_steps : TakesInTurn table (merging_steps table parent left page base over) (with_both fifth)
  all_steps = (
    with_slots first,
    first_accepted,
    record { leads = refl; reported = refl },
    (
      with_slots second,
      second_accepted,
      record { leads = ap with_slots to_second; reported = refl },
      (
        with_slots third,
        third_accepted,
        record { leads = ap with_slots to_third; reported = refl },
        (
          with_both fourth,
          fourth_accepted,
          record { leads = ap with_both to_fourth ∙ ap (λ (free : List ℕ). record table { slots = slots_unposted parent page third; free = free }) to_freed; reported = refl },
          (with_both fifth, fifth_accepted, record { leads = ap with_both to_fifth; reported = refl }, refl),
        ),
      ),
    ),
  )

  last_version : suc emptied.version ≡ (slot_at table page).version + 3
  last_version = omega arith

  -- the entries of both, side by side
  base_is : base ≡ page_for (joined_chain (chain_in (slot_at table left)) (chain_in (slot_at table page)))
  base_is =
      let meeting : Fences → Merging = λ f. record { separator = f.low; high = f.high; right = f.right } in
      ap page_for together_chain
      ∙ ap (λ (f : Fences). page_for (merged (meeting f) (chain_in (slot_at table left)) (above deltas.Remove (chain_in (slot_at table page))))) (own_fence page here)

  -- the slots as the code leaves them
  made_at_once : fifth ≡ slots_merged_at_once parent left page table.slots
  made_at_once =
      let into : SlotValue = consolidated base together in
      let own : SlotValue = slot_at table page in
      set-swap (set table.slots left into) page parent freed_slot (consolidated over lessened) over_is_apart
      ∙ ap (λ (s : List SlotValue). set s parent (consolidated over lessened)) (set-swap table.slots page left freed_slot into left_is_apart)
      ∙ ap (λ (n : ℕ). set (set (set table.slots page (free_slot n)) left into) parent (consolidated over lessened)) last_version
      ∙ ap (λ (b : Page). set (set (set table.slots page (free_slot (own.version + 3))) left into) parent (consolidated b lessened)) (ap page_for lessened_chain)
      ∙ ap (λ (b : Page). set (set (set table.slots page (free_slot (own.version + 3))) left (consolidated b together)) parent (slot_with (Some (deltas.TermDelete own.low)) (slot_at table parent))) base_is

  abbrev TakesAll : List SlotValue → List ℕ → Type 0
  TakesAll slots free = TakesInTurn table (merging_steps table parent left page base over) (record table { slots = slots; free = free })

  takes_all : {slots : List SlotValue} {free : List ℕ} → slots ≡ slots_merged_at_once parent left page table.slots → free ≡ freed table.free page ((slot_at table page).version + 3) → TakesAll slots free
  takes_all {slots} {free} slots_are free_is =
      subst (λ (s : List SlotValue). TakesAll s free) (made_at_once ∙ sym slots_are)
      (subst (λ (f : List ℕ). TakesAll fifth f) (ap (freed table.free page) last_version ∙ sym free_is) all_steps)

  pub merged_at_once : {slots : List SlotValue} {free : List ℕ} → slots ≡ slots_merged_at_once parent left page table.slots → free ≡ freed table.free page ((slot_at table page).version + 3)
      → IsMergedUnder table parent page (pid left) (record table { slots = slots; free = free })
  merged_at_once slots_are free_is = record { base = base; over = over; takes = takes_all slots_are free_is }

-- the table is whole after it
pub whole_if_merged : (table : TableValue) (room parent page : ℕ) (left : Pid) (new : TableValue) → IsWhole table room → IsMergedUnder table parent page left new → IsWhole new room
whole_if_merged table room parent page left new whole done = whole_in_turn table room (merging_steps table parent left.0 page done.base done.over) new whole done.takes
