-- What the code asks for holds of each table.
use Rattle.std.proofs.Common.{◌≡◌, ℕ, ◌+◌, ◌<◌, ◌≤◌, ◌^◌, Bool, true, length, Option, Some, None, unwrap_or, refl, ◌∙◌, ap, arith}
use Rattle.std.specs.Prelude.{option_map, is_none}
use Rattle.std.proofs.lemmas.Bool.Decides.{nat_tests}
use Rattle.bw_keys.specs.declared.config.Config.{Config}
use Rattle.bw_keys.specs.Limits.{first_bad_field}
use Rattle.bw_keys.specs.Ranges.{is_within}
use Rattle.bw_delta.specs.Entries.{at}
use Rattle.bw_step.specs.Proposals.{Proposal}
use Rattle.bw_law.specs.declared.pages.TheConstants.{MAX_PAGES}
use Rattle.bw_law.specs.Tables.{TableValue, slot_at, is_leaf_in_row, Lawful, IsValueAt, new_table}
use Rattle.bw_law.specs.Slots.{SlotValue, pairs_in}
use Rattle.bw_law.specs.Refusals.{refusal, new_id, last_id}
use Rattle.bw_law.specs.Effects.{after}
use Rattle.bw_law.specs.MorePages.{with_more_pages}
use Rattle.bw_law.proofs.AllSteps.{step_law}
use Rattle.bw_law.proofs.Facts.{leaf_decides}
use Rattle.bw_law.proofs.NewTable.{new_law}
use Rattle.bw_law.proofs.MorePages.{more_pages_law}
use Rattle.bw_table.specs.Fields.{no_page}
use Rattle.bw_table.specs.SlotFacts.{HasSoundChain}
use Rattle.bw_table.specs.Whole.{IsWhole}

-- a page in a row has a sound chain
pub has_sound_chain : (table : TableValue) (page : ℕ) → Lawful table → HasSoundChain (slot_at table page)
has_sound_chain table page law here = let own = law.pages page here in (own.0, own.1.its_chain, own.1.sound)

-- a leaf in its row whose range holds the key has what the map has there
pub found_is_mapped : (table : TableValue) (page key : ℕ) → Lawful table → is_leaf_in_row (slot_at table page) ≡ true → is_within (slot_at table page).low (slot_at table page).high key ≡ true
    → IsValueAt table.slots key (at key (pairs_in (slot_at table page)))
found_is_mapped table page key law leaf within value =
    let decides = leaf_decides table law page key value (grind (arith, nat_tests)) (grind (arith, nat_tests)) (grind (arith, nat_tests), grind (arith, nat_tests)) in
    (decides.1, decides.0)

-- a page inside may be linked to: its id isn't that of no page
pub has_link : (table : TableValue) (page : ℕ) → Lawful table → page < length table.slots → page < no_page
has_link table page law inside = omega (arith, law.bounds.slots, law.bounds.config.few)

-- what is so whichever slot stands for a new page's, where none is free, is so of the table's
pub by_new_slot : {X : Type 0} (table : TableValue) (new : Option SlotValue) (answer : X) (by_slot : SlotValue → Bool → X)
    → new ≡ option_map (slot_at table) (last_id table.free)
    → ((other : SlotValue) → answer ≡ by_slot (unwrap_or new other) (is_none new))
    → answer ≡ by_slot (slot_at table (new_id table)) (is_none (last_id table.free))
by_new_slot {X} table new answer by_slot is reported =
    reported (slot_at table (new_id table)) ∙ ap (λ (n : Option SlotValue). by_slot (unwrap_or n (slot_at table (new_id table))) (is_none n)) is ∙ stands (last_id table.free)
  where
    stands : (last : Option ℕ)
        → by_slot (unwrap_or (option_map (slot_at table) last) (slot_at table (unwrap_or last 0))) (is_none (option_map (slot_at table) last))
        ≡ by_slot (slot_at table (unwrap_or last 0)) (is_none last)
    stands None = refl
    stands (Some id) = refl

-- the table after an accepted step
pub whole_after : (table : TableValue) (step : Proposal) (room : ℕ) → IsWhole table room → refusal table step ≡ None → IsWhole (after table step) room
whole_after table step room whole none =
    let kept = step_law table step whole.lawful whole.booked none in record {
      lawful = kept.lawful;
      booked = kept.booked;
      free_room = omega (arith, kept.lawful.bounds.slots, whole.lawful.bounds.slots, whole.free_room);
    }

-- the new table
pub whole_new : (config : Config) (room : ℕ) → first_bad_field config ≡ None → config.first_version < 2 ^ 64 → config.pages ≤ room → IsWhole (new_table config) room
whole_new config room fine fits enough =
    let empty = new_law config fine fits in record { lawful = empty.lawful; booked = empty.booked; free_room = omega (arith, empty.lawful.bounds.slots) }

-- the table with more pages
pub whole_with_more : (table : TableValue) (more room wider : ℕ) → IsWhole table room → table.config.pages + more ≤ MAX_PAGES → table.config.first_version < 2 ^ 64 → table.config.pages + more ≤ wider → IsWhole (with_more_pages more table) wider
whole_with_more table more room wider whole few fits enough =
    let kept = more_pages_law table more whole.lawful whole.booked few fits in
    record { lawful = kept.lawful; booked = kept.booked; free_room = omega (arith, kept.lawful.bounds.slots, enough) }
