-- What the table answers of its pages.
use Rattle.std.specs.Prelude.{◌≡◌, ◌≢◌, ℕ, ◌+◌, true, false, ◌&&◌, if◌then◌else◌, List, Option, Some, None, map}
use Rattle.bw_keys.specs.declared.page.Pid.{Pid}
use Rattle.bw_keys.specs.Ranges.{is_within, key_count}
use Rattle.bw_delta.specs.Entries.{at}
use Rattle.bw_step.specs.Stages.{is_in_row}
use Rattle.bw_step.specs.declared.view.View.{View}
use Rattle.bw_step.specs.declared.view.Look.{Look}
use Rattle.bw_step.specs.declared.place.Place.{Place}
use Rattle.bw_step.specs.declared.survey.Leaf.{Leaf}
use Rattle.bw_step.specs.declared.survey.Summary.{Summary}
use Rattle.bw_step.specs.declared.survey.Survey.{Survey}
use Rattle.bw_law.specs.Slots.{SlotValue, slot_in, pairs_in, is_free}
use Rattle.bw_law.specs.Walks.{IsRowOf}
use Rattle.bw_table.specs.SlotFacts.{summary_of}
use Rattle.bw_law.specs.Tables.{TableValue, slot_at, number_of, outlines, is_leaf_in_row, joined_pairs}

abbrev pub view_of : Pid → SlotValue → View
view_of pid slot = record {
  pid = pid;
  version = record { 0 = slot.version };
  stage = slot.stage;
  low = slot.low;
  high = slot.high;
  right = slot.right;
  level = slot.level;
  count = slot.count;
  depth = slot.depth;
}

-- the page of a slot that isn't free
abbrev pub view_at : TableValue → Pid → Option View
view_at table pid =
    let slot = slot_at table pid.0 in if is_free slot.stage then None else Some (view_of pid slot)

-- what is kept of it beside its chain
abbrev pub summary_at : TableValue → Pid → Option Summary
summary_at table pid =
    let slot = slot_at table pid.0 in if is_free slot.stage then None else Some (summary_of slot)

-- the page is in no row
abbrev pub IsAbsent : TableValue → Pid → Type 0
IsAbsent table pid = is_in_row (slot_at table pid.0).stage ≡ false

-- the page is in a row, and has another version than was seen
abbrev pub IsStale : TableValue → Pid → ℕ → Type 0
IsStale table pid seen =
    (is_in_row (slot_at table pid.0).stage ≡ true) × ((slot_at table pid.0).version ≢ seen)

-- where every search begins
abbrev pub root_place : TableValue → Place
root_place table =
    record { pid = record { 0 = table.root }; level = (slot_at table table.root).level; from = 0 }

-- the value at the key and the book's number, in a leaf in its row whose range holds the key
abbrev pub look_at : TableValue → ℕ → ℕ → Option Look
look_at table page key =
    let slot = slot_at table page in
    if is_leaf_in_row slot && is_within slot.low slot.high key
    then Some (record { found = at key (pairs_in slot); at = number_of table.book })
    else None

abbrev pub leaf_of : Pid → SlotValue → Leaf
leaf_of pid slot =
    record {
      pid = pid;
      range = record { low = slot.low; high = slot.high };
      count = slot.count;
      stage = slot.stage;
    }

abbrev pub leaf_at : List SlotValue → ℕ → Leaf
leaf_at slots page = leaf_of (record { 0 = page }) (slot_in slots page)

-- the levels, the leaves in the order of their row, and the book
pub record IsSurveyOf (table : TableValue) (survey : Survey) : Type 0 where
  pub levels : survey.levels ≡ (slot_at table table.root).level + 1
  pub row : List ℕ
  pub is_row : IsRowOf (outlines table.slots) key_count 0 row
  pub leaves : survey.leaves.items ≡ map (leaf_at table.slots) row
  pub book : survey.book ≡ table.book

-- the pairs of the map, in the order of their keys: those of the leaf row
pub record ArePairsOf (table : TableValue) (pairs : List (ℕ × ℕ)) : Type 0 where
  pub row : List ℕ
  pub is_row : IsRowOf (outlines table.slots) key_count 0 row
  pub joined : pairs ≡ joined_pairs table.slots row
