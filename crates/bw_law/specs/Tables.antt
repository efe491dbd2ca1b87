-- A mapping table as contracts see it, its law, its map and its book.
use Rattle.std.specs.Prelude.{◌≡◌, ◌≢◌, ◌↔◌, ℕ, zero, suc, ◌+◌, ◌-◌, ◌<◌, ◌≤◌, ◌^◌, Bool, true, ◌&&◌, ◌==◌, if◌then◌else◌, List, [], ◌∷◌, ◌++◌, length, Option, Some, None, option_map, sum_by, replicate}
use Rattle.bw_keys.specs.declared.config.Config.{Config}
use Rattle.bw_keys.specs.declared.page.Pid.{Pid}
use Rattle.bw_keys.specs.declared.range.Fence.{Fence}
use Rattle.bw_keys.specs.declared.range.Fence.TheVariants.{Top}
use Rattle.bw_keys.specs.declared.page.TheConstants.{MAX_LEVEL}
use Rattle.bw_keys.specs.Limits.{first_bad_field}
use Rattle.bw_keys.specs.Ranges.{key_count, end_of}
use Rattle.bw_delta.specs.declared.fences.Fences.{Fences}
use Rattle.bw_delta.specs.Entries.{at}
use Rattle.bw_delta.specs.Records.{Records, bare, depth}
use Rattle.bw_delta.specs.Fence.{fences, is_leaf}
use Rattle.bw_delta.specs.Sound.{IsSound, entry_count}
use Rattle.bw_step.specs.declared.survey.Book.{Book}
use Rattle.bw_step.specs.declared.view.Stage.TheVariants.{Free, Posted, Merged}
use Rattle.bw_step.specs.Stages.{is_in_row}
use Rattle.bw_step.specs.Tellings.{Telling, change, look, shape}
use Rattle.bw_law.specs.declared.pages.TheConstants.{MAX_PAGES}
use Rattle.bw_law.specs.Slots.{SlotValue, slot_in, free_slot, empty_page, pairs_in, routes_in}
use Rattle.bw_law.specs.Rows.{Outline, Rows}
use Rattle.bw_law.specs.Walks.{IsAmong, RepeatsNone}

-- the slots by their ids, the ids that are free, the last of them to
-- be given next, the root, and the book
pub record TableValue : Type 0 where
  pub slots : List SlotValue
  pub free : List ℕ
  pub root : ℕ
  pub book : Book
  pub config : Config

abbrev pub slot_at : TableValue → ℕ → SlotValue
slot_at table page = slot_in table.slots page

-- how many changes of the map there were
abbrev pub number_of : Book → ℕ
number_of book = book.inserted + book.removed + book.modified

-- the book with what a receipt reports: a key that got a value was inserted, one that lost its
-- value was removed, and one that has another was modified
abbrev pub book_with : Book → Telling → Book
book_with book (change number key None (Some value)) = record book { inserted = book.inserted + 1 }
book_with book (change number key (Some value) None) = record book { removed = book.removed + 1 }
book_with book (change number key (Some old) (Some value)) =
    record book { modified = book.modified + 1 }
book_with book reported = book

abbrev pub id_of : Pid → ℕ
id_of pid = pid.0

abbrev pub outline : SlotValue → Outline
outline slot = record {
  stage = slot.stage;
  low = slot.low;
  high = end_of slot.high;
  right = option_map id_of slot.right;
  level = slot.level;
  routes = λ key. option_map id_of (at key (routes_in slot));
}

abbrev pub outlines : List SlotValue → ℕ → Outline
outlines slots page = outline (slot_in slots page)

abbrev pub slot_fences : SlotValue → Fences
slot_fences slot = record { low = slot.low; high = slot.high; right = slot.right }

-- a page in a row: its chain is sound and of the level's kind, and
-- the slot's summary is that of the chain
pub record IsPageOf (slot : SlotValue) (chain : Records) : Type 0 where
  pub its_chain : slot.chain ≡ Some chain
  pub sound : IsSound chain
  pub kind : is_leaf chain ≡ slot.level == 0
  pub fence : slot_fences slot ≡ fences chain
  pub count : slot.count ≡ entry_count chain
  pub depth : slot.depth ≡ depth chain
  pub not_tall : slot.level ≤ MAX_LEVEL

abbrev pub Pages : List SlotValue → Type 0
Pages slots =
    (page : ℕ) → is_in_row (slot_in slots page).stage ≡ true
    → (chain : Records) × IsPageOf (slot_in slots page) chain

-- what is kept of a page with nothing left: its range is open to the top, and it has no
-- right link, no entries and no records
pub record HasNothing (high : Fence) (right : Option Pid) (count depth : ℕ) : Type 0 where
  pub open_end : high ≡ Top
  pub no_link : right ≡ None
  pub no_entries : count ≡ 0
  pub no_records : depth ≡ 0

abbrev pub IsEmptied : SlotValue → Type 0
IsEmptied slot = slot.stage ≡ Merged → HasNothing slot.high slot.right slot.count slot.depth

-- a merged page keeps its low and its level, and nothing else
abbrev pub MergedPages : List SlotValue → Type 0
MergedPages slots = (page : ℕ) → IsEmptied (slot_in slots page)

-- the free list names only free slots, none twice
pub record FreeList (slots : List SlotValue) (free : List ℕ) : Type 0 where
  pub once : RepeatsNone free
  pub are_free : (page : ℕ) → IsAmong free page
      → (page < length slots) × ((slot_in slots page).stage ≡ Free)

-- the configuration of a table: a good one, by which it was made,
-- but for the pages that it got later
pub record IsTableConfig (config : Config) : Type 0 where
  pub made_with : ℕ
  pub good : first_bad_field (record config { pages = made_with }) ≡ None
  pub no_fewer : made_with ≤ config.pages
  pub few : config.pages ≤ MAX_PAGES

-- no version and no number of a change is past the last number, and
-- there are as many slots as were asked for
pub record Bounds (table : TableValue) : Type 0 where
  pub versions : (page : ℕ) → (slot_at table page).version < 2 ^ 64
  pub number : number_of table.book < 2 ^ 64
  pub slots : length table.slots ≡ table.config.pages
  pub config : IsTableConfig table.config

-- what is true of each table, at every moment
pub record Lawful (table : TableValue) : Type 0 where
  pub rows : Rows key_count (outlines table.slots) table.root
  pub pages : Pages table.slots
  pub merged : MergedPages table.slots
  pub free_list : FreeList table.slots table.free
  pub bounds : Bounds table

abbrev pub is_leaf_in_row : SlotValue → Bool
is_leaf_in_row slot = is_in_row slot.stage && slot.level == 0

-- the pairs that a slot has a share of the map
abbrev pub leaf_pairs : SlotValue → List (ℕ × ℕ)
leaf_pairs slot = if is_leaf_in_row slot then pairs_in slot else []

-- the map has the key, with the value
abbrev pub Maps : List SlotValue → ℕ → ℕ → Type 0
Maps slots key value = (page : ℕ) × (at key (leaf_pairs (slot_in slots page)) ≡ Some value)

abbrev pub SameMap : List SlotValue → List SlotValue → Type 0
SameMap old new = (key value : ℕ) → Maps new key value ↔ Maps old key value

-- the value that the map has at the key, or none
abbrev pub IsValueAt : List SlotValue → ℕ → Option ℕ → Type 0
IsValueAt slots key found = (value : ℕ) → (found ≡ Some value) ↔ Maps slots key value

-- the key had the one value, or none, and has the other; the other keys stay
pub record ChangesKey (old new : List SlotValue) (key : ℕ) (before after : Option ℕ) : Type 0 where
  pub had : IsValueAt old key before
  pub has : IsValueAt new key after
  pub others : (k value : ℕ) → k ≢ key → Maps new k value ↔ Maps old k value

-- what a receipt reports of the map before it and after it
abbrev pub TellsMap : Telling → List SlotValue → List SlotValue → Type 0
TellsMap (change number key before after) old new = ChangesKey old new key before after
TellsMap (look at key found) old new = IsValueAt old key found × SameMap old new
TellsMap shape old new = SameMap old new

-- the map as a list: the pairs of the pages of the leaf row, one page after the other
abbrev pub joined_pairs : List SlotValue → List ℕ → List (ℕ × ℕ)
joined_pairs slots [] = []
joined_pairs slots (page ∷ row) = leaf_pairs (slot_in slots page) ++ joined_pairs slots row

-- how many pairs the map has
abbrev pub pair_count : List SlotValue → ℕ
pair_count slots = sum_by (λ slot. length (leaf_pairs slot)) slots

-- the book law: the insertions are the removals and the pairs that are there
abbrev pub Booked : TableValue → Type 0
Booked table = table.book.inserted ≡ table.book.removed + pair_count table.slots

-- the ids below n but 0, the greatest first
abbrev pub ids_down : ℕ → List ℕ
ids_down zero = []
ids_down (suc zero) = []
ids_down (suc (suc n)) = suc n ∷ ids_down (suc n)

-- the slot of an empty leaf for all keys
abbrev pub first_slot : ℕ → SlotValue
first_slot version = record (free_slot version) { stage = Posted; chain = Some (bare empty_page) }

-- the table with no pairs: page 0 is an empty leaf, and the root
abbrev pub new_table : Config → TableValue
new_table config = record {
  slots = first_slot config.first_version
      ∷ replicate (config.pages - 1) (free_slot config.first_version);
  free = ids_down config.pages;
  root = 0;
  book = record { inserted = 0; removed = 0; modified = 0 };
  config = config;
}
