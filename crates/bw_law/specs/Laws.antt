-- The laws of the mapping table, as statements that contracts name.
use Rattle.std.specs.Prelude.{◌≡◌, ◌↔◌, ℕ, ◌+◌, ◌<◌, ◌≤◌, ◌^◌, true, List, [], ◌∷◌, ◌++◌, length, Some, None, option_map}
use Rattle.bw_keys.specs.declared.config.Config.{Config}
use Rattle.bw_keys.specs.Limits.{first_bad_field}
use Rattle.bw_keys.specs.declared.page.Pid.{Pid}
use Rattle.bw_keys.specs.declared.page.TheConstants.{MAX_DEPTH, MAX_LEVEL}
use Rattle.bw_keys.specs.Ranges.{key_count}
use Rattle.bw_delta.specs.Entries.{at, rises}
use Rattle.bw_delta.specs.Pages.{Page}
use Rattle.bw_step.specs.Stages.{has_term}
use Rattle.bw_step.specs.Proposals.{Proposal}
use Rattle.bw_step.specs.Tellings.{telling_of}
use Rattle.bw_law.specs.declared.pages.TheConstants.{MAX_PAGES}
use Rattle.bw_law.specs.Slots.{SlotValue, slot_in, pairs_in, routes_in}
use Rattle.bw_law.specs.Rows.{Spans, InRow}
use Rattle.bw_law.specs.Walks.{IsRow, IsRowOf, IsWalkFrom, last_of}
use Rattle.bw_law.specs.Tables.{TableValue, slot_at, id_of, outlines, Lawful, Booked, Maps, TellsMap, joined_pairs, new_table}
use Rattle.bw_law.specs.Same.{is_same_page}
use Rattle.bw_law.specs.Refusals.{refusal}
use Rattle.bw_law.specs.Effects.{after, slots_after, receipt_of}
use Rattle.bw_law.specs.Runs.{run}

-- what a step makes of the map: what its receipt reports
abbrev pub MapAfter : TableValue → Proposal → Type 0
MapAfter table step =
    TellsMap (telling_of (receipt_of table step)) table.slots (slots_after table step)

-- a lawful and booked table is lawful and booked after each accepted
-- step, and its map is as the step says
pub record KeptBy (table : TableValue) (step : Proposal) : Type 0 where
  pub lawful : Lawful (after table step)
  pub booked : Booked (after table step)
  pub map : MapAfter table step

abbrev pub StepLaw : Type 0
StepLaw =
    (table : TableValue) (step : Proposal) → Lawful table → Booked table → refusal table step ≡ None
    → KeptBy table step

-- the table that is made for a configuration is lawful and booked, and has no pairs
pub record IsEmptyTable (table : TableValue) : Type 0 where
  pub lawful : Lawful table
  pub booked : Booked table
  pub no_pairs : (key value : ℕ) → Maps table.slots key value → ⊥

abbrev pub NewLaw : Type 0
NewLaw =
    (config : Config) → first_bad_field config ≡ None → config.first_version < 2 ^ 64
    → IsEmptyTable (new_table config)

-- whatever steps are proposed to the new table, one after the
-- other, it is lawful and booked after each
abbrev pub RunLaw : Type 0
RunLaw =
    (config : Config) → first_bad_field config ≡ None → config.first_version < 2 ^ 64
    → (steps : List Proposal)
    → Lawful (run (new_table config) steps) × Booked (run (new_table config) steps)

-- the row of a level is there, and no other list is one
pub record HasOneRow (table : TableValue) (level : ℕ) : Type 0 where
  pub row : List ℕ
  pub is_row : IsRowOf (outlines table.slots) key_count level row
  pub only : (other : List ℕ) → IsRow (outlines table.slots) level other → other ≡ row

abbrev pub RowLaw : Type 0
RowLaw =
    (table : TableValue) → Lawful table → (level : ℕ) → level ≤ (slot_at table table.root).level
    → HasOneRow table level

-- a leaf in the leaf row, whose range holds the key
pub record IsLeafOf (table : TableValue) (key page : ℕ) : Type 0 where
  pub in_row : InRow (outlines table.slots page)
  pub is_leaf : (slot_at table page).level ≡ 0
  pub spans : Spans (outlines table.slots page) key

-- a search for the key has one walk, and it ends at the one
-- leaf in the row whose range holds the key
pub record HasOneWalk (table : TableValue) (key : ℕ) : Type 0 where
  pub rest : List ℕ
  pub is_walk : IsWalkFrom (outlines table.slots) table.root key (table.root ∷ rest)
  pub only : (other : List ℕ) → IsWalkFrom (outlines table.slots) table.root key other
      → other ≡ table.root ∷ rest
  pub ends : IsLeafOf table key (last_of table.root rest)
  pub one_leaf : (leaf : ℕ) → IsLeafOf table key leaf → leaf ≡ last_of table.root rest

abbrev pub WalkLaw : Type 0
WalkLaw = (table : TableValue) → Lawful table → (key : ℕ) → key < key_count → HasOneWalk table key

-- the pairs joined over the leaf row rise, and are the map
pub record IsTheMap (table : TableValue) (joined : List (ℕ × ℕ)) : Type 0 where
  pub rise : rises 0 key_count joined ≡ true
  pub same : (key value : ℕ) → (at key joined ≡ Some value) ↔ Maps table.slots key value

abbrev pub MapLaw : Type 0
MapLaw =
    (table : TableValue) → Lawful table → (row : List ℕ)
    → IsRowOf (outlines table.slots) key_count 0 row → IsTheMap table (joined_pairs table.slots row)

-- the pairs joined over the leaf row are as many as the insertions less the removals
abbrev pub CountLaw : Type 0
CountLaw =
    (table : TableValue) → Lawful table → Booked table → (row : List ℕ)
    → IsRowOf (outlines table.slots) key_count 0 row
    → table.book.inserted ≡ table.book.removed + length (joined_pairs table.slots row)

-- the routes of the pages of a row, one page after the other
abbrev pub joined_routes : List SlotValue → List ℕ → List (ℕ × Pid)
joined_routes slots [] = []
joined_routes slots (page ∷ row) = routes_in (slot_in slots page) ++ joined_routes slots row

-- the level above has a term for the page, which begins at the key
pub record HasTermAt (table : TableValue) (level page key : ℕ) : Type 0 where
  pub posted : has_term (slot_at table page).stage ≡ true
  pub on_level : (slot_at table page).level ≡ level
  pub begins : (slot_at table page).low ≡ key

-- the routes rise, and lead from the lows of the posted, marked and merged
-- pages of the level to just these pages
pub record AreTheLows (table : TableValue) (level : ℕ) (terms : List (ℕ × Pid)) : Type 0 where
  pub rise : rises 0 key_count terms ≡ true
  pub same : (key page : ℕ) → key < key_count
      → (option_map id_of (at key terms) ≡ Some page) ↔ HasTermAt table level page key

abbrev pub TermLaw : Type 0
TermLaw =
    (table : TableValue) → Lawful table → (level : ℕ) → level < (slot_at table table.root).level
    → (row : List ℕ) → IsRowOf (outlines table.slots) key_count (level + 1) row
    → AreTheLows table level (joined_routes table.slots row)

-- the leaf whose range holds a key has what the map has there
abbrev pub LookLaw : Type 0
LookLaw =
    (table : TableValue) → Lawful table → (leaf key value : ℕ) → IsLeafOf table key leaf
    → Maps table.slots key value ↔ (at key (pairs_in (slot_at table leaf)) ≡ Some value)

-- what is stored of a page fits, and each page that it names has a slot
pub record PageFits (table : TableValue) (page : ℕ) : Type 0 where
  pub inside : page < length table.slots
  pub depth : (slot_at table page).depth ≤ MAX_DEPTH
  pub level : (slot_at table page).level ≤ MAX_LEVEL
  pub count : (slot_at table page).count < 2 ^ 64
  pub right : (right : Pid) → (slot_at table page).right ≡ Some right → right.0 < length table.slots
  pub routes : (key : ℕ) (child : Pid) → at key (routes_in (slot_at table page)) ≡ Some child
      → child.0 < length table.slots

pub record NumbersFit (table : TableValue) : Type 0 where
  pub slots : length table.slots ≤ MAX_PAGES
  pub free : length table.free ≤ length table.slots
  pub pages : (page : ℕ) → InRow (outlines table.slots page) → PageFits table page

abbrev pub FitLaw : Type 0
FitLaw = (table : TableValue) → Lawful table → Booked table → NumbersFit table

-- two pages pass the test just where they are equal
abbrev pub SameLaw : Type 0
SameLaw = (p q : Page) → (is_same_page p q ≡ true) ↔ (p ≡ q)
