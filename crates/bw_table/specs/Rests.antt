-- Pages in the middle of a split or a merge.
use Rattle.std.specs.Prelude.{◌≡◌, ℕ, suc, ◌<◌, ◌==◌, nat_le, if◌then◌else◌, Bool, true, false, List, length, Option, Some, None, option_map}
use Rattle.bw_keys.specs.declared.page.Pid.{Pid}
use Rattle.bw_keys.specs.Ranges.{end_of}
use Rattle.bw_delta.specs.Entries.{last_upto}
use Rattle.bw_step.specs.declared.place.Todo.{Todo}
use Rattle.bw_step.specs.declared.view.Stage.{Stage}
use Rattle.bw_step.specs.declared.view.Stage.TheVariants.{Free, Posted, Unposted, Marked, Merged}
use Rattle.bw_law.specs.Slots.{SlotValue, routes_in, is_merged}
use Rattle.bw_law.specs.Tables.{TableValue, slot_at, outlines}
use Rattle.bw_law.specs.Walks.{IsAmong, IsWalkFrom}
use Rattle.bw_table.specs.Gets.{IsUpTo, page_of, way_left}
use Rattle.bw_table.specs.Visits.{todo_with, way_on}

-- the term of a new page isn't posted, or a page that leaves isn't gone
abbrev pub is_unfinished : Stage → Bool
is_unfinished Free = false
is_unfinished Posted = false
is_unfinished Unposted = true
is_unfinished Marked = true
is_unfinished Merged = true

-- the walk of a search for the key goes through the page
abbrev pub IsOnTheWalk : TableValue → ℕ → ℕ → Type 0
IsOnTheWalk table key page =
    (walk : List ℕ) × IsWalkFrom (outlines table.slots) table.root key walk × IsAmong walk page

-- what a visit of the page, on a search for the key down to its leaf, meets unfinished
abbrev pub todo_at : TableValue → ℕ → Pid → Option Todo
todo_at table key page =
    let slot = slot_at table page.0 in
    todo_with table.slots page slot key (way_on table.slots page slot key 0)

-- a search for the key meets something unfinished
pub record MeetsTodo (table : TableValue) (key : ℕ) : Type 0 where
  pub page : Pid
  pub on_the_walk : IsOnTheWalk table key page.0
  pub todo : Todo
  pub met : todo_at table key page ≡ Some todo

-- the next page of a search for the key by the page's own routes, of which one may lead to a page
-- that was taken in: none after a leaf whose range holds it
abbrev pub next_by_routes : SlotValue → ℕ → Option Pid
next_by_routes slot key =
    if nat_le (end_of slot.high) key then slot.right
    else (if slot.level == 0 then None else option_map page_of (last_upto key (routes_in slot)))

-- a search for the key can go on from this page, unless that was taken in
pub record IsLedTo (table : TableValue) (key page : ℕ) : Type 0 where
  pub inside : page < length table.slots
  pub on : is_merged (slot_at table page).stage ≡ false → IsUpTo table key page

-- how far it may be from there to the leaf; a page that was taken in ends the search
abbrev pub rest_left : TableValue → ℕ → ℕ
rest_left table page = if is_merged (slot_at table page).stage then 0 else suc (way_left table page)
