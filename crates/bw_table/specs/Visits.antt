-- What a visit of a page answers: where a search for the key
-- goes from there, and what is unfinished.
use Rattle.std.specs.Prelude.{◌≡◌, ℕ, ◌+◌, ◌-◌, ◌<◌, ◌≤◌, Bool, true, ◌&&◌, not, ◌==◌, nat_le, nat_lt, if◌then◌else◌, List, ◌∷◌, Option, Some, None, filter}
use Rattle.std.specs.Option.{option_or}
use Rattle.bw_keys.specs.declared.page.Pid.{Pid}
use Rattle.bw_keys.specs.Ranges.{end_of}
use Rattle.bw_delta.specs.Entries.{last_upto}
use Rattle.bw_step.specs.declared.place.Place.{Place}
use Rattle.bw_step.specs.declared.place.Go.{Go}
use Rattle.bw_step.specs.declared.place.Go.TheVariants.{Gone, Right, Down, Here}
use Rattle.bw_step.specs.declared.place.Todo.{Todo}
use Rattle.bw_step.specs.declared.place.Todo.TheVariants as todos
use Rattle.bw_step.specs.declared.place.Next.{Next}
use Rattle.bw_step.specs.declared.view.Stage.{Stage}
use Rattle.bw_step.specs.declared.view.Stage.TheVariants.{Free, Unposted, Posted, Marked, Merged}
use Rattle.bw_step.specs.declared.view.View.{View}
use Rattle.bw_step.specs.Stages.{is_in_row}
use Rattle.bw_law.specs.Slots.{SlotValue, slot_in, routes_in, is_merged}
use Rattle.bw_law.specs.Tables.{TableValue, slot_at, outlines}
use Rattle.bw_law.specs.Walks.{IsWalkFrom, last_of}
use Rattle.bw_table.specs.Views.{view_of}

-- the page is there as the place says: in a row, on the place's level and not under the goal, with
-- a low from `from` on and up to the key
abbrev pub is_there : SlotValue → Place → ℕ → ℕ → Bool
is_there slot place key goal =
    is_in_row slot.stage && slot.level == place.level && nat_le goal slot.level
    && nat_le place.from slot.low && nat_le slot.low key

-- the route leads to a page that isn't merged
abbrev pub is_live : List SlotValue → ℕ × Pid → Bool
is_live slots route = not (is_merged (slot_in slots route.1.0).stage)

abbrev pub live_routes : List SlotValue → SlotValue → List (ℕ × Pid)
live_routes slots slot = filter (is_live slots) (routes_in slot)

-- right, to where the page ends
abbrev pub right_to : SlotValue → Option Pid → Go
right_to slot None = Gone
right_to slot (Some right) =
    Right (record { pid = right; level = slot.level; from = end_of slot.high })

-- down by a route
abbrev pub down_by : SlotValue → Option (ℕ × Pid) → Go
down_by slot None = Gone
down_by slot (Some route) = Down (record { pid = route.1; level = slot.level - 1; from = route.0 })

-- right, where the key is past the page's fence; otherwise down to the goal, by the
-- greatest live route at or below the key
abbrev pub way_on : List SlotValue → Pid → SlotValue → ℕ → ℕ → Go
way_on slots pid slot key goal =
    if nat_le (end_of slot.high) key
    then right_to slot slot.right
    else (if nat_lt goal slot.level then down_by slot (last_upto key (live_routes slots slot))
    else Here (view_of pid slot))

abbrev pub go_at : TableValue → Place → ℕ → ℕ → Go
go_at table place key goal =
    let slot = slot_at table place.pid.0 in
    if is_there slot place key goal then way_on table.slots place.pid slot key goal else Gone

-- what the stage of the page itself asks for
abbrev pub own_todo : Stage → Pid → Option Todo
own_todo Free pid = None
own_todo Unposted pid = Some (todos.Post pid)
own_todo Posted pid = None
own_todo Marked pid = Some (todos.Merge pid)
own_todo Merged pid = None

-- a route to a merged page is to be taken out
abbrev pub route_todo : List SlotValue → Option (ℕ × Pid) → Option Todo
route_todo slots None = None
route_todo slots (Some route) =
    if is_merged (slot_in slots route.1.0).stage then Some (todos.DropTerm route.1) else None

-- what the page asks for, and otherwise, on the way down, the greatest route at or below the key
abbrev pub todo_with : List SlotValue → Pid → SlotValue → ℕ → Go → Option Todo
todo_with slots pid slot key Gone = None
todo_with slots pid slot key (Right next) = own_todo slot.stage pid
todo_with slots pid slot key (Down next) =
    option_or (own_todo slot.stage pid) (route_todo slots (last_upto key (routes_in slot)))
todo_with slots pid slot key (Here view) = own_todo slot.stage pid

-- where the search goes on, and what it met
abbrev pub next_by : List SlotValue → Pid → SlotValue → ℕ → Go → Next
next_by slots pid slot key go = record { go = go; todo = todo_with slots pid slot key go }

abbrev pub visit_at : TableValue → Place → ℕ → ℕ → Next
visit_at table place key goal =
    next_by table.slots place.pid (slot_at table place.pid.0) key (go_at table place key goal)

-- the table has the page of the place, on a search for the key down to the goal
pub record IsOnTheWay (table : TableValue) (place : Place) (key goal : ℕ) : Type 0 where
  pub in_row : is_in_row (slot_at table place.pid.0).stage ≡ true
  pub level : (slot_at table place.pid.0).level ≡ place.level
  pub goal_below : goal ≤ place.level
  pub low_from : place.from ≤ (slot_at table place.pid.0).low
  pub low_upto : (slot_at table place.pid.0).low ≤ key

-- the page of the place, in its row on the goal's level, with a range that holds the key
pub record IsFound (table : TableValue) (place : Place) (key goal : ℕ) (view : View) : Type 0 where
  pub its_view : view ≡ view_of place.pid (slot_at table place.pid.0)
  pub in_row : is_in_row view.stage ≡ true
  pub level : view.level ≡ goal
  pub low_from : place.from ≤ view.low
  pub low_upto : view.low ≤ key
  pub below_high : key < end_of view.high

-- a place is gone just where it isn't on the way
abbrev pub TellsWhetherOnTheWay : TableValue → Place → ℕ → ℕ → Go → Type 0
TellsWhetherOnTheWay table place key goal Gone = IsOnTheWay table place key goal → ⊥
TellsWhetherOnTheWay table place key goal (Right next) = IsOnTheWay table place key goal
TellsWhetherOnTheWay table place key goal (Down next) = IsOnTheWay table place key goal
TellsWhetherOnTheWay table place key goal (Here view) = IsOnTheWay table place key goal

-- the next place is on the way
abbrev pub StaysOnTheWay : TableValue → ℕ → ℕ → Go → Type 0
StaysOnTheWay table key goal Gone = Unit {0}
StaysOnTheWay table key goal (Right next) = IsOnTheWay table next key goal
StaysOnTheWay table key goal (Down next) = IsOnTheWay table next key goal
StaysOnTheWay table key goal (Here view) = Unit {0}

-- right leads to greater keys on the same level, and down leads one level down
abbrev pub ComesNearer : Place → Go → Type 0
ComesNearer place Gone = Unit {0}
ComesNearer place (Right next) = (next.level ≡ place.level) × (place.from < next.from)
ComesNearer place (Down next) = next.level + 1 ≡ place.level
ComesNearer place (Here view) = Unit {0}

-- the page at which the search ends is the one that it looks for
abbrev pub FindsPage : TableValue → Place → ℕ → ℕ → Go → Type 0
FindsPage table place key goal Gone = Unit {0}
FindsPage table place key goal (Right next) = Unit {0}
FindsPage table place key goal (Down next) = Unit {0}
FindsPage table place key goal (Here view) = IsFound table place key goal view

-- each walk of a search for the key from the root ends at the page
abbrev pub EachWalkEndsAt : TableValue → ℕ → ℕ → Type 0
EachWalkEndsAt table key page =
    (rest : List ℕ) → IsWalkFrom (outlines table.slots) table.root key (table.root ∷ rest)
    → last_of table.root rest ≡ page

-- there is just one walk of a search for the key from the root, and it ends at the page
pub record OneWalkEndsAt (table : TableValue) (key page : ℕ) : Type 0 where
  pub rest : List ℕ
  pub is_walk : IsWalkFrom (outlines table.slots) table.root key (table.root ∷ rest)
  pub only : (other : List ℕ) → IsWalkFrom (outlines table.slots) table.root key other
      → other ≡ table.root ∷ rest
  pub ends : last_of table.root rest ≡ page
