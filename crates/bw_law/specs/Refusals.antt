-- Why a step is refused: for each of the ten steps the reasons in the order of their numbers, each
-- tried over all the pages that the step names.
use Rattle.std.specs.Prelude.{ℕ, ◌+◌, ◌-◌, Bool, false, ◌||◌, not, ◌==◌, nat_lt, nat_le, max, is_some, is_none, if◌then◌else◌, List, [], ◌∷◌, ◌++◌, Option, Some, None, option_map, unwrap_or}
use Rattle.std.specs.List.{list_any}
use Rattle.bw_keys.specs.declared.page.TheConstants.{MAX_DEPTH, MAX_LEVEL}
use Rattle.bw_keys.specs.declared.range.Fence.TheVariants.{Top}
use Rattle.bw_keys.specs.declared.page.Pid.{Pid}
use Rattle.bw_keys.specs.Ranges.{is_within}
use Rattle.bw_keys.specs.Reasons.{when, first_reason}
use Rattle.bw_delta.specs.Entries.{at, starts_at}
use Rattle.bw_delta.specs.Pages.{Page, routes_of, lists_pairs, upper_part}
use Rattle.bw_delta.specs.Sound.{page_for}
use Rattle.bw_step.specs.declared.refused.Refused.{Refused}
use Rattle.bw_step.specs.declared.refused.Refused.TheVariants.{Absent, Stale, Frozen, WrongKind, OutOfRange, Present, NoKey, NotBare, BadSeparator, NotSame, WrongStage, WrongParent, TermStands, Leftmost, NotNeighbours, Deep, TooTall, TableFull, Worn}
use Rattle.bw_step.specs.Stages.{is_in_row, is_leaving}
use Rattle.bw_step.specs.Proposals.{Proposal, insert, delete, modify, consolidate, split, term_add, grow, mark, merge, term_delete}
use Rattle.bw_law.specs.Slots.{SlotValue, slot_in, chain_in, pairs_in, routes_in, last_number, is_free, is_unposted, is_plainly_posted, is_marked, is_merged}
use Rattle.bw_law.specs.Same.{is_same_page, is_same_link}
use Rattle.bw_law.specs.Tables.{TableValue, slot_at, number_of}

-- Reasons that several steps have.

-- a page isn't in a row
abbrev pub absent : List SlotValue → Option Refused
absent slots = when (list_any (λ (slot : SlotValue). not (is_in_row slot.stage)) slots) Absent

-- a version seen isn't the slot's
abbrev pub stale : List (SlotValue × ℕ) → Option Refused
stale named = when (list_any (λ (n : SlotValue × ℕ). not (n.0.version == n.1)) named) Stale

-- the page is being removed
abbrev pub frozen : SlotValue → Option Refused
frozen slot = when (is_marked slot.stage) Frozen

-- a version that the step raises is the last number
abbrev pub is_worn : SlotValue → Bool
is_worn slot = slot.version == last_number

abbrev pub worn : List SlotValue → Option Refused
worn slots = when (list_any is_worn slots) Worn

-- a version or the book's number that a change of the map raises is the last number
abbrev pub worn_change : SlotValue → ℕ → Option Refused
worn_change slot number = when (is_worn slot || number == last_number) Worn

-- the range of the slot doesn't hold the key
abbrev pub is_outside : SlotValue → ℕ → Bool
is_outside slot key = not (is_within slot.low slot.high key)

abbrev pub is_full : SlotValue → Bool
is_full slot = nat_le MAX_DEPTH slot.depth

-- a leaf base at a level above 0, or an inner base at level 0
abbrev pub is_other_kind : Page → SlotValue → Bool
is_other_kind base slot = if lists_pairs base.listed then nat_lt 0 slot.level else slot.level == 0

-- the free list

abbrev pub last_id : List ℕ → Option ℕ
last_id [] = None
last_id (id ∷ []) = Some id
last_id (id ∷ next ∷ rest) = last_id (next ∷ rest)

-- the id that a new page takes
abbrev pub new_id : TableValue → ℕ
new_id table = unwrap_or (last_id table.free) 0

abbrev pub all_but_last : List ℕ → List ℕ
all_but_last [] = []
all_but_last (id ∷ []) = []
all_but_last (id ∷ next ∷ rest) = id ∷ all_but_last (next ∷ rest)

-- the page that is routed at the separator is being removed
abbrev pub is_leaving_at : List SlotValue → Option Pid → Bool
is_leaving_at slots None = false
is_leaving_at slots (Some child) = is_leaving (slot_in slots child.0).stage

-- the separator is no key of an entry, or the first one's, or that of a child that is being removed
abbrev pub is_bad_key : SlotValue → Bool → ℕ → Bool
is_bad_key slot child_leaving separator =
    not (is_some (at separator (pairs_in slot)) || is_some (at separator (routes_in slot)))
    || (starts_at separator (pairs_in slot) || starts_at separator (routes_in slot))
    || child_leaving

abbrev pub is_bad_separator : List SlotValue → SlotValue → ℕ → Bool
is_bad_separator slots slot separator =
    is_bad_key slot (is_leaving_at slots (at separator (routes_in slot))) separator

-- the base of a new root over the old one and the child
abbrev pub root_page : ℕ → ℕ → ℕ → Page
root_page root low child =
    record {
      low = 0;
      high = Top;
      right = None;
      listed = routes_of ((0, record { 0 = root }) ∷ (low, record { 0 = child }) ∷ []);
    }

-- The reasons against each step, by the slots of the pages that it names.

-- the page isn't in a row, or has another version than was seen, or is being removed
abbrev pub open_reasons : SlotValue → ℕ → List (Option Refused)
open_reasons slot seen = absent (slot ∷ []) ∷ stale ((slot, seen) ∷ []) ∷ frozen slot ∷ []

-- the page isn't open, or is no leaf, or its range doesn't hold the key
abbrev pub leaf_reasons : SlotValue → ℕ → ℕ → List (Option Refused)
leaf_reasons slot seen key =
    open_reasons slot seen ++ when (nat_lt 0 slot.level) WrongKind
    ∷ when (is_outside slot key) OutOfRange ∷ []

-- no further record may stand on the chain, or the version or the book's number is used up
abbrev pub change_reasons : SlotValue → ℕ → List (Option Refused)
change_reasons slot number = when (is_full slot) Deep ∷ worn_change slot number ∷ []

-- there is no slot for the new page, or a version is used up
abbrev pub room_reasons : SlotValue → SlotValue → Bool → List (Option Refused)
room_reasons slot new no_room = when no_room TableFull ∷ worn (slot ∷ new ∷ []) ∷ []

abbrev pub insert_reasons : SlotValue → ℕ → ℕ → ℕ → List (Option Refused)
insert_reasons slot number seen key =
    leaf_reasons slot seen key ++ option_map Present (at key (pairs_in slot))
    ∷ change_reasons slot number

-- Delete and Modify change a key that is there
abbrev pub found_reasons : SlotValue → ℕ → ℕ → ℕ → List (Option Refused)
found_reasons slot number seen key =
    leaf_reasons slot seen key ++ when (is_none (at key (pairs_in slot))) NoKey
    ∷ change_reasons slot number

abbrev pub consolidate_reasons : SlotValue → ℕ → Page → List (Option Refused)
consolidate_reasons slot seen base =
    open_reasons slot seen ++ when (is_other_kind base slot) WrongKind
    ∷ when (not (is_same_page base (page_for (chain_in slot)))) NotSame ∷ worn (slot ∷ []) ∷ []

-- the child routed at the separator may be leaving, the free list may
-- be empty, and the new page takes a slot
abbrev pub split_reasons : SlotValue → SlotValue → Bool → Bool → ℕ → ℕ → Page
    → List (Option Refused)
split_reasons slot new child_leaving no_room seen separator base =
    open_reasons slot seen ++ when (is_other_kind base slot) WrongKind
    ∷ when (is_outside slot separator) OutOfRange
    ∷ when (nat_lt 0 slot.depth) NotBare
    ∷ when (is_bad_key slot child_leaving separator) BadSeparator
    ∷ when (not (is_same_page base (upper_part separator (page_for (chain_in slot))))) NotSame
    ∷ room_reasons slot new no_room

abbrev pub term_add_reasons : SlotValue → SlotValue → ℕ → ℕ → List (Option Refused)
term_add_reasons over under parent_seen child_seen =
    absent (over ∷ under ∷ []) ∷ stale ((over, parent_seen) ∷ (under, child_seen) ∷ [])
    ∷ frozen over ∷ when (not (over.level == under.level + 1)) WrongKind
    ∷ when (not (is_unposted under.stage)) WrongStage ∷ when (is_outside over under.low) WrongParent
    ∷ option_map TermStands (at under.low (routes_in over))
    ∷ when (is_full over) Deep ∷ worn (over ∷ under ∷ []) ∷ []

-- the base is to be the new root's, which takes a slot
abbrev pub grow_reasons : SlotValue → SlotValue → SlotValue → Bool → ℕ → Page → Page
    → List (Option Refused)
grow_reasons under root new no_room seen base wanted =
    absent (under ∷ []) ∷ stale ((under, seen) ∷ []) ∷ when (lists_pairs base.listed) WrongKind
    ∷ when (not (is_same_page base wanted)) NotSame
    ∷ when (not (is_unposted under.stage)) WrongStage
    ∷ when (not (under.level == root.level)) WrongParent
    ∷ when (nat_le MAX_LEVEL root.level) TooTall ∷ room_reasons under new no_room

abbrev pub mark_reasons : SlotValue → SlotValue → ℕ → List (Option Refused)
mark_reasons slot over seen =
    absent (slot ∷ over ∷ []) ∷ stale ((slot, seen) ∷ []) ∷ frozen slot
    ∷ when (not (over.level == slot.level + 1)) WrongKind
    ∷ when (not (is_plainly_posted slot.stage)) WrongStage
    ∷ when (is_outside over slot.low) WrongParent ∷ when (slot.low == over.low) Leftmost
    ∷ when (nat_lt (MAX_DEPTH - 2) slot.depth) Deep ∷ worn (slot ∷ []) ∷ []

abbrev pub merge_reasons : SlotValue → SlotValue → ℕ → ℕ → ℕ → List (Option Refused)
merge_reasons into slot left_seen page_seen page =
    absent (into ∷ slot ∷ []) ∷ stale ((into, left_seen) ∷ (slot, page_seen) ∷ []) ∷ frozen into
    ∷ when (not (into.level == slot.level)) WrongKind
    ∷ when (not (is_marked slot.stage)) WrongStage
    ∷ when (not (is_same_link into.right (Some (record { 0 = page })))) NotNeighbours
    ∷ when (nat_le MAX_DEPTH (max into.depth slot.depth)) Deep ∷ worn (into ∷ slot ∷ []) ∷ []

abbrev pub term_delete_reasons : SlotValue → SlotValue → ℕ → ℕ → List (Option Refused)
term_delete_reasons over under parent_seen child_seen =
    when (not (is_in_row over.stage) || is_free under.stage) Absent
    ∷ stale ((over, parent_seen) ∷ (under, child_seen) ∷ []) ∷ frozen over
    ∷ when (not (over.level == under.level + 1)) WrongKind
    ∷ when (not (is_merged under.stage)) WrongStage ∷ when (is_outside over under.low) WrongParent
    ∷ when (is_full over) Deep ∷ worn (over ∷ under ∷ []) ∷ []

abbrev pub reasons : TableValue → Proposal → List (Option Refused)
reasons table (insert page seen key value) =
    insert_reasons (slot_at table page) (number_of table.book) seen key
reasons table (delete page seen key) =
    found_reasons (slot_at table page) (number_of table.book) seen key
reasons table (modify page seen key value) =
    found_reasons (slot_at table page) (number_of table.book) seen key
reasons table (consolidate page seen base) = consolidate_reasons (slot_at table page) seen base
reasons table (split page seen separator base) =
    split_reasons (slot_at table page) (slot_at table (new_id table))
    (is_leaving_at table.slots (at separator (routes_in (slot_at table page))))
    (is_none (last_id table.free)) seen separator base
reasons table (term_add parent parent_seen child child_seen) =
    term_add_reasons (slot_at table parent) (slot_at table child) parent_seen child_seen
reasons table (grow child seen base) =
    grow_reasons (slot_at table child) (slot_at table table.root) (slot_at table (new_id table))
    (is_none (last_id table.free)) seen base
    (root_page table.root (slot_at table child).low child)
reasons table (mark page seen parent) =
    mark_reasons (slot_at table page) (slot_at table parent) seen
reasons table (merge left left_seen page page_seen) =
    merge_reasons (slot_at table left) (slot_at table page) left_seen page_seen page
reasons table (term_delete parent parent_seen child child_seen) =
    term_delete_reasons (slot_at table parent) (slot_at table child) parent_seen child_seen

-- the refusals that a step can meet, by their numbers
abbrev pub refusals_of : Proposal → List ℕ
refusals_of (insert page seen key value) = 1 ∷ 2 ∷ 3 ∷ 4 ∷ 5 ∷ 6 ∷ 15 ∷ 18 ∷ []
refusals_of (delete page seen key) = 1 ∷ 2 ∷ 3 ∷ 4 ∷ 5 ∷ 6 ∷ 15 ∷ 18 ∷ []
refusals_of (modify page seen key value) = 1 ∷ 2 ∷ 3 ∷ 4 ∷ 5 ∷ 6 ∷ 15 ∷ 18 ∷ []
refusals_of (consolidate page seen base) = 1 ∷ 2 ∷ 3 ∷ 4 ∷ 9 ∷ 18 ∷ []
refusals_of (split page seen separator base) = 1 ∷ 2 ∷ 3 ∷ 4 ∷ 5 ∷ 7 ∷ 8 ∷ 9 ∷ 17 ∷ 18 ∷ []
refusals_of (term_add parent parent_seen child child_seen) =
    1 ∷ 2 ∷ 3 ∷ 4 ∷ 10 ∷ 11 ∷ 12 ∷ 15 ∷ 18 ∷ []
refusals_of (grow child seen base) = 1 ∷ 2 ∷ 4 ∷ 9 ∷ 10 ∷ 11 ∷ 16 ∷ 17 ∷ 18 ∷ []
refusals_of (mark page seen parent) = 1 ∷ 2 ∷ 3 ∷ 4 ∷ 10 ∷ 11 ∷ 13 ∷ 15 ∷ 18 ∷ []
refusals_of (merge left left_seen page page_seen) = 1 ∷ 2 ∷ 3 ∷ 4 ∷ 10 ∷ 14 ∷ 15 ∷ 18 ∷ []
refusals_of (term_delete parent parent_seen child child_seen) =
    1 ∷ 2 ∷ 3 ∷ 4 ∷ 10 ∷ 11 ∷ 15 ∷ 18 ∷ []

-- the first reason to refuse the step
abbrev pub refusal : TableValue → Proposal → Option Refused
refusal table step = first_reason (reasons table step)
