-- An entry of the mapping table as contracts see it.
use Rattle.std.specs.Prelude.{ℕ, ◌-◌, ◌^◌, Bool, true, false, List, [], Option, None, slice_index_or, unwrap_or, option_map}
use Rattle.bw_keys.specs.declared.range.Fence.{Fence}
use Rattle.bw_keys.specs.declared.range.Fence.TheVariants.{Top}
use Rattle.bw_keys.specs.declared.page.Pid.{Pid}
use Rattle.bw_delta.specs.Pages.{Page, pairs_of}
use Rattle.bw_delta.specs.Records.{Records, bare}
use Rattle.bw_delta.specs.Pairs.{pairs, routes}
use Rattle.bw_step.specs.declared.view.Stage.{Stage}
use Rattle.bw_step.specs.declared.view.Stage.TheVariants.{Free, Unposted, Posted, Marked, Merged}

-- The summary of a page, and its chain: a page in a row has one.
pub record SlotValue : Type 0 where
  pub version : ℕ
  pub stage : Stage
  pub low : ℕ
  pub high : Fence
  pub right : Option Pid
  pub level : ℕ
  pub count : ℕ
  pub depth : ℕ
  pub chain : Option Records

-- a slot of no page
abbrev pub free_slot : ℕ → SlotValue
free_slot version =
    record {
      version = version;
      stage = Free;
      low = 0;
      high = Top;
      right = None;
      level = 0;
      count = 0;
      depth = 0;
      chain = None;
    }

-- the slot of a page; past the end every slot is free
abbrev pub slot_in : List SlotValue → ℕ → SlotValue
slot_in slots page = slice_index_or slots page (free_slot 0)

-- the leaf for all keys that has no pairs
abbrev pub empty_page : Page
empty_page = record { low = 0; high = Top; right = None; listed = pairs_of [] }

-- the chain of a slot, or an empty one where there is none
abbrev pub chain_in : SlotValue → Records
chain_in slot = unwrap_or slot.chain (bare empty_page)

abbrev pub pairs_in : SlotValue → List (ℕ × ℕ)
pairs_in slot = unwrap_or (option_map pairs slot.chain) []

abbrev pub routes_in : SlotValue → List (ℕ × Pid)
routes_in slot = unwrap_or (option_map routes slot.chain) []

-- the greatest number that a version or the book may have
abbrev pub last_number : ℕ
last_number = 2 ^ 64 - 1

abbrev pub is_free : Stage → Bool
is_free Free = true
is_free Unposted = false
is_free Posted = false
is_free Marked = false
is_free Merged = false

abbrev pub is_unposted : Stage → Bool
is_unposted Free = false
is_unposted Unposted = true
is_unposted Posted = false
is_unposted Marked = false
is_unposted Merged = false

abbrev pub is_plainly_posted : Stage → Bool
is_plainly_posted Free = false
is_plainly_posted Unposted = false
is_plainly_posted Posted = true
is_plainly_posted Marked = false
is_plainly_posted Merged = false

abbrev pub is_marked : Stage → Bool
is_marked Free = false
is_marked Unposted = false
is_marked Posted = false
is_marked Marked = true
is_marked Merged = false

abbrev pub is_merged : Stage → Bool
is_merged Free = false
is_merged Unposted = false
is_merged Posted = false
is_merged Marked = false
is_merged Merged = true
