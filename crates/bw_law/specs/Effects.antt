-- What an accepted step makes of the table, and its receipt.
use Rattle.std.specs.Prelude.{◌≡◌, ℕ, suc, ◌+◌, ◌-◌, ◌==◌, max, if◌then◌else◌, List, [], ◌∷◌, ◌++◌, Option, Some, None, option_map, unwrap_or, slice_set}
use Rattle.bw_keys.specs.declared.range.Fence.TheVariants.{Key}
use Rattle.bw_keys.specs.declared.page.Pid.{Pid}
use Rattle.bw_delta.specs.declared.chain.Delta.{Delta}
use Rattle.bw_delta.specs.declared.chain.Delta.TheVariants.{Insert, Modify, Delete, Split, Remove, TermAdd, TermDelete}
use Rattle.bw_delta.specs.declared.chain.Merging.{Merging}
use Rattle.bw_delta.specs.Entries.{at}
use Rattle.bw_delta.specs.Pages.{Page, listed_length}
use Rattle.bw_delta.specs.Records.{Records, bare, above, merged}
use Rattle.bw_step.specs.declared.receipt.Kind.TheVariants as kinds
use Rattle.bw_step.specs.declared.receipt.Receipt.{Receipt}
use Rattle.bw_step.specs.declared.receipt.Receipt.TheVariants.{Inserted, Deleted, Modified, Shaped}
use Rattle.bw_step.specs.declared.view.Stage.{Stage}
use Rattle.bw_step.specs.declared.view.Stage.TheVariants.{Unposted, Posted, Marked, Merged}
use Rattle.bw_step.specs.Proposals.{Proposal, insert, delete, modify, consolidate, split, term_add, grow, mark, merge, term_delete}
use Rattle.bw_step.specs.Tellings.{telling_of}
use Rattle.bw_law.specs.Slots.{SlotValue, slot_in, free_slot, pairs_in, last_number}
use Rattle.bw_law.specs.Tables.{TableValue, slot_at, number_of, book_with}
use Rattle.bw_law.specs.Refusals.{new_id, all_but_last}

-- the slot with a record more on its chain, and the count that this makes
abbrev pub with_record : Delta → ℕ → SlotValue → SlotValue
with_record delta count slot =
    record slot {
      version = suc slot.version;
      count = count;
      depth = suc slot.depth;
      chain = option_map (above delta) slot.chain;
    }

abbrev pub with_stage : Stage → SlotValue → SlotValue
with_stage stage slot = record slot { version = suc slot.version; stage = stage }

-- the base alone, which lists what the chain did
abbrev pub consolidated : Page → SlotValue → SlotValue
consolidated base slot =
    record slot { version = suc slot.version; depth = 0; chain = Some (bare base) }

-- the page that ends before the separator and links to the new
-- one, where this many of its entries go
abbrev pub cut_before : ℕ → Pid → ℕ → SlotValue → SlotValue
cut_before separator new moved slot =
    record (with_record (Split separator new) (slot.count - moved) slot)
    { high = Key separator; right = Some new }

-- the page below the separator, when the base goes to the new page
abbrev pub lower_half : ℕ → Pid → Page → SlotValue → SlotValue
lower_half separator new base slot = cut_before separator new (listed_length base.listed) slot

-- the new page, in a slot that had the version
abbrev pub upper_half : ℕ → ℕ → Page → SlotValue → SlotValue
upper_half version separator base slot = record {
  version = suc version;
  stage = Unposted;
  low = separator;
  high = slot.high;
  right = slot.right;
  level = slot.level;
  count = listed_length base.listed;
  depth = 0;
  chain = Some (bare base);
}

-- the new root, in a slot that had the version, one level above the old one
abbrev pub grown_root : ℕ → ℕ → Page → SlotValue
grown_root version level base =
    record (free_slot (suc version)) {
      stage = Posted;
      level = suc level;
      count = listed_length base.listed;
      chain = Some (bare base);
    }

abbrev pub marked : SlotValue → SlotValue
marked slot = record (with_record Remove slot.count slot) { stage = Marked }

abbrev pub merging_of : SlotValue → Merging
merging_of slot = record { separator = slot.low; high = slot.high; right = slot.right }

abbrev pub merged_chains : Merging → Option Records → Option Records → Option Records
merged_chains merging None taken = None
merged_chains merging (Some left) None = None
merged_chains merging (Some left) (Some taken) = Some (merged merging left taken)

-- the left page, once it has taken in the other
abbrev pub joined : SlotValue → SlotValue → SlotValue
joined into slot = record into {
  version = suc into.version;
  high = slot.high;
  right = slot.right;
  count = into.count + slot.count;
  depth = suc (max into.depth slot.depth);
  chain = merged_chains (merging_of slot) into.chain slot.chain;
}

-- the page that was taken in keeps its low and its level, until its term is taken out
abbrev pub taken_in : SlotValue → SlotValue
taken_in slot =
    record (free_slot (suc slot.version)) { stage = Merged; low = slot.low; level = slot.level }

-- the id of a page whose version is used up isn't taken again
abbrev pub freed : List ℕ → ℕ → ℕ → List ℕ
freed free page version = if version == last_number then free else free ++ page ∷ []

abbrev pub pid : ℕ → Pid
pid page = record { 0 = page }

-- The slots after each step, by the pages that it changes.

-- the page has a pair more
abbrev pub slots_inserted : ℕ → ℕ → ℕ → List SlotValue → List SlotValue
slots_inserted page key value slots =
    let slot = slot_in slots page in
    slice_set slots page (with_record (Insert key value) (suc slot.count) slot)

-- the page has a pair less
abbrev pub slots_deleted : ℕ → ℕ → List SlotValue → List SlotValue
slots_deleted page key slots =
    let slot = slot_in slots page in
    slice_set slots page (with_record (Delete key) (slot.count - 1) slot)

-- the page has another value at the key
abbrev pub slots_modified : ℕ → ℕ → ℕ → List SlotValue → List SlotValue
slots_modified page key value slots =
    let slot = slot_in slots page in
    slice_set slots page (with_record (Modify key value) slot.count slot)

-- the base is the page's chain
abbrev pub slots_consolidated : ℕ → Page → List SlotValue → List SlotValue
slots_consolidated page base slots = slice_set slots page (consolidated base (slot_in slots page))

-- the page ends before the separator, and the new one has the rest
abbrev pub slots_split : ℕ → Pid → ℕ → Page → List SlotValue → List SlotValue
slots_split page new separator base slots =
    let slot = slot_in slots page in
    slice_set (slice_set slots page (lower_half separator new base slot)) new.0
    (upper_half (slot_in slots new.0).version separator base slot)

-- the parent has a term of the child, which is posted
abbrev pub slots_posted : ℕ → Pid → List SlotValue → List SlotValue
slots_posted parent child slots =
    let over = slot_in slots parent in
    let under = slot_in slots child.0 in
    slice_set (slice_set slots parent (with_record (TermAdd under.low child) (suc over.count) over))
    child.0 (with_stage Posted under)

-- the child is posted, and the new page is the root, one level above the old one's
abbrev pub slots_grown : ℕ → ℕ → ℕ → Page → List SlotValue → List SlotValue
slots_grown child new level base slots =
    slice_set (slice_set slots child (with_stage Posted (slot_in slots child))) new
    (grown_root (slot_in slots new).version level base)

-- the page is being removed
abbrev pub slots_marked : ℕ → List SlotValue → List SlotValue
slots_marked page slots = slice_set slots page (marked (slot_in slots page))

-- the left page has taken in the other
abbrev pub slots_merged : ℕ → ℕ → List SlotValue → List SlotValue
slots_merged left page slots =
    let into = slot_in slots left in
    let slot = slot_in slots page in
    slice_set (slice_set slots left (joined into slot)) page (taken_in slot)

-- the parent has no term of the child any more, whose slot is free
abbrev pub slots_unposted : ℕ → ℕ → List SlotValue → List SlotValue
slots_unposted parent child slots =
    let over = slot_in slots parent in
    let under = slot_in slots child in
    slice_set (slice_set slots parent (with_record (TermDelete under.low) (over.count - 1) over))
    child (free_slot (suc under.version))

-- the slots after an accepted step
abbrev pub slots_after : TableValue → Proposal → List SlotValue
slots_after table (insert page seen key value) = slots_inserted page key value table.slots
slots_after table (delete page seen key) = slots_deleted page key table.slots
slots_after table (modify page seen key value) = slots_modified page key value table.slots
slots_after table (consolidate page seen base) = slots_consolidated page base table.slots
slots_after table (split page seen separator base) =
    slots_split page (pid (new_id table)) separator base table.slots
slots_after table (term_add parent parent_seen child child_seen) =
    slots_posted parent (pid child) table.slots
slots_after table (grow child seen base) =
    slots_grown child (new_id table) (slot_at table table.root).level base table.slots
slots_after table (mark page seen parent) = slots_marked page table.slots
slots_after table (merge left left_seen page page_seen) = slots_merged left page table.slots
slots_after table (term_delete parent parent_seen child child_seen) =
    slots_unposted parent child table.slots

-- a split and a grow take a free id, and the id of a page whose term is taken out is free again
abbrev pub free_after : TableValue → Proposal → List ℕ
free_after table (split page seen separator base) = all_but_last table.free
free_after table (grow child seen base) = all_but_last table.free
free_after table (term_delete parent parent_seen child child_seen) =
    freed table.free child (suc (slot_at table child).version)
free_after table step = table.free

-- a grow makes a new root
abbrev pub root_after : TableValue → Proposal → ℕ
root_after table (grow child seen base) = new_id table
root_after table step = table.root

abbrev pub receipt_of : TableValue → Proposal → Receipt
receipt_of table (insert page seen key value) = Inserted (suc (number_of table.book)) key value
receipt_of table (delete page seen key) =
    Deleted (suc (number_of table.book)) key (unwrap_or (at key (pairs_in (slot_at table page))) 0)
receipt_of table (modify page seen key value) =
    Modified (suc (number_of table.book)) key (unwrap_or (at key (pairs_in (slot_at table page))) 0)
    value
receipt_of table (consolidate page seen base) = Shaped kinds.Consolidate (pid page) None
receipt_of table (split page seen separator base) =
    Shaped kinds.Split (pid page) (Some (pid (new_id table)))
receipt_of table (term_add parent parent_seen child child_seen) =
    Shaped kinds.TermAdd (pid parent) (Some (pid child))
receipt_of table (grow child seen base) = Shaped kinds.Grow (pid (new_id table)) (Some (pid child))
receipt_of table (mark page seen parent) = Shaped kinds.Mark (pid page) None
receipt_of table (merge left left_seen page page_seen) =
    Shaped kinds.Merge (pid left) (Some (pid page))
receipt_of table (term_delete parent parent_seen child child_seen) =
    Shaped kinds.TermDelete (pid parent) (Some (pid child))

-- the table after an accepted step: its book counts what the
-- receipt reports, and its configuration stays
abbrev pub after : TableValue → Proposal → TableValue
after table step = record {
  slots = slots_after table step;
  free = free_after table step;
  root = root_after table step;
  book = book_with table.book (telling_of (receipt_of table step));
  config = table.config;
}

-- the accepted step leads from the old table to the new one, and this is its receipt
pub record TakesStep (old : TableValue) (step : Proposal) (receipt : Receipt)
    (new : TableValue) : Type 0 where
  pub leads : new ≡ after old step
  pub reported : receipt ≡ receipt_of old step
