-- A change of a key and the consolidation of its page, one after the other, as one call does them.
use Rattle.std.specs.Prelude.{◌≡◌, ℕ, suc, ◌+◌, ◌-◌, ◌<◌, ◌≤◌, ◌^◌, nat_lt, Bool, true, false, List, [], ◌∷◌, ◌++◌, slice_set, length, ◌≢◌, Option, Some, None, is_none, is_some, option_map, unwrap_or}
use Rattle.bw_keys.specs.declared.page.Pid.{Pid}
use Rattle.bw_keys.specs.declared.range.Fence.TheVariants.{Key}
use Rattle.bw_keys.specs.Ranges.{is_within}
use Rattle.bw_keys.specs.Reasons.{when}
use Rattle.bw_delta.specs.declared.chain.Delta.{Delta}
use Rattle.bw_delta.specs.declared.chain.Delta.TheVariants as deltas
use Rattle.bw_delta.specs.Entries.{at, last_below}
use Rattle.bw_delta.specs.Fence.{fences}
use Rattle.bw_delta.specs.Pages.{Page, listed_length, upper_part}
use Rattle.bw_delta.specs.Records.{bare, above, depth}
use Rattle.bw_delta.specs.Sound.{LiesIn, page_for}
use Rattle.bw_chain.specs.Pages.Halves.{listed_key_at, listed_middle_key}
use Rattle.bw_chain.specs.InPlaces.{joined_chain}
use Rattle.bw_keys.specs.declared.wished.Wished.{Wished}
use Rattle.bw_keys.specs.declared.wished.Wished.TheVariants as wishes
use Rattle.bw_step.specs.declared.action.Unperformed.{Unperformed}
use Rattle.bw_step.specs.declared.action.Unperformed.TheVariants.{Denied, StepByStep}
use Rattle.bw_step.specs.declared.fault.Denied.TheVariants as denials
use Rattle.bw_step.specs.declared.receipt.Kind.TheVariants as kinds
use Rattle.bw_step.specs.declared.receipt.Receipt.{Receipt}
use Rattle.bw_step.specs.declared.receipt.Receipt.TheVariants.{Inserted, Deleted, Modified, Looked, Shaped}
use Rattle.bw_step.specs.declared.refused.Refused.{Refused}
use Rattle.bw_step.specs.declared.refused.Refused.TheVariants.{OutOfRange, NotBare, BadSeparator}
use Rattle.bw_step.specs.declared.view.Stage.TheVariants.{Posted, Unposted}
use Rattle.bw_step.specs.Proposals.{Proposal, insert, delete, modify, consolidate, split, term_add, mark, merge, term_delete}
use Rattle.bw_law.specs.Effects.{with_record, with_stage, cut_before, upper_half, consolidated, pid}
use Rattle.bw_law.specs.Refusals.{is_bad_key, is_leaving_at, is_outside, last_id, new_id, open_reasons, room_reasons}
use Rattle.bw_law.specs.Runs.{TakesInTurn}
use Rattle.bw_law.specs.Slots.{SlotValue, slot_in, free_slot, chain_in, pairs_in, routes_in}
use Rattle.bw_law.specs.Tables.{TableValue, slot_at, number_of}

-- Why something isn't done in one hold that may be done where this is true: it isn't true, or it is
-- and memory is short.
abbrev pub IsWhyUndone : Type 0 → Unperformed → Type 0
IsWhyUndone May StepByStep = May → ⊥
IsWhyUndone May (Denied denials.NoMemory) = May
IsWhyUndone May (Denied (denials.Refused reason)) = ⊥

-- a posted leaf whose range holds the key
pub record IsPostedLeaf (slot : SlotValue) (key : ℕ) : Type 0 where
  pub posted : slot.stage ≡ Posted
  pub leaf : slot.level ≡ 0
  pub within : is_within slot.low slot.high key ≡ true

-- the page is such a leaf; its version can rise twice, and the book's number once
pub record MayChangeAtOnce (table : TableValue) (page key : ℕ) : Type 0 where
  pub leaf : IsPostedLeaf (slot_at table page) key
  pub version : (slot_at table page).version + 2 < 2 ^ 64
  pub number : number_of table.book + 1 < 2 ^ 64

-- the numbers of a slot can rise, and its chain takes the key
pub record TakesInPlace (slot : SlotValue) (key : ℕ) : Type 0 where
  pub version : slot.version + 2 < 2 ^ 64
  pub count : slot.count + 1 < 2 ^ 64
  pub within : LiesIn key (fences (chain_in slot))

-- a posted inner page without records takes the term of a page below it
-- that has none yet; the versions can rise
pub record MayPostAtOnce (over under : SlotValue) : Type 0 where
  pub over_posted : over.stage ≡ Posted
  pub unposted : under.stage ≡ Unposted
  pub above : over.level ≡ under.level + 1
  pub no_records : over.depth ≡ 0
  pub within : is_within over.low over.high under.low ≡ true
  pub version : over.version + 2 < 2 ^ 64
  pub under_version : under.version + 1 < 2 ^ 64

-- the numbers of the parent's slot can rise, and its chain takes a term of the child
abbrev pub TakesTerm : List SlotValue → ℕ → ℕ → Type 0
TakesTerm slots parent child = TakesInPlace (slot_in slots parent) (slot_in slots child).low

-- no term of the parent begins where the child does
abbrev pub HasNoTerm : List SlotValue → ℕ → ℕ → Type 0
HasNoTerm slots parent child =
    at (slot_in slots child).low (routes_in (slot_in slots parent)) ≡ None

-- the parent takes the term of the child, and has none yet that begins where the child does
pub record MayPost (slots : List SlotValue) (parent child : ℕ) : Type 0 where
  pub takes : MayPostAtOnce (slot_in slots parent) (slot_in slots child)
  pub absent : HasNoTerm slots parent child

-- a posted page without records has the separator as a later key, and its version can rise twice
pub record MayCut (slot : SlotValue) (separator : ℕ) : Type 0 where
  pub posted : slot.stage ≡ Posted
  pub no_records : slot.depth ≡ 0
  pub within : is_within slot.low slot.high separator ≡ true
  pub after_low : slot.low < separator
  pub good : is_bad_key slot false separator ≡ false
  pub version : slot.version + 2 < 2 ^ 64

-- the slot's version can rise twice, and its chain, which has no records, can end at the separator
pub record TakesCut (slot : SlotValue) (separator : ℕ) : Type 0 where
  pub version : slot.version + 2 < 2 ^ 64
  pub chain : is_some slot.chain ≡ true
  pub no_records : depth (chain_in slot) ≡ 0
  pub within : LiesIn separator (fences (chain_in slot))
  pub after_low : (fences (chain_in slot)).low < separator

-- a posted page without records may be split at the separator, and there is a slot
-- for the new page; the versions can rise
pub record MaySplitAtOnce (table : TableValue) (page separator : ℕ) : Type 0 where
  pub cut : MayCut (slot_at table page) separator
  pub staying : is_leaving_at table.slots (at separator (routes_in (slot_at table page))) ≡ false
  pub room : last_id table.free ≡ Some (new_id table)
  pub new_version : (slot_at table (new_id table)).version + 1 < 2 ^ 64

-- the page may be split at the key of its entry with the number, counted from 0
pub record MaySplitBefore (table : TableValue) (page number : ℕ) : Type 0 where
  pub separator : ℕ
  pub its_key : listed_key_at number (page_for (chain_in (slot_at table page))).listed
      ≡ Some separator
  pub splits : MaySplitAtOnce table page separator

-- the number of entries with what the record makes of them
abbrev pub count_after : Delta → ℕ → ℕ
count_after (deltas.Insert key value) count = suc count
count_after (deltas.Modify key value) count = count
count_after (deltas.Delete key) count = count - 1
count_after (deltas.Split separator right) count = count
count_after deltas.Remove count = count
count_after (deltas.TermAdd separator child) count = suc count
count_after (deltas.TermDelete separator) count = count - 1

-- the page with a record more, consolidated; the page as it is where there is no record
abbrev pub slot_with : Option Delta → SlotValue → SlotValue
slot_with None slot = slot
slot_with (Some delta) slot =
    consolidated (page_for (above delta (chain_in slot)))
    (with_record delta (count_after delta slot.count) slot)

-- the receipt of a record on a page after n changes, and of a look where there is no record
abbrev pub receipt_for : ℕ → ℕ → Option ℕ → Option Delta → Receipt
receipt_for number key had None = Looked number key had
receipt_for number key had (Some (deltas.Insert k value)) = Inserted (suc number) k value
receipt_for number key had (Some (deltas.Modify k value)) =
    Modified (suc number) k (unwrap_or had 0) value
receipt_for number key had (Some (deltas.Delete k)) = Deleted (suc number) k (unwrap_or had 0)
receipt_for number key had (Some (deltas.Split separator right)) = Looked number key had
receipt_for number key had (Some deltas.Remove) = Looked number key had
receipt_for number key had (Some (deltas.TermAdd separator child)) = Looked number key had
receipt_for number key had (Some (deltas.TermDelete separator)) = Looked number key had

-- the step that carries out the wish on a page of the version, for a key that had the value, or
-- none: no step where there is nothing to do
abbrev pub step_for : ℕ → ℕ → ℕ → Wished → Option ℕ → Option Proposal
step_for page seen key (wishes.Put value) None = Some (insert page seen key value)
step_for page seen key (wishes.Put value) (Some had) = None
step_for page seen key (wishes.Set value) None = Some (insert page seen key value)
step_for page seen key (wishes.Set value) (Some had) = Some (modify page seen key value)
step_for page seen key wishes.Delete None = None
step_for page seen key wishes.Delete (Some had) = Some (delete page seen key)

-- a step with its receipt, and after it the consolidation of a page
abbrev pub both_steps : Proposal → Receipt → ℕ → ℕ → Page → List (Proposal × Receipt)
both_steps step receipt page seen base =
    (step, receipt) ∷ (consolidate page seen base, Shaped kinds.Consolidate (pid page) None) ∷ []

-- the table took the step, and then the consolidation of the page; neither was refused
pub record TakesBoth (old : TableValue) (step : Proposal) (receipt : Receipt) (page : ℕ)
    (new : TableValue) : Type 0 where
  pub seen : ℕ
  pub base : Page
  pub takes : TakesInTurn old (both_steps step receipt page seen base) new

-- one look and no change, or both steps
abbrev pub LooksOrTakes : TableValue → ℕ → Receipt → Receipt → TableValue → Option Proposal → Type 0
LooksOrTakes old page look receipt new None = (receipt ≡ look) × (new ≡ old)
LooksOrTakes old page look receipt new (Some step) = TakesBoth old step receipt page new

-- the wish was carried out on the page
abbrev pub IsDoneAtOnce : TableValue → ℕ → ℕ → Wished → Receipt → TableValue → Type 0
IsDoneAtOnce old page key wished receipt new =
    let slot = slot_at old page in
    let had = at key (pairs_in slot) in
    LooksOrTakes old page (Looked (number_of old.book) key had) receipt new
    (step_for page slot.version key wished had)

-- the consolidation of a page as it is
abbrev pub consolidating : TableValue → ℕ → ℕ → Proposal
consolidating table page seen = consolidate page seen (page_for (chain_in (slot_at table page)))

-- the split of a page at a separator: the new page takes the page's entries from there on
abbrev pub halving : TableValue → ℕ → ℕ → ℕ → Proposal
halving table page seen separator =
    split page seen separator (upper_part separator (page_for (chain_in (slot_at table page))))

-- the reasons not to split an open page at a separator, but for those of a wrong base
abbrev pub halving_reasons : SlotValue → SlotValue → Bool → Bool → ℕ → List (Option Refused)
halving_reasons slot new child_leaving no_room separator =
    when (is_outside slot separator) OutOfRange ∷ when (nat_lt 0 slot.depth) NotBare
    ∷ when (is_bad_key slot child_leaving separator) BadSeparator ∷ room_reasons slot new no_room

-- the reasons not to split a page in half where it lies: at the key of
-- its middle entry, if it has two entries
abbrev pub half_reasons : TableValue → ℕ → ℕ → List (Option Refused)
half_reasons table page seen =
    let slot = slot_at table page in
    let listed = (page_for (chain_in slot)).listed in
    let separator = unwrap_or (listed_middle_key listed) 0 in
    open_reasons slot seen ++ when (nat_lt 0 slot.depth) NotBare
    ∷ when (nat_lt (listed_length listed) 2) BadSeparator
    ∷ halving_reasons slot (slot_at table (new_id table))
    (is_leaving_at table.slots (at separator (routes_in slot))) (is_none (last_id table.free))
    separator

-- the page that ends before the separator, consolidated, where this
-- many of its entries go to the new page
abbrev pub slot_cut : ℕ → Pid → ℕ → SlotValue → SlotValue
slot_cut separator new count slot =
    consolidated (page_for (above (deltas.Split separator new) (chain_in slot)))
    (cut_before separator new count slot)

-- the page has taken in a record, if there is one
abbrev pub slots_with : ℕ → Option Delta → List SlotValue → List SlotValue
slots_with page delta slots = slice_set slots page (slot_with delta (slot_in slots page))

-- the parent has a term of the child, which is posted, and is consolidated
abbrev pub slots_posted_at_once : ℕ → Pid → List SlotValue → List SlotValue
slots_posted_at_once parent child slots =
    let over = slot_in slots parent in
    let under = slot_in slots child.0 in
    slice_set (slice_set slots parent (slot_with (Some (deltas.TermAdd under.low child)) over))
    child.0 (with_stage Posted under)

-- the page ends before the separator and is consolidated, and the new one has the rest
abbrev pub slots_split_at_once : ℕ → Pid → ℕ → Page → List SlotValue → List SlotValue
slots_split_at_once page new separator base slots =
    let slot = slot_in slots page in
    slice_set (slice_set slots page (slot_cut separator new (listed_length base.listed) slot)) new.0
    (upper_half (slot_in slots new.0).version separator base slot)

-- the page was split at the key of its entry with the number, counted from 0, and then consolidated
pub record IsSplitAtOnce (old : TableValue) (page number : ℕ) (receipt : Receipt)
    (new : TableValue) : Type 0 where
  pub separator : ℕ
  pub base : Page
  pub its_key : listed_key_at number (page_for (chain_in (slot_at old page))).listed
      ≡ Some separator
  pub takes : TakesBoth old (split page (slot_at old page).version separator base) receipt page new

-- both steps that name the new page in the parent, or nothing
abbrev pub IsPosted : TableValue → ℕ → Pid → Bool → TableValue → Type 0
IsPosted old parent new_page true new =
    TakesBoth old
    (term_add parent (slot_at old parent).version new_page.0 (slot_at old new_page.0).version)
    (Shaped kinds.TermAdd (pid parent) (Some new_page)) parent new
IsPosted old parent new_page false new = new ≡ old

-- The page was split and consolidated, and then the new page was named in the
-- parent, which was consolidated, or wasn't.
pub record IsSplitUnder (old : TableValue) (parent page number : ℕ) (new_page : Pid) (posted : Bool)
    (new : TableValue) : Type 0 where
  pub between : TableValue
  pub split : IsSplitAtOnce old page number (Shaped kinds.Split (pid page) (Some new_page)) between
  pub post : IsPosted between parent new_page posted new

-- a posted page without records
pub record IsBare (slot : SlotValue) : Type 0 where
  pub posted : slot.stage ≡ Posted
  pub no_records : slot.depth ≡ 0

-- the page is one level above the other, and begins before that one does, which begins in its range
pub record IsOver (over slot : SlotValue) : Type 0 where
  pub above : over.level ≡ slot.level + 1
  pub within : is_within over.low over.high slot.low ≡ true
  pub after_low : over.low < slot.low

-- the page links to the other, and the entries of both can be counted and aren't more than that
pub record IsLeftOf (into slot : SlotValue) (page most : ℕ) : Type 0 where
  pub link : into.right ≡ Some (pid page)
  pub count : into.count + slot.count < 2 ^ 64
  pub fits : into.count + slot.count ≤ most

-- a bare page under another one and the one on its left, which are bare too; the versions can rise
pub record MayMerge (over into slot : SlotValue) (page most : ℕ) : Type 0 where
  pub over_bare : IsBare over
  pub left_bare : IsBare into
  pub bare : IsBare slot
  pub under : IsOver over slot
  pub left : IsLeftOf into slot page most
  pub over_version : over.version + 2 < 2 ^ 64
  pub left_version : into.version + 2 < 2 ^ 64
  pub version : slot.version + 3 < 2 ^ 64

abbrev pub MayMergeUnder : TableValue → ℕ → ℕ → ℕ → Type 0
MayMergeUnder table parent left page =
    MayMerge (slot_at table parent) (slot_at table left) (slot_at table page) page
    table.config.fanout

-- the page of the parent's route before the one where the page begins
abbrev pub left_under : TableValue → ℕ → ℕ → Option Pid
left_under table parent page =
    option_map (λ route. route.1)
    (last_below (slot_at table page).low (routes_in (slot_at table parent)))

-- the page may be merged under the parent into the page of the route before
pub record MayMergeLeft (table : TableValue) (parent page : ℕ) : Type 0 where
  pub left : Pid
  pub before : left_under table parent page ≡ Some left
  pub merges : MayMergeUnder table parent left.0 page

-- the numbers of the slot can rise, and its chain ends where the right one begins
pub record Meets (into right : SlotValue) : Type 0 where
  pub version : into.version + 2 < 2 ^ 64
  pub count : into.count + right.count < 2 ^ 64
  pub meets : (fences (chain_in into)).high ≡ Key (fences (chain_in right)).low

-- the version of the slot can rise twice, and it has a chain without records
pub record LosesTerm (slot : SlotValue) : Type 0 where
  pub version : slot.version + 2 < 2 ^ 64
  pub chain : is_some slot.chain ≡ true
  pub no_records : depth (chain_in slot) ≡ 0

-- three slots of such pages, and the version of the one that goes can rise
pub record MergesIn (slots : List SlotValue) (parent left page : ℕ) : Type 0 where
  pub parent_exists : parent < length slots
  pub left_exists : left < length slots
  pub exists : page < length slots
  pub parent_apart : parent ≢ page
  pub left_apart : left ≢ page
  pub parent_other : parent ≢ left
  pub version : (slot_in slots page).version + 3 < 2 ^ 64
  pub meets : Meets (slot_in slots left) (slot_in slots page)
  pub loses : LosesTerm (slot_in slots parent)

-- the left page with the other taken in, consolidated
abbrev pub slot_joined : SlotValue → SlotValue → SlotValue
slot_joined into slot = record into {
  version = suc (suc into.version);
  high = slot.high;
  right = slot.right;
  count = into.count + slot.count;
  depth = 0;
  chain = Some (bare (page_for (joined_chain (chain_in into) (chain_in slot))));
}

-- the page is in its left neighbour, and its slot is free; the parent has no term of it
abbrev pub slots_merged_at_once : ℕ → ℕ → ℕ → List SlotValue → List SlotValue
slots_merged_at_once parent left page slots =
    let slot = slot_in slots page in
    slice_set (slice_set (slice_set slots page (free_slot (slot.version + 3))) left
    (slot_joined (slot_in slots left) slot)) parent
    (slot_with (Some (deltas.TermDelete slot.low)) (slot_in slots parent))

-- the entries of both pages aren't more than a page may have
abbrev pub FitsInto : TableValue → ℕ → ℕ → Type 0
FitsInto table left page =
    (slot_at table left).count + (slot_at table page).count ≤ table.config.fanout

-- the steps that take a page out, with their receipts: it is marked, and its left neighbour takes
-- it in and is consolidated; then the parent loses its term and is consolidated
abbrev pub merging_steps : TableValue → ℕ → ℕ → ℕ → Page → Page → List (Proposal × Receipt)
merging_steps table parent left page base over =
    let seen = (slot_at table page).version in
    let left_seen = (slot_at table left).version in
    let parent_seen = (slot_at table parent).version in
    (mark page seen parent, Shaped kinds.Mark (pid page) None)
    ∷ (merge left left_seen page (suc seen), Shaped kinds.Merge (pid left) (Some (pid page)))
    ∷ (consolidate left (suc left_seen) base, Shaped kinds.Consolidate (pid left) None)
    ∷ (
      term_delete parent parent_seen page (suc (suc seen)),
      Shaped kinds.TermDelete (pid parent) (Some (pid page)),
    )
    ∷ (consolidate parent (suc parent_seen) over, Shaped kinds.Consolidate (pid parent) None)
    ∷ []

-- The page was taken in to the left page under the parent, by all five steps; none was refused.
pub record IsMergedUnder (old : TableValue) (parent page : ℕ) (left : Pid)
    (new : TableValue) : Type 0 where
  pub base : Page
  pub over : Page
  pub takes : TakesInTurn old (merging_steps old parent left.0 page base over) new
