-- What the code that does an accepted step finds: pages that are there, numbers that can rise, chains that can grow.
use Rattle.std.proofs.Common.{◌≡◌, ◌≢◌, ℕ, ◌+◌, ◌<◌, ◌≤◌, ◌^◌, true, length, Some, None, sym, ◌∙◌, ap, subst, arith}
use Rattle.bw_keys.specs.declared.page.TheConstants.{MAX_DEPTH}
use Rattle.bw_keys.specs.Reasons.{first_reason}
use Rattle.bw_delta.specs.Pages.{Page, listed_length}
use Rattle.bw_delta.specs.Records.{depth}
use Rattle.bw_step.specs.declared.place.Place.{Place}
use Rattle.bw_step.specs.declared.steps.insert.Insert.{Insert}
use Rattle.bw_step.specs.declared.steps.delete.Delete.{Delete}
use Rattle.bw_step.specs.declared.steps.modify.Modify.{Modify}
use Rattle.bw_step.specs.declared.steps.consolidate.Consolidate.{Consolidate}
use Rattle.bw_step.specs.declared.steps.split.Split.{Split}
use Rattle.bw_step.specs.declared.steps.term_add.TermAdd.{TermAdd}
use Rattle.bw_step.specs.declared.steps.grow.Grow.{Grow}
use Rattle.bw_step.specs.declared.steps.mark.Mark.{Mark}
use Rattle.bw_step.specs.declared.steps.merge.Merge.{Merge}
use Rattle.bw_step.specs.declared.steps.term_delete.TermDelete.{TermDelete}
use Rattle.bw_step.specs.Proposals.{Proposal}
use Rattle.bw_step.specs.ProposalView.{insert_of, delete_of, modify_of, consolidate_of, split_of, term_add_of, grow_of, mark_of, merge_of, term_delete_of}
use Rattle.bw_step.specs.Stages.{is_in_row}
use Rattle.bw_law.specs.Tables.{TableValue, slot_at, number_of, Lawful}
use Rattle.bw_law.specs.Refusals.{refusal, found_reasons, new_id, last_id}
use Rattle.bw_law.specs.Effects.{after}
use Rattle.bw_law.proofs.Accepted.{insert_accepted, found_accepted, consolidate_accepted, split_accepted, term_add_accepted, grow_accepted, mark_accepted, merge_accepted, term_delete_accepted}
use Rattle.bw_law.proofs.SplitStep.{above_low}
use Rattle.bw_law.proofs.Room.{CanRise, insert_room, found_room, consolidate_room, split_room, term_add_room, grow_room, mark_room, merge_room, term_delete_room}
use Rattle.bw_table.specs.Fields.{no_page}
use Rattle.bw_table.specs.SlotFacts.{MayGrowDeeper}
use Rattle.bw_table.specs.Views.{root_place}
use Rattle.bw_table.specs.Whole.{IsWhole}
use Rattle.bw_table.proofs.Whole.{has_link, whole_after}

pub record DoesInsert (table : TableValue) (page : ℕ) : Type 0 where
  pub exists : page < length table.slots
  pub deeper : MayGrowDeeper (slot_at table page)
  pub count : (slot_at table page).count + 1 < 2 ^ 64
  pub number : number_of table.book + 1 < 2 ^ 64

-- what Delete and Modify find alike
pub record DoesFound (table : TableValue) (page : ℕ) : Type 0 where
  pub exists : page < length table.slots
  pub deeper : MayGrowDeeper (slot_at table page)
  pub count : 0 < (slot_at table page).count
  pub number : number_of table.book + 1 < 2 ^ 64

pub record DoesConsolidate (table : TableValue) (page : ℕ) : Type 0 where
  pub inside : page < length table.slots
  pub in_row : is_in_row (slot_at table page).stage ≡ true
  pub version : (slot_at table page).version + 1 < 2 ^ 64

pub record DoesSplit (table : TableValue) (page separator : ℕ) (base : Page) : Type 0 where
  pub exists : page < length table.slots
  pub deeper : MayGrowDeeper (slot_at table page)
  pub new_exists : new_id table < length table.slots
  pub new_version : (slot_at table (new_id table)).version + 1 < 2 ^ 64
  pub apart : new_id table ≢ page
  pub count : listed_length base.listed ≤ (slot_at table page).count
  pub later : 0 < separator
  pub link : new_id table < no_page
  pub room : last_id table.free ≡ Some (new_id table)

pub record DoesTermAdd (table : TableValue) (parent child : ℕ) : Type 0 where
  pub exists : parent < length table.slots
  pub deeper : MayGrowDeeper (slot_at table parent)
  pub child_exists : child < length table.slots
  pub child_here : is_in_row (slot_at table child).stage ≡ true
  pub child_version : (slot_at table child).version + 1 < 2 ^ 64
  pub apart : child ≢ parent
  pub count : (slot_at table parent).count + 1 < 2 ^ 64

pub record DoesGrow (table : TableValue) (child : ℕ) : Type 0 where
  pub child_exists : child < length table.slots
  pub child_here : is_in_row (slot_at table child).stage ≡ true
  pub child_version : (slot_at table child).version + 1 < 2 ^ 64
  pub new_exists : new_id table < length table.slots
  pub new_version : (slot_at table (new_id table)).version + 1 < 2 ^ 64
  pub apart : new_id table ≢ child
  pub level : (slot_at table table.root).level + 1 < 256
  pub room : last_id table.free ≡ Some (new_id table)

pub record DoesMerge (table : TableValue) (left page : ℕ) : Type 0 where
  pub left_exists : left < length table.slots
  pub exists : page < length table.slots
  pub apart : page ≢ left
  pub deeper : MayGrowDeeper (slot_at table left)
  pub page_deeper : MayGrowDeeper (slot_at table page)
  pub count : (slot_at table left).count + (slot_at table page).count < 2 ^ 64

pub record DoesTermDelete (table : TableValue) (parent child : ℕ) : Type 0 where
  pub exists : parent < length table.slots
  pub deeper : MayGrowDeeper (slot_at table parent)
  pub child_exists : child < length table.slots
  pub child_version : (slot_at table child).version + 1 < 2 ^ 64
  pub apart : child ≢ parent
  pub count : 0 < (slot_at table parent).count
  pub free_room : length table.free + 1 ≤ length table.slots

-- a page in a row whose depth is below the greatest, and whose version can rise, takes a record more
may_grow_deeper : (table : TableValue) (page : ℕ) → Lawful table → is_in_row (slot_at table page).stage ≡ true → CanRise table page → (slot_at table page).depth < MAX_DEPTH → MayGrowDeeper (slot_at table page)
may_grow_deeper table page law here rises shallow = record {
  in_row = here;
  version = rises.version;
  shallow = shallow;
  chain_shallow = λ chain is.
      let own = law.pages page here in
      let same : own.0 ≡ chain = let its_own = own.1.its_chain in cc in
      omega (arith, own.1.depth, ap depth same);
}

-- the table that the code holds, which is whole, and what callers see of it
module _ {table shown : TableValue} {room : ℕ} (whole : IsWhole table room) (is : table ≡ shown) where
  -- a step that isn't refused by what callers see
  accepted : (step : Proposal) → refusal shown step ≡ None → refusal table step ≡ None
  accepted step none = let Fine : TableValue → Type 0 = λ t. refusal t step ≡ None in subst Fine (sym is) none

  pub stays_whole : (step : Proposal) → refusal shown step ≡ None → IsWhole (after table step) room
  stays_whole step none = whole_after table step room whole (accepted step none)

  pub root_level : (place : Place) → place ≡ root_place shown → place.level ≡ (slot_at table table.root).level
  root_level place root = ap (λ (p : Place). p.level) root ∙ ap (λ (t : TableValue). (slot_at t t.root).level) (sym is)

  pub does_insert : {A : Type 0} (step : Insert A) → refusal shown (insert_of step) ≡ None → DoesInsert table step.page.0
  does_insert step none =
      let may = insert_accepted table step.page.0 step.seen.0 step.key step.value (accepted (insert_of step) none) in
      let has = insert_room table whole.lawful whole.booked step.page.0 step.seen.0 step.key step.value may in record {
        exists = has.raised.inside;
        deeper = may_grow_deeper table step.page.0 whole.lawful may.change.open_page.in_row has.raised may.change.shallow;
        count = has.count;
        number = omega (arith, may.change.number, whole.lawful.bounds.number);
      }

  does_found : (page seen key : ℕ) → first_reason (found_reasons (slot_at table page) (number_of table.book) seen key) ≡ None → DoesFound table page
  does_found page seen key none =
      let may = found_accepted table page seen key none in
      let has = found_room table whole.lawful whole.booked page seen key may in record {
        exists = has.raised.inside;
        deeper = may_grow_deeper table page whole.lawful may.change.open_page.in_row has.raised may.change.shallow;
        count = has.count;
        number = omega (arith, may.change.number, whole.lawful.bounds.number);
      }

  pub does_delete : {A : Type 0} (step : Delete A) → refusal shown (delete_of step) ≡ None → DoesFound table step.page.0
  does_delete step none = does_found step.page.0 step.seen.0 step.key (accepted (delete_of step) none)

  pub does_modify : {A : Type 0} (step : Modify A) → refusal shown (modify_of step) ≡ None → DoesFound table step.page.0
  does_modify step none = does_found step.page.0 step.seen.0 step.key (accepted (modify_of step) none)

  pub does_consolidate : {A : Type 0} (step : Consolidate A) → refusal shown (consolidate_of step) ≡ None → DoesConsolidate table step.page.0
  does_consolidate step none =
      let may = consolidate_accepted table step.page.0 step.seen.0 step.base (accepted (consolidate_of step) none) in
      let rises = consolidate_room table whole.lawful whole.booked step.page.0 step.seen.0 step.base may in
      record { inside = rises.inside; in_row = may.open_page.in_row; version = rises.version }

  pub does_split : {A : Type 0} (step : Split A) → refusal shown (split_of step) ≡ None → DoesSplit table step.page.0 step.separator step.base
  does_split step none =
      let may = split_accepted table step.page.0 step.seen.0 step.separator step.base (accepted (split_of step) none) in
      let has = split_room table whole.lawful whole.booked step.page.0 step.seen.0 step.separator step.base may in record {
        exists = has.raised.inside;
        deeper = may_grow_deeper table step.page.0 whole.lawful may.open_page.in_row has.raised (omega (arith, may.bare_page));
        new_exists = has.new_raised.inside;
        new_version = has.new_raised.version;
        apart = has.apart;
        count = has.count;
        later = omega (arith, above_low table step.page.0 step.seen.0 step.separator step.base whole.lawful may);
        link = has_link table (new_id table) whole.lawful has.new_raised.inside;
        room = may.room;
      }

  pub does_term_add : {A : Type 0} (step : TermAdd A) → refusal shown (term_add_of step) ≡ None → DoesTermAdd table step.parent.0 step.child.0
  does_term_add step none =
      let may = term_add_accepted table step.parent.0 step.parent_seen.0 step.child.0 step.child_seen.0 (accepted (term_add_of step) none) in
      let has = term_add_room table whole.lawful whole.booked step.parent.0 step.parent_seen.0 step.child.0 step.child_seen.0 may in record {
        exists = has.raised.inside;
        deeper = may_grow_deeper table step.parent.0 whole.lawful may.change.open_parent.in_row has.raised may.change.shallow;
        child_exists = has.child_raised.inside;
        child_here = ap is_in_row may.unposted;
        child_version = has.child_raised.version;
        apart = has.apart;
        count = has.count;
      }

  pub does_grow : {A : Type 0} (step : Grow A) → refusal shown (grow_of step) ≡ None → DoesGrow table step.child.0
  does_grow step none =
      let may = grow_accepted table step.child.0 step.seen.0 step.base (accepted (grow_of step) none) in
      let has = grow_room table whole.lawful whole.booked step.child.0 step.seen.0 step.base may in record {
        child_exists = has.child_raised.inside;
        child_here = ap is_in_row may.unposted;
        child_version = has.child_raised.version;
        new_exists = has.new_raised.inside;
        new_version = has.new_raised.version;
        apart = has.apart;
        level = omega (arith, has.level);
        room = may.room;
      }

  pub does_mark : {A : Type 0} (step : Mark A) → refusal shown (mark_of step) ≡ None → step.page.0 < length table.slots × MayGrowDeeper (slot_at table step.page.0)
  does_mark step none =
      let may = mark_accepted table step.page.0 step.seen.0 step.parent.0 (accepted (mark_of step) none) in
      let rises = mark_room table whole.lawful whole.booked step.page.0 step.seen.0 step.parent.0 may in
      (rises.inside, may_grow_deeper table step.page.0 whole.lawful (ap is_in_row may.posted) rises (omega (arith, may.shallow)))

  pub does_merge : {A : Type 0} (step : Merge A) → refusal shown (merge_of step) ≡ None → DoesMerge table step.left.0 step.page.0
  does_merge step none =
      let may = merge_accepted table step.left.0 step.left_seen.0 step.page.0 step.page_seen.0 (accepted (merge_of step) none) in
      let has = merge_room table whole.lawful whole.booked step.left.0 step.left_seen.0 step.page.0 step.page_seen.0 may in record {
        left_exists = has.left_raised.inside;
        exists = has.raised.inside;
        apart = has.apart;
        deeper = may_grow_deeper table step.left.0 whole.lawful may.open_left.in_row has.left_raised (omega (arith, may.shallow));
        page_deeper = may_grow_deeper table step.page.0 whole.lawful (ap is_in_row may.marked) has.raised (omega (arith, may.shallow));
        count = has.count;
      }

  pub does_term_delete : {A : Type 0} (step : TermDelete A) → refusal shown (term_delete_of step) ≡ None → DoesTermDelete table step.parent.0 step.child.0
  does_term_delete step none =
      let may = term_delete_accepted table step.parent.0 step.parent_seen.0 step.child.0 step.child_seen.0 (accepted (term_delete_of step) none) in
      let has = term_delete_room table whole.lawful whole.booked step.parent.0 step.parent_seen.0 step.child.0 step.child_seen.0 may in record {
        exists = has.raised.inside;
        deeper = may_grow_deeper table step.parent.0 whole.lawful may.change.open_parent.in_row has.raised may.change.shallow;
        child_exists = has.child_raised.inside;
        child_version = has.child_raised.version;
        apart = has.apart;
        count = has.count;
        free_room = has.free;
      }
