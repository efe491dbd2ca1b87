-- What an accepted step finds room for: each number that it raises fits, and each page that it names is in the table.
use Rattle.std.proofs.Common.{◌≡◌, ◌≢◌, ℕ, suc, ◌+◌, ◌-◌, ◌<◌, ◌≤◌, ◌^◌, true, length, set, sym, ◌∙◌, ap, arith}
use Rattle.bw_keys.specs.declared.page.TheConstants.{MAX_LEVEL}
use Rattle.bw_delta.specs.Pages.{Page, listed_length}
use Rattle.bw_step.specs.declared.view.Stage.TheVariants.{Posted}
use Rattle.bw_step.specs.Stages.{is_in_row}
use Rattle.bw_step.specs.Proposals.{insert, term_add, merge}
use Rattle.bw_law.specs.Slots.{SlotValue, pairs_in, routes_in}
use Rattle.bw_law.specs.Tables.{TableValue, slot_at, number_of, Lawful, Booked}
use Rattle.bw_law.specs.Refusals.{new_id}
use Rattle.bw_law.specs.Effects.{with_record, with_stage, joined, taken_in, after, pid}
use Rattle.bw_delta.specs.declared.chain.Delta.TheVariants.{Insert, TermAdd}
use Rattle.bw_law.specs.Laws.{KeptBy}
use Rattle.bw_law.proofs.Accepted.{MayInsert, MayChangeFound, MayConsolidate, MaySplit, MayTermAdd, MayTermDelete, MayGrow, MayMark, MayMerge}
use Rattle.bw_law.proofs.Slots.{slot_written, slot_kept}
use Rattle.bw_law.proofs.Facts.{found_among_entries, free_list_has_room, here_is_inside, used_is_inside, last_id_is_free, leaf_counts_pairs, inner_counts_routes, count_fits}
use Rattle.bw_law.proofs.InsertStep.{insert_keeps}
use Rattle.bw_law.proofs.SplitStep.{upper_count}
use Rattle.bw_law.proofs.TermAddStep.{term_add_keeps}
use Rattle.bw_law.proofs.TermDeleteStep.{routed}
use Rattle.bw_law.proofs.MergeStep.{merge_keeps}

-- the slot is in the table, and its version can rise
pub record CanRise (table : TableValue) (page : ℕ) : Type 0 where
  pub inside : page < length table.slots
  pub version : (slot_at table page).version + 1 < 2 ^ 64

-- a leaf takes one more pair
pub record InsertRoom (table : TableValue) (page : ℕ) : Type 0 where
  pub raised : CanRise table page
  pub count : (slot_at table page).count + 1 < 2 ^ 64
  pub inserted : table.book.inserted + 1 < 2 ^ 64

-- a leaf loses one of its pairs, or changes one
pub record FoundRoom (table : TableValue) (page : ℕ) : Type 0 where
  pub raised : CanRise table page
  pub count : 0 < (slot_at table page).count
  pub number : number_of table.book + 1 < 2 ^ 64

-- a part of a page's entries goes to a new page
pub record SplitRoom (table : TableValue) (page : ℕ) (base : Page) : Type 0 where
  pub raised : CanRise table page
  pub new_raised : CanRise table (new_id table)
  pub apart : new_id table ≢ page
  pub count : listed_length base.listed ≤ (slot_at table page).count

-- an inner page takes one more route
pub record TermAddRoom (table : TableValue) (parent child : ℕ) : Type 0 where
  pub raised : CanRise table parent
  pub child_raised : CanRise table child
  pub apart : child ≢ parent
  pub count : (slot_at table parent).count + 1 < 2 ^ 64

-- a new page is the root, one level higher
pub record GrowRoom (table : TableValue) (child : ℕ) : Type 0 where
  pub child_raised : CanRise table child
  pub new_raised : CanRise table (new_id table)
  pub apart : new_id table ≢ child
  pub level : (slot_at table table.root).level + 1 ≤ MAX_LEVEL

-- a page takes in another with its entries
pub record MergeRoom (table : TableValue) (left page : ℕ) : Type 0 where
  pub left_raised : CanRise table left
  pub raised : CanRise table page
  pub apart : page ≢ left
  pub count : (slot_at table left).count + (slot_at table page).count < 2 ^ 64

-- an inner page loses one of its routes, and the free list takes one more id
pub record TermDeleteRoom (table : TableValue) (parent child : ℕ) : Type 0 where
  pub raised : CanRise table parent
  pub child_raised : CanRise table child
  pub apart : child ≢ parent
  pub count : 0 < (slot_at table parent).count
  pub free : length table.free + 1 ≤ length table.slots

module _ (table : TableValue) (law : Lawful table) (booked : Booked table) where
  -- a page in a row whose version isn't used up can rise
  rises_here : (page : ℕ) → is_in_row (slot_at table page).stage ≡ true → (slot_at table page).version ≢ 2 ^ 64 - 1 → CanRise table page
  rises_here page here unworn = record { inside = here_is_inside table law page here; version = omega (arith, unworn, law.bounds.versions page) }

  -- the leaf, its count and the book have room for one more
  pub insert_room : (page seen key value : ℕ) → MayInsert table page seen key → InsertRoom table page
  insert_room page seen key value may = record {
    raised = rises_here page may.change.open_page.in_row may.change.open_page.rises;
    count = omega (arith, ap (λ (s : SlotValue). s.count) now, count_fits (after table (insert page seen key value)) kept.lawful page kept.booked (ap (λ (s : SlotValue). is_in_row s.stage) now ∙ may.change.open_page.in_row));
    inserted = omega (arith, may.change.number, law.bounds.number);
  }
    where
      kept : KeptBy table (insert page seen key value)
      kept = insert_keeps table page seen key value law may booked

      now : slot_at (after table (insert page seen key value)) page ≡ with_record (Insert key value) (suc (slot_at table page).count) (slot_at table page)
      now = slot_written table.slots page (with_record (Insert key value) (suc (slot_at table page).count) (slot_at table page)) (here_is_inside table law page may.change.open_page.in_row)

  -- the leaf has the pair
  pub found_room : (page seen key : ℕ) → MayChangeFound table page seen key → FoundRoom table page
  found_room page seen key may = record {
    raised = rises_here page may.change.open_page.in_row may.change.open_page.rises;
    count = omega (arith, leaf_counts_pairs table law page may.change.open_page.in_row may.change.leaf, found_among_entries key may.value (pairs_in (slot_at table page)) may.present);
    number = omega (arith, may.change.number, law.bounds.number);
  }

  -- the page can rise
  pub consolidate_room : (page seen : ℕ) (base : Page) → MayConsolidate table page seen base → CanRise table page
  consolidate_room page seen base may = rises_here page may.open_page.in_row may.open_page.rises

  -- the new page has a slot of its own, and takes no more entries than there are
  pub split_room : (page seen separator : ℕ) (base : Page) → MaySplit table page seen separator base → SplitRoom table page base
  split_room page seen separator base may =
      let new = last_id_is_free table law (new_id table) may.room in record {
        raised = rises_here page may.open_page.in_row may.open_page.rises;
        new_raised = record { inside = new.0; version = omega (arith, may.new_rises, law.bounds.versions (new_id table)) };
        apart = λ same. cc (ap (λ x. is_in_row (slot_at table x).stage) same, ap is_in_row new.1, may.open_page.in_row);
        count = upper_count table page seen separator base law may;
      }

  -- the parent has room for one more route
  pub term_add_room : (parent parent_seen child child_seen : ℕ) → MayTermAdd table parent parent_seen child child_seen → TermAddRoom table parent child
  term_add_room parent parent_seen child child_seen may = record {
    raised = rises_here parent may.change.open_parent.in_row may.change.open_parent.rises;
    child_raised = rises_here child (ap is_in_row may.unposted) may.change.child_rises;
    apart = apart;
    count = omega (arith, ap (λ (s : SlotValue). s.count) now, count_fits (after table (term_add parent parent_seen child child_seen)) kept.lawful parent kept.booked (ap (λ (s : SlotValue). is_in_row s.stage) now ∙ may.change.open_parent.in_row));
  }
    where
      apart : child ≢ parent
      apart same = omega (arith, ap (λ x. (slot_at table x).level) same, may.change.above)

      kept : KeptBy table (term_add parent parent_seen child child_seen)
      kept = term_add_keeps table parent parent_seen child child_seen law may booked

      now : slot_at (after table (term_add parent parent_seen child child_seen)) parent ≡ with_record (TermAdd (slot_at table child).low (pid child)) (suc (slot_at table parent).count) (slot_at table parent)
      now =
          slot_kept (set table.slots parent (with_record (TermAdd (slot_at table child).low (pid child)) (suc (slot_at table parent).count) (slot_at table parent))) child (with_stage Posted (slot_at table child)) parent (λ same. apart (sym same))
          ∙ slot_written table.slots parent (with_record (TermAdd (slot_at table child).low (pid child)) (suc (slot_at table parent).count) (slot_at table parent)) (here_is_inside table law parent may.change.open_parent.in_row)

  -- the new root has a slot of its own, and room for its level
  pub grow_room : (child seen : ℕ) (base : Page) → MayGrow table child seen base → GrowRoom table child
  grow_room child seen base may =
      let new = last_id_is_free table law (new_id table) may.room in record {
        child_raised = rises_here child (ap is_in_row may.unposted) may.rises;
        new_raised = record { inside = new.0; version = omega (arith, may.new_rises, law.bounds.versions (new_id table)) };
        apart = λ same. cc (ap (λ x. (slot_at table x).stage) same, new.1, may.unposted);
        level = omega (arith, may.not_tall);
      }

  -- the page can rise
  pub mark_room : (page seen parent : ℕ) → MayMark table page seen parent → CanRise table page
  mark_room page seen parent may = rises_here page (ap is_in_row may.posted) may.rises

  -- the left page has room for the entries of both
  pub merge_room : (left left_seen page page_seen : ℕ) → MayMerge table left left_seen page page_seen → MergeRoom table left page
  merge_room left left_seen page page_seen may = record {
    left_raised = rises_here left may.open_left.in_row may.open_left.rises;
    raised = rises_here page (ap is_in_row may.marked) may.rises;
    apart = apart;
    count = omega (arith, ap (λ (s : SlotValue). s.count) now, count_fits (after table (merge left left_seen page page_seen)) kept.lawful left kept.booked (ap (λ (s : SlotValue). is_in_row s.stage) now ∙ may.open_left.in_row));
  }
    where
      apart : page ≢ left
      apart same = may.open_left.staying (ap (λ x. (slot_at table x).stage) (sym same) ∙ may.marked)

      kept : KeptBy table (merge left left_seen page page_seen)
      kept = merge_keeps table left left_seen page page_seen law may booked

      now : slot_at (after table (merge left left_seen page page_seen)) left ≡ joined (slot_at table left) (slot_at table page)
      now =
          slot_kept (set table.slots left (joined (slot_at table left) (slot_at table page))) page (taken_in (slot_at table page)) left (λ same. apart (sym same))
          ∙ slot_written table.slots left (joined (slot_at table left) (slot_at table page)) (here_is_inside table law left may.open_left.in_row)

  -- the parent has a route to lose, and the free list room for one more id
  pub term_delete_room : (parent parent_seen child child_seen : ℕ) → MayTermDelete table parent parent_seen child child_seen → TermDeleteRoom table parent child
  term_delete_room parent parent_seen child child_seen may =
      let route = routed table parent parent_seen child child_seen law may in
      let inside : child < length table.slots = used_is_inside table law child (λ free. cc (free, may.merged)) in record {
        raised = rises_here parent may.change.open_parent.in_row may.change.open_parent.rises;
        child_raised = record { inside = inside; version = omega (arith, may.change.child_rises, law.bounds.versions child) };
        apart = λ same. omega (arith, ap (λ x. (slot_at table x).level) same, may.change.above);
        count = omega (
          arith,
          inner_counts_routes table law parent (slot_at table child).level may.change.open_parent.in_row may.change.above,
          found_among_entries (slot_at table child).low route.0 (routes_in (slot_at table parent)) route.1,
        );
        free = free_list_has_room table.slots table.free child law.free_list inside (λ among. cc (may.merged, (law.free_list.are_free child among).1));
      }
