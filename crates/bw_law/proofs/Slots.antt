-- One slot of the table written.
use Rattle.std.proofs.Common.{◌≡◌, ◌≢◌, ℕ, ◌<◌, ◌≤◌, ◌^◌, true, List, length, set, refl, sym, ◌∙◌, ap, subst, ⊎_elim, arith, get_or-set_same, get_or-set_other}
use Rattle.std.proofs.Math.Path.{fun_ext}
use Rattle.std.proofs.lemmas.List.{get_or_past, length-set}
use Rattle.std.proofs.lemmas.Bool.{cases_eq, cases_lt, eq-eqb, ne_eqb}
use Rattle.bw_keys.specs.declared.config.Config.{Config}
use Rattle.bw_keys.specs.Ranges.{key_count}
use Rattle.bw_delta.specs.Records.{Records}
use Rattle.bw_step.specs.declared.view.Stage.TheVariants.{Free}
use Rattle.bw_step.specs.declared.survey.Book.{Book}
use Rattle.bw_step.specs.Stages.{is_in_row}
use Rattle.bw_law.specs.Slots.{SlotValue, free_slot, slot_in}
use Rattle.bw_law.specs.Rows.{Outline, Rows}
use Rattle.bw_law.specs.Tables.{TableValue, number_of, outline, outlines, IsPageOf, Pages, IsEmptied, MergedPages, FreeList, IsTableConfig, Lawful}
use Rattle.bw_law.proofs.Outlines.{write}

-- a page that isn't free is in the table
pub used_in_bounds : (slots : List SlotValue) (page : ℕ) → (slot_in slots page).stage ≢ Free → page < length slots
used_in_bounds slots page used = ⊎_elim
    (λ (inside : page < length slots). inside)
    (λ (past : length slots ≤ page). absurd (used (ap (λ (s : SlotValue). s.stage) (get_or_past slots page (free_slot 0) past))))
    (cases_lt page (length slots))

-- a page in a row is in the table
pub in_bounds : (slots : List SlotValue) (page : ℕ) → is_in_row (slot_in slots page).stage ≡ true → page < length slots
in_bounds slots page in_row = used_in_bounds slots page (λ free. cc (ap is_in_row free, in_row))

-- the slot that is written is the new one, and the others are as they were
pub slot_written : (slots : List SlotValue) (page : ℕ) (new : SlotValue) → page < length slots → slot_in (set slots page new) page ≡ new
slot_written slots page new inside = get_or-set_same slots page new (free_slot 0) inside

pub slot_kept : (slots : List SlotValue) (page : ℕ) (new : SlotValue) (x : ℕ) → x ≢ page → slot_in (set slots page new) x ≡ slot_in slots x
slot_kept slots page new x other = get_or-set_other slots page x new (free_slot 0) other

-- what holds of the new slot, and held of the other slots, holds of each slot then
pub each_slot : (P : SlotValue → Type 0) (slots : List SlotValue) (page : ℕ) (new : SlotValue) → page < length slots → P new → ((x : ℕ) → P (slot_in slots x)) → (x : ℕ) → P (slot_in (set slots page new) x)
each_slot P slots page new inside here before x = ⊎_elim
    (λ (same : x ≡ page). subst P (sym (ap (slot_in (set slots page new)) same ∙ slot_written slots page new inside)) here)
    (λ (other : x ≢ page). subst P (sym (slot_kept slots page new x other)) (before x))
    (cases_eq x page)

-- what it shows is written, too
pub outlines-set : (slots : List SlotValue) (page : ℕ) (new : SlotValue) → page < length slots → outlines (set slots page new) ≡ write (outlines slots) page (outline new)
outlines-set slots page new inside = fun_ext (λ x. ⊎_elim
    (λ (same : x ≡ page). rw (eq-eqb x page same) (ap outline (ap (slot_in (set slots page new)) same ∙ slot_written slots page new inside)))
    (λ (other : x ≢ page). rw (ne_eqb x page other) (ap outline (slot_kept slots page new x other)))
    (cases_eq x page))

-- what shows as before changes nothing
write_same : (at : ℕ → Outline) (page : ℕ) → write at page (at page) ≡ at
write_same at page = fun_ext (λ x. ⊎_elim
    (λ (same : x ≡ page). rw (eq-eqb x page same) (ap at (sym same)))
    (λ (other : x ≢ page). rw (ne_eqb x page other) refl)
    (cases_eq x page))

-- a slot that keeps its outline keeps the rows
pub rows_kept : (slots : List SlotValue) (root page : ℕ) (new : SlotValue) → page < length slots → outline new ≡ outlines slots page → Rows key_count (outlines slots) root → Rows key_count (outlines (set slots page new)) root
rows_kept slots root page new inside same rows =
    subst (λ at. Rows key_count at root) (sym (outlines-set slots page new inside ∙ ap (write (outlines slots) page) same ∙ write_same (outlines slots) page)) rows

-- a slot in a row has a sound chain, whose summary it is
abbrev pub HasPage : SlotValue → Type 0
HasPage slot = is_in_row slot.stage ≡ true → (chain : Records) × IsPageOf slot chain

-- a slot in a row isn't merged
pub in_row_emptied : (slot : SlotValue) → is_in_row slot.stage ≡ true → IsEmptied slot
in_row_emptied slot in_row merged = cc (ap is_in_row merged, in_row)

-- what each slot is by itself
pub record GoodSlots (slots : List SlotValue) (count : ℕ) : Type 0 where
  pub pages : Pages slots
  pub merged : MergedPages slots
  pub versions : (page : ℕ) → (slot_in slots page).version < 2 ^ 64
  pub all_there : length slots ≡ count

-- the slots of a lawful table are good
pub good_slots : (table : TableValue) → Lawful table → GoodSlots table.slots table.config.pages
good_slots table law = record { pages = law.pages; merged = law.merged; versions = law.bounds.versions; all_there = law.bounds.slots }

-- and are still, after a good one is written
pub good-set : (slots : List SlotValue) (count page : ℕ) (new : SlotValue) → page < length slots → HasPage new → IsEmptied new → new.version < 2 ^ 64 → GoodSlots slots count → GoodSlots (set slots page new) count
good-set slots count page new inside has_page emptied version good = record {
  pages = each_slot HasPage slots page new inside has_page good.pages;
  merged = each_slot IsEmptied slots page new inside emptied good.merged;
  versions = each_slot (λ slot. slot.version < 2 ^ 64) slots page new inside version good.versions;
  all_there = length-set slots page new ∙ good.all_there;
}

-- two slots are written

pub outlines_of_two : (slots : List SlotValue) (p q : ℕ) (a b : SlotValue) → p < length slots → q < length slots → outlines (set (set slots p a) q b) ≡ write (write (outlines slots) p (outline a)) q (outline b)
outlines_of_two slots p q a b p_inside q_inside =
    outlines-set (set slots p a) q b (omega (arith, q_inside, length-set slots p a)) ∙ ap (λ at. write at q (outline b)) (outlines-set slots p a p_inside)

pub good_two : (slots : List SlotValue) (count p q : ℕ) (a b : SlotValue) → p < length slots → q < length slots → HasPage a → HasPage b → IsEmptied a → IsEmptied b → a.version < 2 ^ 64 → b.version < 2 ^ 64 → GoodSlots slots count → GoodSlots (set (set slots p a) q b) count
good_two slots count p q a b p_inside q_inside a_page b_page a_emptied b_emptied a_version b_version good =
    good-set (set slots p a) count q b (omega (arith, q_inside, length-set slots p a)) b_page b_emptied b_version (good-set slots count p a p_inside a_page a_emptied a_version good)

-- the table with other slots, free list and root is lawful where these are
pub lawful_with : (table new : TableValue) → Lawful table → new.book ≡ table.book → new.config ≡ table.config → Rows key_count (outlines new.slots) new.root → GoodSlots new.slots table.config.pages → FreeList new.slots new.free → Lawful new
lawful_with table new law book config rows good free_list = record {
  rows = rows;
  pages = good.pages;
  merged = good.merged;
  free_list = free_list;
  bounds = record {
    versions = good.versions;
    number = omega (arith, law.bounds.number, ap (λ (b : Book). number_of b) book);
    slots = good.all_there ∙ ap (λ (c : Config). c.pages) (sym config);
    config = subst IsTableConfig (sym config) law.bounds.config;
  };
}
