-- Each key of a new table is at rest.
use Rattle.std.proofs.Common.{◌≡◌, ◌⊎◌, ℕ, ◌+◌, ◌<◌, ◌≤◌, ◌^◌, Bool, true, false, cond, List, [], ◌∷◌, Some, None, refl, sym, ap, subst, ◌∙◌, ⊎_elim, arith}
use Rattle.std.specs.Prelude.{nat_le, if◌then◌else◌}
use Rattle.std.proofs.lemmas.Bool.{cases_Bool}
use Rattle.bw_keys.specs.Limits.{first_bad_field}
use Rattle.bw_keys.specs.Ranges.{key_count, end_of}
use Rattle.bw_keys.specs.declared.config.Config.{Config}
use Rattle.bw_keys.specs.declared.page.Pid.{Pid}
use Rattle.bw_step.specs.declared.place.Go.{Go}
use Rattle.bw_step.specs.declared.place.Go.TheVariants.{Gone, Here}
use Rattle.bw_step.specs.declared.place.Todo.{Todo}
use Rattle.bw_law.specs.Laws.{IsLeafOf}
use Rattle.bw_law.specs.Slots.{SlotValue}
use Rattle.bw_law.specs.Tables.{TableValue, Lawful, first_slot, new_table, outlines, slot_at}
use Rattle.bw_law.specs.Walks.{IsWalkFrom, IsAmong, GoesOn, GoesRight, GoesDown}
use Rattle.bw_law.proofs.NewTable.{new_law}
use Rattle.bw_table.specs.Actions.{IsUnfit}
use Rattle.bw_table.specs.Rests.{MeetsTodo, todo_at}
use Rattle.bw_table.specs.Views.{view_of}
use Rattle.bw_table.specs.Visits.{todo_with, way_on}
use Rattle.nifforan.specs.AtOnce.{IsAtRest}

-- a visit of the first page finds nothing to do
no_todo : (version key : ℕ) (page : Pid) (slots : List SlotValue) (todo : Todo)
    → todo_with slots page (first_slot version) key (way_on slots page (first_slot version) key 0) ≡ Some todo → ⊥
no_todo version key page slots todo met =
    let slot = first_slot version in
    let at_once = λ (past : Bool). todo_with slots page slot key (if past then Gone else Here (view_of page slot)) in
    ⊎_elim
    (λ (past : nat_le key_count key ≡ true). cc (ap at_once past, met))
    (λ (here : nat_le key_count key ≡ false). cc (ap at_once here, met))
    (cases_Bool (nat_le key_count key))

module _ (config : Config) (good : first_bad_field config ≡ None) (fresh : config.first_version + 2 < 2 ^ 64) where
  abbrev table : TableValue
  table = new_table config

  law : Lawful table
  law = (new_law config good (omega (arith, fresh))).lawful

  -- the first page leads nowhere
  goes_nowhere : (key p q : ℕ) → p ≡ 0 → GoesOn (outlines table.slots) key p q → ⊥
  goes_nowhere key p q first on = ⊎_elim
      (λ (right : GoesRight (outlines table.slots) key p q). cc (ap (λ x. (outlines table.slots x).right) first, right.1))
      (λ (down : GoesDown (outlines table.slots) key p q). omega (arith, down.inner.1, ap (λ x. (outlines table.slots x).level) first))
      on

  walk_is_first : (key page : ℕ) (walk : List ℕ) → IsWalkFrom (outlines table.slots) 0 key walk → IsAmong walk page → page ≡ 0
  walk_is_first key page [] is among = absurd is
  walk_is_first key page (p ∷ []) is among = ⊎_elim (λ (same : page ≡ p). same ∙ is.0) (λ (none : ⊥). absurd none) among
  walk_is_first key page (p ∷ q ∷ rest) is among = absurd (goes_nowhere key p q is.0 is.1.0)

  leaf_is_first : (key page : ℕ) → IsLeafOf table key page → page ≡ 0
  leaf_is_first key page leaf =
      law.rows.apart page 0 key leaf.in_row refl leaf.is_leaf leaf.spans (omega arith, omega (arith, leaf.spans.1, law.rows.within page leaf.in_row))

  meets_none : (key : ℕ) → MeetsTodo table key → ⊥
  meets_none key meets =
      let first = walk_is_first key meets.page.0 meets.on_the_walk.0 meets.on_the_walk.1 meets.on_the_walk.2 in
      let visit = λ (slot : SlotValue). todo_with table.slots meets.page slot key (way_on table.slots meets.page slot key 0) in
      no_todo config.first_version key meets.page table.slots meets.todo (ap visit (sym (ap (slot_at table) first)) ∙ meets.met)

  fits : (page : ℕ) → page ≡ 0 → IsUnfit table page → ⊥
  fits page first unfit = first_fits (subst (IsUnfit table) first unfit)
    where
      first_fits : IsUnfit table 0 → ⊥
      first_fits unfit = ⊎_elim (λ tall. cc tall) (λ used. ⊎_elim (λ number. omega arith) (λ version. omega (arith, fresh)) used) unfit

  pub new_rests : (key : ℕ) → IsAtRest table key
  new_rests key stops = ⊎_elim
      (λ (meets : MeetsTodo table key). meets_none key meets)
      (λ (at : (page : ℕ) × IsLeafOf table key page × IsUnfit table page). fits at.0 (leaf_is_first key at.0 at.1) at.2)
      stops
