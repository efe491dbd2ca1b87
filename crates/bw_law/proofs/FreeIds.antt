-- The free list with its last id taken, or with one more.
use Rattle.std.proofs.Common.{◌≡◌, ◌≢◌, ◌⊎◌, ℕ, ◌<◌, true, List, [], ◌∷◌, ◌++◌, length, set, Some, sym, ◌∙◌, ap, subst, inl, inr, ⊎_elim, arith}
use Rattle.std.proofs.lemmas.List.{length-set}
use Rattle.bw_step.specs.declared.view.Stage.TheVariants.{Free}
use Rattle.bw_step.specs.Stages.{is_in_row}
use Rattle.bw_law.specs.Slots.{SlotValue, slot_in}
use Rattle.bw_law.specs.Walks.{IsAmong, RepeatsNone}
use Rattle.bw_law.specs.Tables.{FreeList}
use Rattle.bw_law.specs.Refusals.{last_id, all_but_last}
use Rattle.bw_law.proofs.Slots.{slot_written, slot_kept}

-- the ids but the last are ids of the list
among_front : (ids : List ℕ) (x : ℕ) → IsAmong (all_but_last ids) x → IsAmong ids x
among_front [] x among = among
among_front (id ∷ []) x among = absurd among
among_front (id ∷ next ∷ ids) x among = ⊎_elim (λ (is : x ≡ id). inl is) (λ (later : IsAmong (all_but_last (next ∷ ids)) x). inr (among_front (next ∷ ids) x later)) among

-- so is the last
pub last_is_among : (ids : List ℕ) (last : ℕ) → last_id ids ≡ Some last → IsAmong ids last
last_is_among [] last is = cc
last_is_among (id ∷ []) last is = inl (cc)
last_is_among (id ∷ next ∷ ids) last is = inr (last_is_among (next ∷ ids) last is)

-- which isn't among the others
last_not_in_front : (ids : List ℕ) (last : ℕ) → RepeatsNone ids → last_id ids ≡ Some last → IsAmong (all_but_last ids) last → ⊥
last_not_in_front [] last once is among = among
last_not_in_front (id ∷ []) last once is among = among
last_not_in_front (id ∷ next ∷ ids) last once is among = ⊎_elim
    (λ (same : last ≡ id). once.0 (subst (IsAmong (next ∷ ids)) same (last_is_among (next ∷ ids) last is)))
    (λ (later : IsAmong (all_but_last (next ∷ ids)) last). last_not_in_front (next ∷ ids) last once.1 is later)
    among

-- and the others are different
front_repeats_none : (ids : List ℕ) → RepeatsNone ids → RepeatsNone (all_but_last ids)
front_repeats_none [] once = tt
front_repeats_none (id ∷ []) once = tt
front_repeats_none (id ∷ next ∷ ids) once = ((λ among. once.0 (among_front (next ∷ ids) id among)), front_repeats_none (next ∷ ids) once.1)

-- an id of a list with one more is an old one or the new one
among_more : (ids : List ℕ) (new x : ℕ) → IsAmong (ids ++ new ∷ []) x → IsAmong ids x ⊎ (x ≡ new)
among_more [] new x among = ⊎_elim (λ (is : x ≡ new). inr is) (λ (none : ⊥). absurd none) among
among_more (id ∷ ids) new x among = ⊎_elim
    (λ (is : x ≡ id). inl (inl is))
    (λ (later : IsAmong (ids ++ new ∷ []) x). ⊎_elim (λ (old : IsAmong ids x). inl (inr old)) (λ (is : x ≡ new). inr is) (among_more ids new x later))
    among

-- one more that is new repeats none
more_repeats_none : (ids : List ℕ) (new : ℕ) → RepeatsNone ids → (IsAmong ids new → ⊥) → RepeatsNone (ids ++ new ∷ [])
more_repeats_none [] new once apart = ((λ among. among), tt)
more_repeats_none (id ∷ ids) new once apart = (
  (λ among. ⊎_elim (λ (old : IsAmong ids id). once.0 old) (λ (is : id ≡ new). apart (inl (sym is))) (among_more ids new id among)),
  more_repeats_none ids new once.1 (λ among. apart (inr among)),
)

-- a slot that isn't in the free list is written
pub free-set : (slots : List SlotValue) (free : List ℕ) (page : ℕ) (new : SlotValue) → (IsAmong free page → ⊥) → FreeList slots free → FreeList (set slots page new) free
free-set slots free page new not_among list = record {
  once = list.once;
  are_free = λ x among.
      let old = list.are_free x among in
      let apart : x ≢ page = λ same. not_among (subst (IsAmong free) same among) in
      (omega (arith, old.0, length-set slots page new), ap (λ (s : SlotValue). s.stage) (slot_kept slots page new x apart) ∙ old.1);
}

-- the free list names no page in a row
pub in_row_not_free : (slots : List SlotValue) (free : List ℕ) (page : ℕ) → FreeList slots free → is_in_row (slot_in slots page).stage ≡ true → IsAmong free page → ⊥
in_row_not_free slots free page list in_row among = cc (ap is_in_row (list.are_free page among).1, in_row)

-- the last id is given out, and its slot is written
pub free_taken : (slots : List SlotValue) (free : List ℕ) (last : ℕ) (new : SlotValue) → last_id free ≡ Some last → FreeList slots free → FreeList (set slots last new) (all_but_last free)
free_taken slots free last new is list =
    free-set slots (all_but_last free) last new (last_not_in_front free last list.once is)
    (record { once = front_repeats_none free list.once; are_free = λ x among. list.are_free x (among_front free x among) })

-- a slot is freed, and its id goes to the end of the list
pub free_returned : (slots : List SlotValue) (free : List ℕ) (page : ℕ) (new : SlotValue) → page < length slots → (IsAmong free page → ⊥) → new.stage ≡ Free → FreeList slots free → FreeList (set slots page new) (free ++ page ∷ [])
free_returned slots free page new inside not_among is_free list = record {
  once = more_repeats_none free page list.once not_among;
  are_free = λ x among. ⊎_elim
      (λ (old : IsAmong free x). (free-set slots free page new not_among list).are_free x old)
      (λ (same : x ≡ page). (
        omega (arith, same, inside, length-set slots page new),
        ap (λ y. (slot_in (set slots page new) y).stage) same ∙ ap (λ (s : SlotValue). s.stage) (slot_written slots page new inside) ∙ is_free,
      ))
      (among_more free page x among);
}
