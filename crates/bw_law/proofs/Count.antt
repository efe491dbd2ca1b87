-- The join over the leaf row has as many pairs as all slots together.
use Rattle.std.proofs.Common.{◌≡◌, ◌≢◌, ℕ, suc, ◌<◌, true, false, cond, eqb, List, [], ◌∷◌, ◌++◌, length, set, refl, sym, ◌∙◌, ap, inl, inr, ⊎_elim, arith, length-append}
use Rattle.std.specs.Prelude.{sum_by}
use Rattle.std.proofs.lemmas.List.{length-set}
use Rattle.std.proofs.lemmas.List.Sums.{sum_by-set, sum_by-cons}
use Rattle.std.proofs.lemmas.Bool.{cases_eq, cases_Bool, eqb-true, and_parts}
use Rattle.bw_keys.specs.Ranges.{key_count}
use Rattle.bw_step.specs.Stages.{is_in_row}
use Rattle.bw_law.specs.Slots.{SlotValue, free_slot, slot_in, pairs_in}
use Rattle.bw_law.specs.Walks.{IsAmong, RepeatsNone, IsRowOf}
use Rattle.bw_law.specs.Tables.{outlines, is_leaf_in_row, leaf_pairs, joined_pairs, pair_count}
use Rattle.bw_law.proofs.Slots.{in_bounds, slot_written, slot_kept}

abbrev share : SlotValue → ℕ
share slot = length (leaf_pairs slot)

-- slots without a share have no pairs
no_shares : (slots : List SlotValue) → ((x : ℕ) → share (slot_in slots x) ≡ 0) → sum_by share slots ≡ 0
no_shares [] none = refl
no_shares (slot ∷ slots) none = let ih = no_shares slots (λ x. none (suc x)) in omega (arith, none 0, ih, sum_by-cons share slot slots)

-- the join over pages that don't name a slot, after it was written
same_join : (slots : List SlotValue) (page : ℕ) (new : SlotValue) (row : List ℕ) → (IsAmong row page → ⊥) → joined_pairs (set slots page new) row ≡ joined_pairs slots row
same_join slots page new [] apart = refl
same_join slots page new (x ∷ row) apart =
    let other : x ≢ page = λ same. apart (inl (sym same)) in
    λ i. leaf_pairs (slot_kept slots page new x other i) ++ same_join slots page new row (λ among. apart (inr among)) i

-- pages outside a list have no share: then the list has them all
all_shares : (row : List ℕ) (slots : List SlotValue) → RepeatsNone row → ((x : ℕ) → IsAmong row x → x < length slots) → ((x : ℕ) → (IsAmong row x → ⊥) → share (slot_in slots x) ≡ 0) → length (joined_pairs slots row) ≡ sum_by share slots
all_shares [] slots once inside none = sym (no_shares slots (λ x. none x (λ among. among)))
all_shares (p ∷ row) slots once inside none =
    let less = set slots p (free_slot 0) in
    let ih = all_shares row less once.1 (λ x among. omega (arith, inside x (inr among), length-set slots p (free_slot 0))) others in
    omega (
      arith,
      ih,
      sum_by-set share slots p (free_slot 0) (free_slot 0) (inside p (inl refl)),
      length-append (leaf_pairs (slot_in slots p)) (joined_pairs slots row),
      ap length (same_join slots p (free_slot 0) row once.0),
    )
  where
    others : (x : ℕ) → (IsAmong row x → ⊥) → share (slot_in (set slots p (free_slot 0)) x) ≡ 0
    others x out = ⊎_elim
        (λ (same : x ≡ p). ap (λ y. share (slot_in (set slots p (free_slot 0)) y)) same ∙ ap share (slot_written slots p (free_slot 0) (inside p (inl refl))))
        (λ (other : x ≢ p). ap share (slot_kept slots p (free_slot 0) x other) ∙ none x (λ among. ⊎_elim (λ (same : x ≡ p). other same) (λ (later : IsAmong row x). out later) among))
        (cases_eq x p)

-- the pages of the leaf row have all pairs
pub joined_count : (slots : List SlotValue) (row : List ℕ) → IsRowOf (outlines slots) key_count 0 row → length (joined_pairs slots row) ≡ pair_count slots
joined_count slots row is = all_shares row slots is.repeats_none
    (λ x among. in_bounds slots x ((is.members x).0 among).0)
    (λ x out. ⊎_elim
    (λ (leaf : is_leaf_in_row (slot_in slots x) ≡ true).
    let parts = and_parts (is_in_row (slot_in slots x).stage) (eqb (slot_in slots x).level 0) leaf in
    absurd (out ((is.members x).1 (parts.0, eqb-true _ _ parts.1))))
    (λ (other : is_leaf_in_row (slot_in slots x) ≡ false). ap (λ b. length (cond b (pairs_in (slot_in slots x)) [])) other)
    (cases_Bool (is_leaf_in_row (slot_in slots x))))
