-- What is read of a list, and written to it, at two places.
use Rattle.std.proofs.Common.{◌≡◌, ◌≢◌, ℕ, zero, suc, ◌<◌, List, [], ◌∷◌, length, slice_set, get_or, refl, sym, ◌∙◌, ap}
use Rattle.std.proofs.lemmas.List.{get_or_read, get_or-set_other, length-set}
use Rattle.bw_law.specs.Effects.{joined, taken_in}
use Rattle.bw_law.specs.Slots.{SlotValue, slot_in, free_slot}

-- writes at different places may be done in either order
pub set-swap : {X : Type 0} → (xs : List X) (i j : ℕ) (x y : X) → j ≢ i → slice_set (slice_set xs j y) i x ≡ slice_set (slice_set xs i x) j y
set-swap [] i j x y apart = refl
set-swap (z ∷ zs) zero zero x y apart = absurd (apart refl)
set-swap (z ∷ zs) zero (suc j) x y apart = refl
set-swap (z ∷ zs) (suc i) zero x y apart = refl
set-swap (z ∷ zs) (suc i) (suc j) x y apart = ap (λ rest. z ∷ rest) (set-swap zs i j x y (λ same. apart (ap suc same)))

-- what is read of a page inside is its slot
pub reads : (slots : List SlotValue) (page : ℕ) (read : SlotValue) → page < length slots → read ≡ get_or slots page read → read ≡ slot_in slots page
reads slots page read inside is = get_or_read slots page read inside is (free_slot 0)

-- the page is read and given up first, and then its left neighbour takes it in
pub merged_slots : (slots : List SlotValue) (left page : ℕ) (read taken given into new : SlotValue)
    → left < length slots → page < length slots → page ≢ left
    → read ≡ get_or slots page read → taken ≡ taken_in read → given ≡ read
    → into ≡ get_or (slice_set slots page taken) left into → new ≡ joined into given
    → slice_set (slice_set slots page taken) left new ≡ slice_set (slice_set slots left (joined (slot_in slots left) (slot_in slots page))) page (taken_in (slot_in slots page))
merged_slots slots left page read taken given into new left_inside inside apart read_is taken_is given_is into_is new_is =
    let page_slot : read ≡ slot_in slots page = get_or_read slots page read inside read_is (free_slot 0) in
    let inside_still : left < length (slice_set slots page taken) = rw (length-set slots page taken) left_inside in
    let other : left ≢ page = λ same. apart (sym same) in
    let left_slot : into ≡ slot_in slots left =
    get_or_read (slice_set slots page taken) left into inside_still into_is (free_slot 0) ∙ get_or-set_other slots page left taken (free_slot 0) other in
    let joined_is : new ≡ joined (slot_in slots left) (slot_in slots page) = new_is ∙ rw (given_is, left_slot, page_slot) refl in
    rw (joined_is, taken_is, page_slot) (set-swap slots left page (joined (slot_in slots left) (slot_in slots page)) (taken_in (slot_in slots page)) apart)
