-- A list that takes pairs from a fence on, as they come, until it has as many as a limit.
use Rattle.std.specs.Prelude.{vec_capacity}
use Rattle.std.proofs.Common.{◌≡◌, ℕ, zero, suc, ◌-◌, ◌<◌, ◌≤◌, List, [], ◌∷◌, ◌++◌, length, take, length-append, length-take, append_assoc, append-nil, refl, ap, sym, ◌∙◌, arith}
use Rattle.std.proofs.lemmas.List.{take_all}
use Rattle.bw_keys.specs.declared.range.Fence.{Fence}
use Rattle.bw_keys.specs.Ranges.{end_of}
use Rattle.bw_delta.specs.Entries.{from}
use Rattle.bw_chain.specs.declared.pass.first.FirstPairs.{FirstPairs}
use Rattle.bw_chain.specs.Passing.Rests.{from-append}

-- the items, and after them the first of the entries from the fence on, as many as the limit leaves
abbrev pub with_first : {X : Type 0} → ℕ → Fence → List (ℕ × X) → List (ℕ × X) → List (ℕ × X)
with_first limit fence items es = items ++ take (limit - length items) (from (end_of fence) es)

-- the list took the pairs, and has no less room than it had
pub record Takes {B : Type 0} (old : FirstPairs B) (es : List (ℕ × ℕ)) (new : FirstPairs B) : Type 0 where
  pub limit_kept : new.limit ≡ old.limit
  pub fence_kept : new.from ≡ old.from
  pub room_kept : vec_capacity old.list ≤ vec_capacity new.list
  pub taken : new.list.items ≡ with_first old.limit old.from old.list.items es

-- it has no room for them
abbrev pub HasNoRoom : {B : Type 0} → FirstPairs B → List (ℕ × ℕ) → Type 0
HasNoRoom first es = vec_capacity first.list < length (with_first first.limit first.from first.list.items es)

take-both : {Y : Type 0} → (n : ℕ) (xs ys : List Y) → take n (xs ++ ys) ≡ take n xs ++ take (n - length xs) ys
take-both zero [] ys = refl
take-both (suc n) [] ys =
    let all : suc n ≡ suc n - 0 = omega arith in
    ap (λ m. take m ys) all
take-both zero (x ∷ xs) ys =
    let none : 0 ≡ 0 - suc (length xs) = omega arith in
    ap (λ m. take m ys) none
take-both (suc n) (x ∷ xs) ys =
    let left : n - length xs ≡ suc n - suc (length xs) = omega arith in
    ap (λ l. x ∷ l) (take-both n xs ys) ∙ ap (λ m. x ∷ take n xs ++ take m ys) left

module _ {X : Type 0} where
  -- as the first items of a list
  pub first_of_all : (limit : ℕ) (fence : Fence) (items es : List (ℕ × X)) → length items ≤ limit → take limit (items ++ from (end_of fence) es) ≡ with_first limit fence items es
  first_of_all limit fence items es few =
      take-both limit items (from (end_of fence) es) ∙ ap (λ l. l ++ take (limit - length items) (from (end_of fence) es)) (take_all limit items few)

  pub takes_none : (limit : ℕ) (fence : Fence) (items : List (ℕ × X)) → items ≡ with_first limit fence items []
  takes_none limit fence items = sym (ap (λ l. items ++ l) (none (limit - length items)) ∙ append-nil items)
    where
      nothing : List (ℕ × X)
      nothing = []

      none : (n : ℕ) → take n nothing ≡ nothing
      none zero = refl
      none (suc n) = refl

  -- entries are taken in one go or one after the other
  pub first_joined : (limit : ℕ) (fence : Fence) (items es fs : List (ℕ × X)) → with_first limit fence (with_first limit fence items es) fs ≡ with_first limit fence items (es ++ fs)
  first_joined limit fence items es fs =
      let left = limit - length items in
      let first = take left (from (end_of fence) es) in
      let later : limit - length (items ++ first) ≡ left - length (from (end_of fence) es) = omega (arith, length-append items first, length-take left (from (end_of fence) es)) in
      ap (λ n. (items ++ first) ++ take n (from (end_of fence) fs)) later
      ∙ append_assoc items first _
      ∙ ap (λ l. items ++ l) (sym (take-both left (from (end_of fence) es) (from (end_of fence) fs)))
      ∙ ap (λ l. items ++ take left l) (sym (from-append (end_of fence) es fs))

  longer : (limit : ℕ) (fence : Fence) (items es fs : List (ℕ × X)) → length (with_first limit fence items es) ≤ length (with_first limit fence items (es ++ fs))
  longer limit fence items es fs =
      let some = with_first limit fence items es in
      omega (arith, ap length (first_joined limit fence items es fs), length-append some (take (limit - length some) (from (end_of fence) fs)))

module _ {B : Type 0} where
  begun : (s t : FirstPairs B) (es fs : List (ℕ × ℕ)) → Takes s es t → with_first t.limit t.from t.list.items fs ≡ with_first s.limit s.from s.list.items (es ++ fs)
  begun s t es fs first =
      rw (first.limit_kept, first.fence_kept, first.taken) (first_joined s.limit s.from s.list.items es fs)

  pub takes_joined : (s t u : FirstPairs B) (es fs : List (ℕ × ℕ)) → Takes s es t → Takes t fs u → Takes s (es ++ fs) u
  takes_joined s t u es fs first second =
      record {
        limit_kept = second.limit_kept ∙ first.limit_kept;
        fence_kept = second.fence_kept ∙ first.fence_kept;
        room_kept = omega (arith, first.room_kept, second.room_kept);
        taken = second.taken ∙ begun s t es fs first;
      }

  pub no_room_for_more : (s : FirstPairs B) (es fs : List (ℕ × ℕ)) → HasNoRoom s es → HasNoRoom s (es ++ fs)
  no_room_for_more s es fs none = omega (arith, none, longer s.limit s.from s.list.items es fs)

  pub no_room_later : (s t : FirstPairs B) (es fs : List (ℕ × ℕ)) → Takes s es t → HasNoRoom t fs → HasNoRoom s (es ++ fs)
  no_room_later s t es fs first none = omega (arith, first.room_kept, none, ap length (begun s t es fs first))
