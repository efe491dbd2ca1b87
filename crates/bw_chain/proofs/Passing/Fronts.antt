-- A list at whose front entries are found one stretch after the other.
use Rattle.std.proofs.Common.{◌≡◌, ℕ, List, [], ◌++◌, append_assoc, refl, sym, subst, ap, ◌∙◌}
use Rattle.bw_keys.specs.declared.range.Fence.{Fence}
use Rattle.bw_chain.specs.Passing.Rests.{Begins, BeginsOtherwise, begins_joined, otherwise_more, otherwise_later}

module _ {X : Type 0} where
  -- the first of the entries were found at the front of the list, and these are left of both
  pub record IsFront (fence : Fence) (list whole left rest : List (ℕ × X)) : Type 0 where
    pub done : List (ℕ × X)
    pub found : Begins fence list done rest
    pub parts : whole ≡ done ++ left

  pub front_none : (fence : Fence) (list whole : List (ℕ × X)) → IsFront fence list whole whole list
  front_none fence list whole = record { done = []; found = refl; parts = refl }

  module _ (fence : Fence) (list whole left rest : List (ℕ × X)) (front : IsFront fence list whole left rest) where
    pub front_more : (es next rest' : List (ℕ × X)) → Begins fence rest es rest' → left ≡ es ++ next → IsFront fence list whole next rest'
    front_more es next rest' more parts =
        record {
          done = front.done ++ es;
          found = begins_joined fence fence list rest rest' front.done es refl front.found more;
          parts = front.parts ∙ ap (λ l. front.done ++ l) parts ∙ sym (append_assoc front.done es next);
        }

    pub front_all : (rest' : List (ℕ × X)) → Begins fence rest left rest' → Begins fence list whole rest'
    front_all rest' last = subst (λ l. Begins fence list l rest') (sym front.parts) (begins_joined fence fence list rest rest' front.done left refl front.found last)

    pub front_otherwise : (es next : List (ℕ × X)) → BeginsOtherwise fence rest es → left ≡ es ++ next → BeginsOtherwise fence list whole
    front_otherwise es next other parts =
        subst (BeginsOtherwise fence list) (sym (front.parts ∙ ap (λ l. front.done ++ l) parts)) (otherwise_later fence fence list rest front.done (es ++ next) refl front.found (otherwise_more fence rest es next other))
