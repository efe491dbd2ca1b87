-- Pairs that a list with a limit takes one stretch after the other.
use Rattle.std.proofs.Common.{◌≡◌, ℕ, List, [], ◌++◌, append_assoc, refl, sym, subst, ap, ◌∙◌, arith}
use Rattle.bw_chain.specs.declared.pass.first.FirstPairs.{FirstPairs}
use Rattle.bw_chain.specs.Passing.Firsts.{Takes, HasNoRoom, takes_none, takes_joined, no_room_for_more, no_room_later}

module _ {B : Type 0} where
  -- the first of the pairs were taken, and these are left
  pub record IsTaken (old : FirstPairs B) (whole left : List (ℕ × ℕ)) (new : FirstPairs B) : Type 0 where
    pub done : List (ℕ × ℕ)
    pub taken : Takes old done new
    pub parts : whole ≡ done ++ left

  pub none_taken : (old : FirstPairs B) (whole : List (ℕ × ℕ)) → IsTaken old whole whole old
  none_taken old whole =
      record { done = []; taken = record { limit_kept = refl; fence_kept = refl; room_kept = omega arith; taken = takes_none old.limit old.from old.list.items }; parts = refl }

  module _ (old now : FirstPairs B) (whole left : List (ℕ × ℕ)) (so_far : IsTaken old whole left now) where
    pub more_taken : (es next : List (ℕ × ℕ)) (new : FirstPairs B) → Takes now es new → left ≡ es ++ next → IsTaken old whole next new
    more_taken es next new more parts =
        record {
          done = so_far.done ++ es;
          taken = takes_joined old now new so_far.done es so_far.taken more;
          parts = so_far.parts ∙ ap (λ l. so_far.done ++ l) parts ∙ sym (append_assoc so_far.done es next);
        }

    pub all_taken : (new : FirstPairs B) → Takes now left new → Takes old whole new
    all_taken new last =
        subst (λ l. Takes old l new) (sym so_far.parts) (takes_joined old now new so_far.done left so_far.taken last)

    pub not_taken : (es next : List (ℕ × ℕ)) → HasNoRoom now es → left ≡ es ++ next → HasNoRoom old whole
    not_taken es next none parts =
        subst (HasNoRoom old) (sym (so_far.parts ∙ ap (λ l. so_far.done ++ l) parts))
        (no_room_later old now so_far.done (es ++ next) so_far.taken (no_room_for_more now es next none))
