-- How readers are handed out.
use Rattle.std.proofs.Common.{◌≡◌, ℕ, zero, suc, ◌<◌, List, [], ◌∷◌, ◌++◌, Option, None, Some, refl, arith}
use Rattle.std.specs.Prelude.{◌↔◌, IsSome}
use Rattle.std.specs.Option.{option_to_list}
use Rattle.bw_run.specs.Reads.{handed_out}

-- nothing is left where nothing was taken
pub none_left : {R : Type 0} → (next : Option R) (n : ℕ) → (IsSome next ↔ (0 < n)) → next ≡ None → n ≡ 0
none_left None zero taken is = refl
none_left None (suc n) taken is = absurd (cc (taken.1 (omega arith)))
none_left (Some reader) n taken is = absurd (cc is)

-- the next worker has what is taken next
pub handed_next : {R : Type 0} → (n : ℕ) (next : Option R) (before after : List R) → before ≡ option_to_list next ++ after → (next ≡ None → before ≡ []) → handed_out (suc n) before ≡ next ∷ handed_out n after
handed_next n None [] [] taken none = refl
handed_next n None [] (r ∷ after) taken none = absurd (cc taken)
handed_next n None (r ∷ before) after taken none = absurd (cc (none refl))
handed_next n (Some reader) [] after taken none = absurd (cc taken)
handed_next n (Some reader) (r ∷ before) after taken none =
    let first : r ≡ reader = cc taken in
    let rest : before ≡ after = cc taken in
    rw (first, rest) refl
