-- What a change says of one key.
use Rattle.std.proofs.Common.{◌≡◌, ℕ, List, refl, ap}
use Rattle.std.specs.Prelude.{Option, Some, None}
use Rattle.bw_delta.specs.Entries.{below}
use Rattle.bw_chain.specs.Changes.{changed}
use Rattle.bw_chain.specs.Passing.Cuts.{IsUncut}
use Rattle.bw_chain.specs.Passing.Edited.{edit_of, edited_at}
use Rattle.bw_chain.specs.declared.entries.change.Change.{Change}
use Rattle.bw_chain.specs.declared.entries.change.Change.TheVariants.{Put, Without, Below, Nothing}
use Rattle.bw_chain.proofs.Passing.Passes.{below-below}

module _ {X : Type 0} where
  pub changed-edit : (change : Change X) (key : ℕ) (x : Option X) (es : List (ℕ × X)) → edit_of change ≡ Some (key, x) → changed change es ≡ edited_at key x es
  changed-edit (Put k y) key x es is =
      let same : ◌≡◌ {A = ℕ × Option X} (k, Some y) (key, x) = cc in
      ap (λ e. edited_at e.0 e.1 es) same
  changed-edit (Without k) key x es is =
      let same : ◌≡◌ {A = ℕ × Option X} (k, None) (key, x) = cc in
      ap (λ e. edited_at e.0 e.1 es) same
  changed-edit (Below bound) key x es is = cc
  changed-edit Nothing key x es is = cc

  -- a change that says nothing of a key leaves what lies below an end that it doesn't cut off
  pub changed-cut : (end : ℕ) (change : Change X) (es : List (ℕ × X)) → edit_of change ≡ None → IsUncut end change → below end es ≡ below end (changed change es)
  changed-cut end (Put k y) es is uncut = cc
  changed-cut end (Without k) es is uncut = cc
  changed-cut end (Below bound) es is uncut = below-below end bound es uncut
  changed-cut end Nothing es is uncut = refl
