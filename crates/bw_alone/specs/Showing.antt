-- What a copy shows of the map.
use Rattle.std.specs.Prelude.{◌≡◌, ◌↔◌, ℕ, ◌<◌, ◌≤◌, true, List, Some}
use Rattle.std.proofs.Common.{◌∙◌, sym, arith}
use Rattle.bw_delta.specs.Entries.{at, from, rises}
use Rattle.bw_delta.proofs.Rises.{rises-from}
use Rattle.bw_chain.proofs.Overlays.{at-from_in}
use Rattle.bw_law.specs.Tables.{TableValue, Maps}

-- the pairs rise in the range, and are all that the map has there
pub record Shows (table : TableValue) (low end : ℕ) (pairs : List (ℕ × ℕ)) : Type 0 where
  pub rise : rises low end pairs ≡ true
  pub all : (key value : ℕ) → low ≤ key → key < end → (at key pairs ≡ Some value) ↔ Maps table.slots key value

-- from a key of the range on, the pairs from the key on are all of them
pub shows_narrow : (table : TableValue) (low key end : ℕ) (pairs : List (ℕ × ℕ)) → low ≤ key → Shows table low end pairs → Shows table key end (from key pairs)
shows_narrow table low key end pairs le shown = record {
  rise = rises-from end low key pairs shown.rise;
  all = λ k value above below.
      let same = at-from_in key k pairs above in
      let here = shown.all k value (omega arith) below in
      ((λ found. here.0 (sym same ∙ found)), (λ maps. same ∙ here.1 maps));
}
