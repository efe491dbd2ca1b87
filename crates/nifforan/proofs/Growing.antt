-- The map of a table that gets more pages.
use Rattle.std.proofs.Common.{◌≡◌, ℕ, ◌+◌, ◌-◌, ◌≤◌, List, length, refl, sym, ap, subst, arith}
use Rattle.bw_keys.specs.declared.config.Config.{Config}
use Rattle.std.specs.Prelude.{Result, Ok, Err, OnOk, OnErr}
use Rattle.bw_law.specs.MorePages.{more_pages, with_more_pages, KeptWithMorePages}
use Rattle.bw_law.specs.Tables.{TableValue, Lawful}
use Rattle.bw_step.specs.declared.receipt.Receipt.{Receipt}
use Rattle.nifforan.specs.Growing.{HasGrown}
use Rattle.nifforan.specs.Maps.{MapValue, map_of, map_upto, IsReadyUpto}
use Rattle.nifforan.proofs.Listing.{same_pairs}

-- a map whose table got more pages
pub grown_map : (most more : ℕ) (old new : TableValue) → Lawful old → old.config.pages + more ≤ most → new.config ≡ more_pages more old.config → KeptWithMorePages more old new
    → HasGrown (map_upto most old) (map_upto most new)
grown_map most more old new law few config kept = record {
  config = ap (λ (c : Config). record c { pages = most }) config;
  pairs = same_pairs old new law kept.lawful kept.map;
  free = omega (arith, few, pages, kept.free);
  pages = omega (arith, pages);
}
  where
    pages : new.config.pages ≡ old.config.pages + more
    pages = ap (λ (c : Config). c.pages) config

same_map : (map : MapValue) → HasGrown map map
same_map map = record { config = refl; pairs = refl; free = refl; pages = omega arith }

-- one that may come to have just its pages
pub map_as_it_is : (table : TableValue) → map_upto table.config.pages table ≡ map_of table
map_as_it_is table i = record {
  config = table.config;
  pairs = (map_of table).pairs;
  pages = table.config.pages;
  free = free i;
  table = table;
}
  where
    free : (table.config.pages - table.config.pages) + length table.free ≡ length table.free
    free = omega arith

-- the map after its table was to get more pages, whether there was memory for them or not
module _ {E : Type 0} (most more : ℕ) (old new : TableValue) (trail : List Receipt) (ready : IsReadyUpto most old trail) (few : old.config.pages + more ≤ most) where
  pub has_grown : (result : Result (Unit {0}) E) → OnOk result (new ≡ with_more_pages more old) → OnOk result (KeptWithMorePages more old new) → OnErr result (new ≡ old)
      → HasGrown (map_upto most old) (map_upto most new)
  has_grown (Ok done) more_there kept unchanged = grown_map most more old new ready.lawful few (ap (λ (t : TableValue). t.config) more_there) kept
  has_grown (Err fault) more_there kept unchanged = subst (λ (t : TableValue). HasGrown (map_upto most old) (map_upto most t)) (sym unchanged) (same_map (map_upto most old))

  pub still_ready : (result : Result (Unit {0}) E) → OnOk result (new ≡ with_more_pages more old) → OnOk result (KeptWithMorePages more old new) → OnErr result (new ≡ old) → IsReadyUpto most new trail
  still_ready (Ok done) more_there kept unchanged = record {
    lawful = kept.lawful;
    booked = kept.booked;
    no_receipts = ready.no_receipts;
    pages = omega (arith, few, ap (λ (t : TableValue). t.config.pages) more_there);
    few = ready.few;
  }
  still_ready (Err fault) more_there kept unchanged = rw unchanged ready
