-- Tables that are filled with pairs of a slice.
use Rattle.std.proofs.Common.{◌≡◌, ℕ, ◌++◌, length, take, drop, append_assoc, sym, ap, subst, ◌∙◌}
use Rattle.std.specs.Prelude.{Option}
use Rattle.std.specs.Iterator.{Drains, Yields}
use Rattle.std.proofs.lemmas.Iterator.{YieldsList, items_from_drains}
use Rattle.std.proofs.lemmas.Iterator.Consumers.{YieldsList-so_far}
use Rattle.std.proofs.lemmas.List.{map-id, take-append-drop}
use Rattle.bw_keys.specs.declared.config.Config.{Config}
use Rattle.bw_law.specs.Laws.{IsTheMap}
use Rattle.bw_law.specs.MorePages.{KeptWithMorePages}
use Rattle.bw_law.specs.Tables.{TableValue, Lawful}
use Rattle.bw_procedures.specs.declared.fault.Fault.{Fault}
use Rattle.bw_procedures.specs.declared.fault.Fault.TheVariants.{Contended, NoMemory, TableFull, TooTall, Worn}
use Rattle.nifforan.specs.Filling.{AreFirstOf}
use Rattle.nifforan.specs.Maps.{MapValue, PairList, map_upto}
use Rattle.nifforan.specs.Rising.{HasAllOf, IsFullOfRising}
use Rattle.nifforan.specs.declared.sorted.SortedFault.TheVariants as sorts
use Rattle.nifforan.proofs.Listing.{pairs_are}
use Rattle.nifforan_balance.specs.Balancing.{FillATable}

module _ {U S : Type 0} (becomes : U → S → Type 0) (steps : S → Option (ℕ × ℕ) → S → Type 0) (items : U) (all : PairList)
    (starts : (s : S) → becomes items s → YieldsList steps (λ pair. pair) s all) where
  drained : (s : S) (made : PairList) → becomes items s → Drains steps s made → made ≡ all
  drained s made begins drains =
      sym (map-id made) ∙ items_from_drains made (drains.1.0, drains.1.1, λ ended. (drains.0, drains.1.2)) (starts s begins)

  -- a map of all items of an iterator has them
  pub has_items : (made : PairList) → HasAllOf becomes steps items made → made ≡ all
  has_items made has = drained has.start made has.begins has.drains

  first_items : (s rest : S) (some : PairList) → becomes items s → Yields steps s some rest → AreFirstOf some all
  first_items s rest some begins yields =
      let so_far : some ≡ take (length some) all = sym (map-id some) ∙ YieldsList-so_far (starts s begins) some rest yields in (
        drop (length some) all,
        sym (take-append-drop (length some) all) ∙ ap (λ (l : PairList). l ++ drop (length some) all) (sym so_far),
      )

  -- the first of them fill a table where they are too many for one
  pub fills_table : (config : Config) (fault : Fault) → IsFullOfRising becomes steps config items (sorts.Put fault) → fault ≡ TableFull
      → FillATable config all
  fills_table config TableFull full is =
      let some = full.filled in
      let more = first_items full.start full.rest full.items full.begins full.yields in
      let whole = more.1 ∙ ap (λ (l : PairList). l ++ more.0) some.1.1 ∙ append_assoc some.0 some.1.0 more.0 in
      (some.0, (some.1.0 ++ more.0, whole), some.2)
  fills_table config NoMemory full is = absurd (cc is)
  fills_table config Contended full is = absurd (cc is)
  fills_table config TooTall full is = absurd (cc is)
  fills_table config Worn full is = absurd (cc is)

-- the table of a map has the map's pairs with more pages too
pub has_all_pairs : (made : MapValue) (most more : ℕ) (table new : TableValue) → map_upto most table ≡ made → Lawful table
    → KeptWithMorePages more table new → IsTheMap new made.pairs
has_all_pairs made most more table new is law kept =
    let old = pairs_are table law in
    subst (IsTheMap new) (ap (λ (m : MapValue). m.pairs) is) (record {
      rise = old.rise;
      same = λ key value. (
        λ found. (kept.map key value).1 ((old.same key value).0 found),
        λ maps. (old.same key value).1 ((kept.map key value).0 maps),
      );
    })
