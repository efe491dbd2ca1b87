-- Delete keeps the law and the book, and takes its one key out of the map.
use Rattle.std.proofs.Common.{◌≡◌, ℕ, suc, ◌+◌, ◌-◌, length, Some, None, refl, sym, ◌∙◌, ap, arith}
use Rattle.std.specs.Prelude.{unwrap_or}
use Rattle.bw_keys.specs.Ranges.{end_of}
use Rattle.bw_delta.specs.declared.chain.Delta.TheVariants.{Delete}
use Rattle.bw_delta.specs.Entries.{at, without}
use Rattle.bw_delta.specs.Records.{Records}
use Rattle.bw_delta.specs.Fence.{fences}
use Rattle.bw_delta.specs.Pairs.{pairs}
use Rattle.bw_delta.proofs.Stands.{pairs_rise}
use Rattle.bw_step.specs.Proposals.{delete}
use Rattle.bw_law.specs.Slots.{SlotValue, pairs_in}
use Rattle.bw_law.specs.Tables.{TableValue, slot_at, IsPageOf, Lawful, Booked}
use Rattle.bw_law.specs.Effects.{with_record}
use Rattle.bw_law.specs.Laws.{KeptBy}
use Rattle.bw_law.proofs.Lists.{at-without, length-without}
use Rattle.bw_law.proofs.Accepted.{MayChangeFound}
use Rattle.bw_law.proofs.LeafChange.{Changes, changes}
use Rattle.bw_law.proofs.Chains.{pairs_are, lies_in, leaf_chain}

module _ (table : TableValue) (page seen key : ℕ) (law : Lawful table) (may : MayChangeFound table page seen key) where
  abbrev slot : SlotValue
  slot = slot_at table page

  -- the value that is given back
  abbrev given : ℕ
  given = unwrap_or (at key (pairs_in slot)) 0

  -- the leaf has one pair less
  length_less : (chain : Records) → IsPageOf slot chain → suc (length (without key (pairs chain))) ≡ length (pairs chain)
  length_less chain is = length-without (fences chain).low (end_of (fences chain).high) key may.value (pairs chain) (pairs_rise chain is.sound.built) (ap (at key) (sym (pairs_are slot chain is)) ∙ may.present)

  change : Changes table page key (Delete key) (Some given) None (with_record (Delete key) (slot.count - 1) slot)
  change = changes table page seen key law may.change (Delete key) (Some given) None (slot.count - 1)
      (λ chain is. (leaf_chain slot chain is may.change.leaf, lies_in slot chain is key may.change.range))
      (λ f. refl) (λ es. refl)
      (λ chain is. omega (arith, is.count, length_less chain is))
      (may.present ∙ ap (λ o. Some (unwrap_or o 0)) (sym may.present)) (λ k. at-without key k (pairs_in slot))

  pub delete_keeps : Booked table → KeptBy table (delete page seen key)
  delete_keeps booked = record {
    lawful = change.lawful (record table.book { removed = table.book.removed + 1 }) (omega (arith, law.bounds.number, may.change.number));
    booked =
        let own = law.pages page may.change.open_page.in_row in
        omega (arith, booked, change.count, length_less own.0 own.1, ap length (pairs_are slot own.0 own.1), ap (λ es. length (without key es)) (pairs_are slot own.0 own.1));
    map = change.map;
  }
