-- Modify keeps the law and the book, and changes the value of its one key.
use Rattle.std.proofs.Common.{◌≡◌, ℕ, ◌+◌, true, length, Some, is_some, refl, sym, ◌∙◌, ap, arith}
use Rattle.std.specs.Prelude.{unwrap_or}
use Rattle.bw_keys.specs.Ranges.{end_of}
use Rattle.bw_delta.specs.declared.chain.Delta.TheVariants.{Modify}
use Rattle.bw_delta.specs.Entries.{at, put}
use Rattle.bw_delta.specs.Records.{Records}
use Rattle.bw_delta.specs.Fence.{fences}
use Rattle.bw_delta.specs.Pairs.{pairs}
use Rattle.bw_delta.proofs.Rises.{length-put_there}
use Rattle.bw_delta.proofs.Stands.{pairs_rise}
use Rattle.bw_step.specs.Proposals.{modify}
use Rattle.bw_law.specs.Slots.{SlotValue, pairs_in}
use Rattle.bw_law.specs.Tables.{TableValue, slot_at, IsPageOf, Lawful, Booked}
use Rattle.bw_law.specs.Effects.{with_record}
use Rattle.bw_law.specs.Laws.{KeptBy}
use Rattle.bw_law.proofs.Lists.{at-put}
use Rattle.bw_law.proofs.Accepted.{MayChangeFound}
use Rattle.bw_law.proofs.LeafChange.{Changes, changes}
use Rattle.bw_law.proofs.Chains.{pairs_are, leaf_chain}

module _ (table : TableValue) (page seen key value : ℕ) (law : Lawful table) (may : MayChangeFound table page seen key) where
  abbrev slot : SlotValue
  slot = slot_at table page

  -- the value that the key had
  abbrev given : ℕ
  given = unwrap_or (at key (pairs_in slot)) 0

  -- the chain has the key
  found : (chain : Records) → IsPageOf slot chain → is_some (at key (pairs chain)) ≡ true
  found chain is = ap (λ es. is_some (at key es)) (sym (pairs_are slot chain is)) ∙ ap is_some may.present

  -- the leaf has as many pairs as before
  length_same : (chain : Records) → IsPageOf slot chain → length (put key value (pairs chain)) ≡ length (pairs chain)
  length_same chain is = length-put_there (end_of (fences chain).high) (fences chain).low key value (pairs chain) (found chain is) (pairs_rise chain is.sound.built)

  change : Changes table page key (Modify key value) (Some given) (Some value) (with_record (Modify key value) slot.count slot)
  change = changes table page seen key law may.change (Modify key value) (Some given) (Some value) slot.count
      (λ chain is. (leaf_chain slot chain is may.change.leaf, found chain is))
      (λ f. refl) (λ es. refl)
      (λ chain is. omega (arith, is.count, length_same chain is))
      (may.present ∙ ap (λ o. Some (unwrap_or o 0)) (sym may.present)) (λ k. at-put key k value (pairs_in slot))

  pub modify_keeps : Booked table → KeptBy table (modify page seen key value)
  modify_keeps booked = record {
    lawful = change.lawful (record table.book { modified = table.book.modified + 1 }) (omega (arith, law.bounds.number, may.change.number));
    booked =
        let own = law.pages page may.change.open_page.in_row in
        omega (arith, booked, change.count, length_same own.0 own.1, ap length (pairs_are slot own.0 own.1), ap (λ es. length (put key value es)) (pairs_are slot own.0 own.1));
    map = change.map;
  }
