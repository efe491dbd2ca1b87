-- Insert keeps the law and the book, and adds its one pair to the map.
use Rattle.std.proofs.Common.{ℕ, suc, ◌+◌, Some, None, refl, sym, ◌∙◌, ap, arith}
use Rattle.bw_delta.specs.declared.chain.Delta.TheVariants.{Insert}
use Rattle.bw_delta.specs.Entries.{at}
use Rattle.bw_delta.specs.Pairs.{pairs}
use Rattle.bw_step.specs.Proposals.{insert}
use Rattle.bw_law.specs.Slots.{SlotValue, pairs_in}
use Rattle.bw_law.specs.Tables.{TableValue, slot_at, Lawful, Booked}
use Rattle.bw_law.specs.Effects.{with_record}
use Rattle.bw_law.specs.Laws.{KeptBy}
use Rattle.bw_law.proofs.Lists.{at-put, length-put}
use Rattle.bw_law.proofs.Accepted.{MayInsert}
use Rattle.bw_law.proofs.LeafChange.{Changes, changes}
use Rattle.bw_law.proofs.Chains.{pairs_are, lies_in, leaf_chain}

module _ (table : TableValue) (page seen key value : ℕ) (law : Lawful table) (may : MayInsert table page seen key) where
  abbrev slot : SlotValue
  slot = slot_at table page

  change : Changes table page key (Insert key value) None (Some value) (with_record (Insert key value) (suc slot.count) slot)
  change = changes table page seen key law may.change (Insert key value) None (Some value) (suc slot.count)
      (λ chain is. (leaf_chain slot chain is may.change.leaf, lies_in slot chain is key may.change.range))
      (λ f. refl) (λ es. refl)
      (λ chain is. omega (arith, is.count, length-put key value (pairs chain) (ap (at key) (sym (pairs_are slot chain is)) ∙ may.absent)))
      may.absent (λ k. at-put key k value (pairs_in slot))

  pub insert_keeps : Booked table → KeptBy table (insert page seen key value)
  insert_keeps booked = record {
    lawful = change.lawful (record table.book { inserted = table.book.inserted + 1 }) (omega (arith, law.bounds.number, may.change.number));
    booked = omega (arith, booked, change.count, length-put key value (pairs_in slot) may.absent);
    map = change.map;
  }
