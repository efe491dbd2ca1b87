-- Pairs that are put behind all pairs of a leaf.
use Rattle.std.specs.Prelude.{◌≡◌, ℕ, suc, ◌+◌, ◌*◌, ◌<◌, ◌^◌, true, List, [], ◌∷◌, ◌++◌, length, Some, slice_set}
use Rattle.bw_keys.specs.Ranges.{end_of}
use Rattle.bw_chain.specs.Ascends.{IsAscending}
use Rattle.bw_delta.specs.declared.chain.Delta.TheVariants as deltas
use Rattle.bw_delta.specs.Entries.{rises}
use Rattle.bw_delta.specs.Fence.{fences}
use Rattle.bw_step.specs.declared.receipt.Receipt.TheVariants.{Inserted}
use Rattle.bw_step.specs.declared.view.Stage.TheVariants.{Posted}
use Rattle.bw_step.specs.Proposals.{insert}
use Rattle.bw_law.specs.Slots.{SlotValue, slot_in, chain_in, pairs_in}
use Rattle.bw_law.specs.Tables.{TableValue, slot_at, number_of}
use Rattle.bw_table.specs.InPlaces.{TakesBoth, slot_with}

-- the pairs were put on the page one after the other, each by an insertion and the
-- consolidation of the page after it; none of these steps was refused
abbrev pub AppendsInTurn : TableValue → ℕ → List (ℕ × ℕ) → TableValue → Type 0
AppendsInTurn old page [] new = new ≡ old
AppendsInTurn old page (pair ∷ pairs) new =
    (between : TableValue)
    × TakesBoth old (insert page (slot_at old page).version pair.0 pair.1)
    (Inserted (suc (number_of old.book)) pair.0 pair.1) page between
    × AppendsInTurn between page pairs new

-- a posted leaf without records, whose range has the keys of the pairs, which rise; its version can
-- rise twice for each, and the number of changes once
pub record TakesPairs (slot : SlotValue) (number : ℕ) (pairs : List (ℕ × ℕ)) : Type 0 where
  pub posted : slot.stage ≡ Posted
  pub leaf : slot.level ≡ 0
  pub no_records : slot.depth ≡ 0
  pub inside : rises slot.low (end_of slot.high) pairs ≡ true
  pub version : slot.version + 2 * length pairs < 2 ^ 64
  pub number_fits : number + length pairs < 2 ^ 64

abbrev pub MayAppend : TableValue → ℕ → List (ℕ × ℕ) → Type 0
MayAppend table page pairs = TakesPairs (slot_at table page) (number_of table.book) pairs

-- the page takes the pairs, and they are behind all that it has
pub record MayAppendBehind (table : TableValue) (page : ℕ) (pairs : List (ℕ × ℕ)) : Type 0 where
  pub takes : MayAppend table page pairs
  pub behind : IsAscending (pairs_in (slot_at table page) ++ pairs)

-- the numbers of a slot without records can rise, and its chain takes the pairs
pub record TakesEach (slot : SlotValue) (pairs : List (ℕ × ℕ)) : Type 0 where
  pub no_records : slot.depth ≡ 0
  pub version : slot.version + 2 * length pairs < 2 ^ 64
  pub count : slot.count + length pairs < 2 ^ 64
  pub inside : rises (fences (chain_in slot)).low (end_of (fences (chain_in slot)).high) pairs
      ≡ true

-- the page with the pairs inserted one after the other, consolidated with each
abbrev pub slot_with_each : List (ℕ × ℕ) → SlotValue → SlotValue
slot_with_each [] slot = slot
slot_with_each (pair ∷ pairs) slot =
    slot_with_each pairs (slot_with (Some (deltas.Insert pair.0 pair.1)) slot)

-- the slots where the page has taken in the pairs
abbrev pub slots_with_each : ℕ → List (ℕ × ℕ) → List SlotValue → List SlotValue
slots_with_each page pairs slots = slice_set slots page (slot_with_each pairs (slot_in slots page))
