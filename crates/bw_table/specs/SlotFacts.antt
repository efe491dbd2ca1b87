-- What the functions on single slots take for granted of them, and what they make of them.
use Rattle.std.specs.Prelude.{◌≡◌, ℕ, suc, ◌+◌, ◌<◌, ◌^◌, Bool, true, ◌&&◌, ◌||◌, not, is_some, Some}
use Rattle.bw_keys.specs.declared.page.TheConstants.{MAX_DEPTH}
use Rattle.bw_delta.specs.Entries.{at, starts_at}
use Rattle.bw_delta.specs.Pages.{Page}
use Rattle.bw_delta.specs.Records.{Records, bare, depth}
use Rattle.bw_delta.specs.Sound.{IsSound}
use Rattle.bw_step.specs.Stages.{is_in_row}
use Rattle.bw_step.specs.declared.survey.Summary.{Summary}
use Rattle.bw_step.specs.declared.view.Stage.{Stage}
use Rattle.bw_law.specs.Slots.{SlotValue, pairs_in, routes_in}
use Rattle.bw_table.specs.declared.slot.Kept.{Kept}

-- a page in a row has a sound chain
abbrev pub HasSoundChain : SlotValue → Type 0
HasSoundChain slot =
    is_in_row slot.stage ≡ true → (chain : Records) × (slot.chain ≡ Some chain) × IsSound chain

-- the page is in a row, the version can rise, and a record more may stand on the chain
pub record MayGrowDeeper (slot : SlotValue) : Type 0 where
  pub in_row : is_in_row slot.stage ≡ true
  pub version : slot.version + 1 < 2 ^ 64
  pub shallow : slot.depth < MAX_DEPTH
  pub chain_shallow : (chain : Records) → slot.chain ≡ Some chain → depth chain < MAX_DEPTH

abbrev pub summary_of : SlotValue → Summary
summary_of slot =
    record {
      low = slot.low;
      high = slot.high;
      right = slot.right;
      level = slot.level;
      count = slot.count;
      depth = slot.depth;
    }

-- what is kept of the part from the separator on, which has this many entries
abbrev pub kept_from : ℕ → ℕ → SlotValue → Kept
kept_from separator count slot =
    record {
      low = separator;
      high = slot.high;
      right = slot.right;
      level = slot.level;
      count = count;
    }

-- the slot that has taken up a page of this stage, and of this base
abbrev pub holding : Stage → Kept → Page → SlotValue → SlotValue
holding stage kept base slot = record {
  version = suc slot.version;
  stage = stage;
  low = kept.low;
  high = kept.high;
  right = kept.right;
  level = kept.level;
  count = kept.count;
  depth = 0;
  chain = Some (bare base);
}

-- the separator is the key of an entry that isn't the first
abbrev pub is_later_key : SlotValue → ℕ → Bool
is_later_key slot separator =
    (is_some (at separator (pairs_in slot)) || is_some (at separator (routes_in slot)))
    && not (starts_at separator (pairs_in slot) || starts_at separator (routes_in slot))
