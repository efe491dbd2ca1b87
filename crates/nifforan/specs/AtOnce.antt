-- Changes of a key that a map makes in one action, however little effort its calls may spend.
use Rattle.std.specs.Prelude.{◌≡◌, ◌⊎◌, ℕ, ◌/◌, ◌≤◌, true, Option, None, Result, Ok, Err}
use Rattle.bw_keys.specs.declared.wished.Wished.{Wished}
use Rattle.bw_keys.specs.declared.wished.Wished.TheVariants as wishes
use Rattle.bw_chain.specs.InPlaces.{inserts}
use Rattle.bw_delta.specs.Entries.{at}
use Rattle.bw_step.specs.declared.action.Action.TheVariants as actions
use Rattle.bw_step.specs.declared.action.Performed.{Performed}
use Rattle.bw_step.specs.declared.action.Unperformed.{Unperformed}
use Rattle.bw_step.specs.declared.action.Unperformed.TheVariants.{Denied, StepByStep}
use Rattle.bw_step.specs.declared.receipt.Receipt.{Receipt}
use Rattle.bw_step.specs.declared.receipt.Receipt.TheVariants.{Looked}
use Rattle.bw_law.specs.Tables.{TableValue}
use Rattle.bw_table.specs.Actions.{IsPerformed, IsUnfit, StopsAt}
use Rattle.bw_procedures.specs.Writing.{IsReceiptOfPut, IsReceiptOfSet, IsReceiptOfDelete}
use Rattle.bw_procedures.specs.declared.fault.Fault.{Fault}
use Rattle.bw_procedures.specs.declared.fault.Fault.TheVariants.{NoMemory}
use Rattle.bw_procedures.specs.declared.reply.Del.{Del}
use Rattle.bw_procedures.specs.declared.reply.Done.{Done}
use Rattle.bw_procedures.specs.declared.reply.Put.{Put}
use Rattle.bw_procedures.specs.declared.reply.Set.{Set}
use Rattle.nifforan.specs.Calls.{Puts, Sets, Deletes}
use Rattle.nifforan.specs.Maps.{MapValue, PairList, map_upto, pairs_of}
use Rattle.nifforan.specs.Maps.{before_put, before_set, before_delete}

-- a search for the key meets nothing unfinished, and its leaf takes a change: no more than the
-- record of its split stands on it, and no number is used up
abbrev pub IsAtRest : TableValue → ℕ → Type 0
IsAtRest table key = StopsAt table key (IsUnfit table) → ⊥

abbrev pub IsLook : Receipt → Type 0
IsLook (Looked at key found) = Unit {0}
IsLook receipt = ⊥

-- the page is neither to be split nor to be merged; the root has no page to be merged with
abbrev pub IsFair : TableValue → Performed → Type 0
IsFair table it =
    (it.count ≤ table.config.fanout)
    × ((table.config.fanout / 4 ≤ it.count) ⊎ (it.page.0 ≡ table.root))

-- the key's leaf is as it was, or may stay as it is
abbrev pub MayStay : TableValue → Performed → Type 0
MayStay table it = IsLook it.receipt ⊎ IsFair table it

-- the wish was carried out in one action, and then at most the tree's shape was changed: not even
-- that where the key's leaf may stay as it is
pub record IsMadeAtOnce (key : ℕ) (wished : Wished) (old : MapValue) (fault : Option Fault)
    (new : MapValue) : Type 0 where
  pub table : TableValue
  pub it : Performed
  pub performed : IsPerformed old.table (actions.Change key wished) table it
  pub same : new.pairs ≡ pairs_of table.slots
  pub stays : MayStay table it → (fault ≡ None) × (new ≡ map_upto old.config.pages table)

-- why a change isn't made in one action: its key isn't at rest, or memory for a new pair is short
abbrev pub IsWhyUnchanged : ℕ → Wished → MapValue → Unperformed → Type 0
IsWhyUnchanged key wished map StepByStep = IsAtRest map.table key → ⊥
IsWhyUnchanged key wished map (Denied why) = inserts wished (at key map.pairs) ≡ true

-- memory for a new pair is short, and the map is as it was
pub record LacksMemory (key : ℕ) (wished : Wished) (old : MapValue) (fault : Fault)
    (new : MapValue) : Type 0 where
  pub reason : fault ≡ NoMemory
  pub new_pair : inserts wished (at key old.pairs) ≡ true
  pub unchanged : new ≡ old

abbrev pub IsOneAction : {T : Type 0} → ℕ → Wished → MapValue → Result (Done T) Fault → MapValue
    → Type 0
IsOneAction key wished old (Ok done) new = IsMadeAtOnce key wished old done.fault new
IsOneAction key wished old (Err fault) new = LacksMemory key wished old fault new

-- the pairs are changed as the receipt says of the wish, whatever reply goes with that
abbrev pub ChangesBy : ℕ → Wished → Receipt → PairList → PairList → Type 0
ChangesBy key (wishes.Put value) receipt old new =
    (reply : Put) → IsReceiptOfPut key value reply receipt
    → Puts key value (before_put reply) old new
ChangesBy key (wishes.Set value) receipt old new =
    (reply : Set) → IsReceiptOfSet key value reply receipt
    → Sets key value (before_set reply) old new
ChangesBy key wishes.Delete receipt old new =
    (reply : Del) → IsReceiptOfDelete key reply receipt → Deletes key (before_delete reply) old new
