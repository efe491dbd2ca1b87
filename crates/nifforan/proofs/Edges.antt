-- Steps of the tree's shape alone leave the map as it is.
use Rattle.std.proofs.Common.{◌≡◌, ℕ, Bool, true, false, List, [], Option, Some, None, refl}
use Rattle.std.specs.Prelude.{IfSome, IfNone, IfOk, OnErr, Result, Ok, Err, is_ok, is_some, ◌<◌}
use Rattle.bw_step.specs.declared.action.Unperformed.{Unperformed}
use Rattle.bw_keys.specs.Ranges.{key_count}
use Rattle.bw_keys.specs.declared.page.Pid.{Pid}
use Rattle.bw_law.specs.Effects.{pid}
use Rattle.bw_law.specs.Slots.{SlotValue}
use Rattle.bw_law.specs.Tables.{TableValue, Lawful, Booked, SameMap, ChangesKey}
use Rattle.bw_delta.specs.Entries.{put}
use Rattle.bw_step.specs.declared.receipt.Receipt.{Receipt}
use Rattle.bw_step.specs.Tellings.{shape, without_shapes}
use Rattle.bw_table.specs.InPlaces.{IsSplitUnder}
use Rattle.bw_procedures.specs.Calls.{receipts_of_split}
use Rattle.bw_alone.specs.Leading.{Leads}
use Rattle.bw_alone.proofs.InPlaces.{split_leads, split_keeps_config}
use Rattle.bw_procedures.specs.declared.reply.Set.{Set}
use Rattle.nifforan.specs.Maps.{before_set, pairs_of}
use Rattle.nifforan.proofs.Listing.{put_pairs}
use Rattle.nifforan.proofs.Replies.{still_reported}

pub same_as_it_is : (slots : List SlotValue) → SameMap slots slots
same_as_it_is slots = λ key value. ((λ maps. maps), (λ maps. maps))

pub same_joined : (a b c : List SlotValue) → SameMap a b → SameMap b c → SameMap a c
same_joined a b c first then = λ key value. ((λ maps. (first key value).0 ((then key value).0 maps)), (λ maps. (then key value).1 ((first key value).1 maps)))

-- receipts that were added, all of the tree's shape
pub reshaped_same : (a b : TableValue) (s t : List Receipt) → s ≡ [] → Leads a s b t → without_shapes t ≡ without_shapes s → SameMap a.slots b.slots
reshaped_same a b s t empty leads shapes = still_reported shape a a b s t (same_as_it_is a.slots) empty leads shapes

module _ (old new : TableValue) (parent page number : ℕ) (law : Lawful old) (booked : Booked old) where
  split_is_shape : (page parent new_page : Pid) (posted : Bool) → without_shapes (receipts_of_split page parent new_page posted) ≡ []
  split_is_shape page parent new_page true = refl
  split_is_shape page parent new_page false = refl

  pub split_same : (split : Result (Pid × Result (Unit {0}) Unperformed) Unperformed)
      → IfOk split (λ it. IsSplitUnder old parent page number it.0 (is_ok it.1) new) → OnErr split (new ≡ old) → SameMap old.slots new.slots
  split_same (Err why) done unchanged = rw unchanged (same_as_it_is old.slots)
  split_same (Ok it) done unchanged =
      reshaped_same old new [] (receipts_of_split (pid page) (pid parent) it.0 (is_ok it.1)) refl
      (split_leads old new parent page number it.0 (is_ok it.1) [] law booked done)
      (split_is_shape (pid page) (pid parent) it.0 (is_ok it.1))

  pub split_config : (split : Result (Pid × Result (Unit {0}) Unperformed) Unperformed)
      → IfOk split (λ it. IsSplitUnder old parent page number it.0 (is_ok it.1) new) → OnErr split (new ≡ old) → new.config ≡ old.config
  split_config (Err why) done unchanged = rw unchanged refl
  split_config (Ok it) done unchanged = split_keeps_config old new parent page number it.0 (is_ok it.1) done

-- a pair that was set is put into the list
pub set_is_put : (old new : TableValue) → Lawful old → Lawful new → (key value : ℕ) → key < key_count → (set : Option Set)
    → IfSome set (λ reply. ChangesKey old.slots new.slots key (before_set reply) (Some value))
    → is_some set ≡ true → pairs_of new.slots ≡ put key value (pairs_of old.slots)
set_is_put old new old_law new_law key value is_key None changes is = absurd (none is)
  where
    none : false ≡ true → ⊥
    none bad = cc bad
set_is_put old new old_law new_law key value is_key (Some reply) changes is =
    put_pairs old new old_law new_law key (before_set reply) (Some value) changes value is_key refl
