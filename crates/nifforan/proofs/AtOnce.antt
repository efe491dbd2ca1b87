-- What a change in one action makes of the map.
use Rattle.std.proofs.Common.{◌≡◌, ℕ, ◌<◌, true, List, [], ◌∷◌, if◌then◌else◌, Option, Some, None, Result, Ok, Err, refl, sym, ap, subst, ◌∙◌}
use Rattle.std.specs.Prelude.{IfOk, IfErr, IfSome, OnErr}
use Rattle.bw_keys.specs.Ranges.{key_count}
use Rattle.bw_keys.specs.declared.page.Pid.{Pid}
use Rattle.bw_keys.specs.declared.wished.Wished.{Wished}
use Rattle.bw_keys.specs.declared.wished.Wished.TheVariants as wishes
use Rattle.bw_step.specs.Actions.{IsReceiptOfWish, receipt_of_wish}
use Rattle.bw_step.specs.Tellings.{telling_of, without_shapes}
use Rattle.bw_step.specs.declared.action.Action.TheVariants as actions
use Rattle.bw_step.specs.declared.action.Performed.{Performed}
use Rattle.bw_step.specs.declared.action.Unperformed.{Unperformed}
use Rattle.bw_step.specs.declared.action.Unperformed.TheVariants.{Denied, StepByStep}
use Rattle.bw_step.specs.declared.fault.Denied.TheVariants as denials
use Rattle.bw_step.specs.declared.receipt.Kind.TheVariants as kinds
use Rattle.bw_step.specs.declared.receipt.Receipt.{Receipt}
use Rattle.bw_step.specs.declared.receipt.Receipt.TheVariants.{Looked, Shaped}
use Rattle.bw_step.specs.Proposals.{Proposal, insert, modify, delete}
use Rattle.bw_chain.specs.InPlaces.{inserts}
use Rattle.bw_delta.specs.Entries.{at}
use Rattle.bw_law.specs.Effects.{receipt_of}
use Rattle.bw_law.specs.Tables.{TableValue, Lawful, Booked, TellsMap, number_of, slot_at}
use Rattle.bw_law.proofs.Facts.{leaf_decides}
use Rattle.bw_table.specs.Actions.{IsPerformed, IsWhyNot, had_at}
use Rattle.bw_table.specs.InPlaces.{IsDoneAtOnce, LooksOrTakes, TakesBoth, step_for}
use Rattle.bw_table.proofs.Reports.{performed_reports}
use Rattle.bw_procedures.specs.Actions.{consolidates_behind, receipts_of}
use Rattle.bw_procedures.specs.Writing.{IsReceiptFor}
use Rattle.bw_procedures.specs.declared.fault.Fault.{Fault}
use Rattle.bw_alone.proofs.InPlaces.{performed_keeps_config, performed_leads}
use Rattle.nifforan.specs.AtOnce.{ChangesBy, IsMadeAtOnce, IsWhyUnchanged, MayStay}
use Rattle.nifforan.specs.Maps.{IsReady, MapValue, map_upto, pairs_of}
use Rattle.nifforan.proofs.Changes.{put_result, set_result, delete_result}
use Rattle.nifforan.proofs.Listing.{value_is}
use Rattle.nifforan.proofs.Replies.{all_lead, one_reported, put_changes, set_changes, delete_changes}

is_receipt_for : (number key : ℕ) (wished : Wished) (had : Option ℕ)
    → IsReceiptFor key wished (receipt_of_wish number key wished had)
is_receipt_for number key (wishes.Put value) None = (refl, refl)
is_receipt_for number key (wishes.Put value) (Some had) = (refl, refl)
is_receipt_for number key (wishes.Set value) None = (refl, refl)
is_receipt_for number key (wishes.Set value) (Some had) = (refl, refl)
is_receipt_for number key wishes.Delete None = (refl, refl)
is_receipt_for number key wishes.Delete (Some had) = refl

-- a receipt with that of the consolidation after it, if there is one
abbrev with_consolidation : ℕ → Wished → Pid → Receipt → List Receipt
with_consolidation key wished page receipt =
    receipt ∷ (
    if consolidates_behind (actions.Change key wished) receipt then Shaped kinds.Consolidate page None ∷ [] else []
    )

-- after the receipt of a wish stand only receipts of shape
alone : (number key : ℕ) (wished : Wished) (had : Option ℕ) (page : Pid)
    → without_shapes (with_consolidation key wished page (receipt_of_wish number key wished had))
    ≡ receipt_of_wish number key wished had ∷ []
alone number key (wishes.Put value) None page = refl
alone number key (wishes.Put value) (Some had) page = refl
alone number key (wishes.Set value) None page = refl
alone number key (wishes.Set value) (Some had) page = refl
alone number key wishes.Delete None page = refl
alone number key wishes.Delete (Some had) page = refl

-- a change that was made in one action
module _ (key : ℕ) (wished : Wished) (old new : TableValue) where
  module _ (it : Performed) (done : IsPerformed old (actions.Change key wished) new it) where
    its_receipt : IsReceiptOfWish key wished it.receipt
    its_receipt = (performed_reports old new it (actions.Change key wished) done).1

    receipt_is_for : IsReceiptFor key wished it.receipt
    receipt_is_for = subst (IsReceiptFor key wished) (sym its_receipt.2) (is_receipt_for its_receipt.0 key wished its_receipt.1)

    receipt_is_alone : without_shapes (receipts_of (actions.Change key wished) it) ≡ it.receipt ∷ []
    receipt_is_alone =
        subst (λ (r : Receipt). without_shapes (with_consolidation key wished it.page r) ≡ r ∷ []) (sym its_receipt.2)
        (alone its_receipt.0 key wished its_receipt.1 it.page)

    tells_map : Lawful old → Booked old → TellsMap (telling_of it.receipt) old.slots new.slots
    tells_map law booked =
        let action = actions.Change key wished in
        one_reported (receipts_of action it) it.receipt old new
        (all_lead old new [] (receipts_of action it) refl (performed_leads old new it [] law booked action done)) receipt_is_alone

  pub reported : (result : Result Performed Unperformed) → IfOk result (IsPerformed old (actions.Change key wished) new)
      → IfOk result (λ it. IsReceiptFor key wished it.receipt)
  reported (Ok it) done = receipt_is_for it done
  reported (Err why) done = tt

  pub tells : (result : Result Performed Unperformed) → Lawful old → Booked old
      → IfOk result (IsPerformed old (actions.Change key wished) new)
      → IfOk result (λ it. TellsMap (telling_of it.receipt) old.slots new.slots)
  tells (Ok it) law booked done = tells_map it done law booked
  tells (Err why) law booked done = tt

  pub same_config : (result : Result Performed Unperformed) → IfOk result (IsPerformed old (actions.Change key wished) new)
      → OnErr result (new ≡ old) → new.config ≡ old.config
  same_config (Ok it) done unchanged = performed_keeps_config old new it (actions.Change key wished) done
  same_config (Err why) done unchanged = ap (λ (t : TableValue). t.config) unchanged

  -- the pairs are changed as its receipt says
  module _ (old_law : Lawful old) (new_law : Lawful new) (is_key : key < key_count) where
    changes : (w : Wished) (receipt : Receipt) → TellsMap (telling_of receipt) old.slots new.slots
        → ChangesBy key w receipt (pairs_of old.slots) (pairs_of new.slots)
    changes (wishes.Put value) receipt told = λ reply is.
        put_result old new old_law new_law key value is_key (Ok (record { reply = reply; fault = None }))
        (put_changes key value reply receipt old.slots new.slots is told)
    changes (wishes.Set value) receipt told = λ reply is.
        set_result old new old_law new_law key value is_key (Ok (record { reply = reply; fault = None }))
        (set_changes key value reply receipt old.slots new.slots is told)
    changes wishes.Delete receipt told = λ reply is.
        delete_result old new old_law new_law key (Ok (record { reply = reply; fault = None }))
        (delete_changes key reply receipt old.slots new.slots is told)

    pub changes_by : (result : Result Performed Unperformed) → IfOk result (λ it. TellsMap (telling_of it.receipt) old.slots new.slots)
        → IfOk result (λ it. ChangesBy key wished it.receipt (pairs_of old.slots) (pairs_of new.slots))
    changes_by (Ok it) told = changes wished it.receipt told
    changes_by (Err why) told = tt

-- the same of a leaf that was found
pub found_changes : (key : ℕ) (wished : Wished) (old new : TableValue) (trail : List Receipt) → Lawful old → key < key_count
    → (made : Option Performed) → IfSome made (λ it. IsReady new trail) → IfSome made (λ it. TellsMap (telling_of it.receipt) old.slots new.slots)
    → IfSome made (λ it. ChangesBy key wished it.receipt (pairs_of old.slots) (pairs_of new.slots))
found_changes key wished old new trail law is_key (Some it) ready told = changes key wished old new law ready.lawful is_key wished it.receipt told
found_changes key wished old new trail law is_key None ready told = tt

-- the receipt of a change on a leaf that was found
module _ (key : ℕ) (old new : TableValue) (page : ℕ) (receipt : Receipt) where
  taken_is_for : (wished : Wished) (step : Proposal) → IsReceiptFor key wished (receipt_of old step) → TakesBoth old step receipt page new
      → IsReceiptFor key wished receipt
  taken_is_for wished step is both = subst (IsReceiptFor key wished) (sym both.takes.2.reported) is

  done_is_for : (seen number : ℕ) (wished : Wished) (had : Option ℕ)
      → LooksOrTakes old page (Looked number key had) receipt new (step_for page seen key wished had) → IsReceiptFor key wished receipt
  done_is_for seen number (wishes.Put value) None done = taken_is_for (wishes.Put value) (insert page seen key value) (refl, refl) done
  done_is_for seen number (wishes.Put value) (Some had) done = subst (IsReceiptFor key (wishes.Put value)) (sym done.0) (refl, refl)
  done_is_for seen number (wishes.Set value) None done = taken_is_for (wishes.Set value) (insert page seen key value) (refl, refl) done
  done_is_for seen number (wishes.Set value) (Some had) done = taken_is_for (wishes.Set value) (modify page seen key value) (refl, refl) done
  done_is_for seen number wishes.Delete None done = subst (IsReceiptFor key wishes.Delete) (sym done.0) (refl, refl)
  done_is_for seen number wishes.Delete (Some had) done = taken_is_for wishes.Delete (delete page seen key) refl done

  pub found_is_for : (wished : Wished) → IsDoneAtOnce old page key wished receipt new → IsReceiptFor key wished receipt
  found_is_for wished done = done_is_for (slot_at old page).version (number_of old.book) wished (had_at old page key) done

-- memory is short only for a new pair, whatever pairs the key's leaf has
pub why_unchanged : (key : ℕ) (wished : Wished) (most : ℕ) (table : TableValue) (result : Result Performed Unperformed) → Lawful table
    → IfErr result (IsWhyNot table (actions.Change key wished)) → IfErr result (IsWhyUnchanged key wished (map_upto most table))
why_unchanged key wished most table (Ok it) law not = tt
why_unchanged key wished most table (Err StepByStep) law not = λ rests. rests not
why_unchanged key wished most table (Err (Denied (denials.Refused reason))) law not = absurd not
why_unchanged key wished most table (Err (Denied denials.NoMemory)) law (page, leaf, new) =
    let decides = λ (value : ℕ). leaf_decides table law page key value leaf.in_row leaf.is_leaf leaf.spans in
    let found = value_is table law key (had_at table page key) (λ value. ((decides value).1, (decides value).0)) in
    subst (λ (had : Option ℕ). inserts wished had ≡ true) found new

-- an action, and what was done for its leaf after it
pub made_at_once : (key : ℕ) (wished : Wished) (old mid new : MapValue) (it : Performed) (fault : Option Fault)
    → IsPerformed old.table (actions.Change key wished) mid.table it → mid ≡ map_upto old.config.pages mid.table → new.pairs ≡ mid.pairs
    → (MayStay mid.table it → (fault ≡ None) × (new ≡ mid)) → IsMadeAtOnce key wished old fault new
made_at_once key wished old mid new it fault performed is same stays = record {
  table = mid.table;
  it = it;
  performed = performed;
  same = same ∙ ap (λ (m : MapValue). m.pairs) is;
  stays = λ may. let so = stays may in (so.0, so.1 ∙ is);
}
