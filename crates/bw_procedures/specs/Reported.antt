-- What the receipts of acts report, by their replies.
use Rattle.std.specs.Prelude.{◌≡◌, ℕ, List, [], ◌∷◌, ◌++◌, Some, None}
use Rattle.bw_keys.specs.Ranges.{end_of}
use Rattle.bw_step.specs.declared.receipt.Receipt.{Receipt}
use Rattle.bw_step.specs.Tellings.{Reported, changed, looked, reported_in}
use Rattle.bw_procedures.specs.declared.reply.Del.{Del}
use Rattle.bw_procedures.specs.declared.reply.Del.TheVariants as dels
use Rattle.bw_procedures.specs.declared.reply.Put.{Put}
use Rattle.bw_procedures.specs.declared.reply.Put.TheVariants as puts
use Rattle.bw_procedures.specs.declared.reply.Set.{Set}
use Rattle.bw_procedures.specs.declared.reply.Set.TheVariants as sets
use Rattle.bw_procedures.specs.declared.reply.Reply.{Reply}
use Rattle.bw_procedures.specs.declared.reply.Reply.TheVariants as replies
use Rattle.bw_procedures.specs.declared.act.Act.{Act}
use Rattle.bw_procedures.specs.declared.act.Act.TheVariants as acts
use Rattle.bw_procedures.specs.Clearing.{AreRemovals, removals_in}

-- a put inserts its pair, or finds the key's value
abbrev pub reported_of_put : ℕ → ℕ → Put → Reported
reported_of_put key value puts.Inserted = changed key None (Some value)
reported_of_put key value (puts.Present there) = looked key (Some there)

-- a set inserts its pair, or replaces the key's value
abbrev pub reported_of_set : ℕ → ℕ → Set → Reported
reported_of_set key value sets.Inserted = changed key None (Some value)
reported_of_set key value (sets.Replaced old) = changed key (Some old) (Some value)

-- a delete removes the key's value, or finds none
abbrev pub reported_of_delete : ℕ → Del → Reported
reported_of_delete key (dels.Removed value) = changed key (Some value) None
reported_of_delete key dels.NoKey = looked key None

-- the receipts of an act with this reply report this, in their order; nothing goes with a reply to another kind of act
abbrev pub GoesWith : Act → Reply → List Reported → Type 0
GoesWith (acts.Put key value) (replies.Put done) reported = reported ≡ reported_of_put key value done.reply ∷ []
GoesWith (acts.Set key value) (replies.Set done) reported = reported ≡ reported_of_set key value done.reply ∷ []
GoesWith (acts.Delete key) (replies.Delete done) reported = reported ≡ reported_of_delete key done.reply ∷ []
GoesWith (acts.Get key) (replies.Get value) reported = reported ≡ looked key value ∷ []
GoesWith (acts.Clear low high) (replies.Clear cleared) reported = AreRemovals low (end_of high) reported × (removals_in reported ≡ cleared.removed)
GoesWith act reply reported = ⊥

-- what the added receipts report goes with the act and its reply
pub record AddsReported (act : Act) (reply : Reply) (old new : List Receipt) : Type 0 where
  pub added : List Reported
  pub trail : reported_in new ≡ reported_in old ++ added
  pub answers : GoesWith act reply added

-- this is reported of the acts that have a reply, in their order
abbrev pub GoWith : List Act → List Reply → List Reported → Type 0
GoWith (act ∷ acts) (reply ∷ replies) reported = (first rest : List Reported) × (reported ≡ first ++ rest) × GoesWith act reply first × GoWith acts replies rest
GoWith acts replies reported = reported ≡ []
