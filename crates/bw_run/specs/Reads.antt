-- Who has a reader, and what a row is that a reader answers.
use Rattle.std.specs.Prelude.{◌≡◌, ℕ, zero, suc, List, [], ◌∷◌, ◌++◌, Option, Some, None}
use Rattle.bw_step.specs.declared.receipt.Receipt.{Receipt}
use Rattle.bw_step.specs.declared.receipt.Receipt.TheVariants.{Looked}
use Rattle.bw_step.specs.declared.view.Look.{Look}
use Rattle.bw_procedures.specs.declared.reply.Reply.{Reply}
use Rattle.bw_procedures.specs.declared.reply.Reply.TheVariants as replies
use Rattle.bw_procedures.specs.declared.act.Act.{Act}
use Rattle.bw_procedures.specs.declared.act.Act.TheVariants as acts
use Rattle.bw_run.specs.declared.looks.Found.{Found}

-- the readers of n workers: the first workers have one each, as long as there are any
abbrev pub handed_out : {R : Type 0} → ℕ → List R → List (Option R)
handed_out zero readers = []
handed_out (suc n) [] = None ∷ handed_out n []
handed_out (suc n) (reader ∷ readers) = Some reader ∷ handed_out n readers

-- what a reader found at the key, if there is a reader
abbrev pub IsFoundBy : {R S : Type 0} → (R → ℕ → Look → Type 0) → Option R → ℕ → Option (Found S) → Type 0
IsFoundBy finds (Some reader) key (Some found) = finds reader key found.look
IsFoundBy finds None key None = Unit {0}
IsFoundBy finds reader key found = ⊥

-- of what the stamp beside a look covers, the reader had learnt
abbrev pub IsLearntBy : {R S : Type 0} → (R → S → Type 0) → Option R → Option (Found S) → Type 0
IsLearntBy has_learnt (Some reader) (Some found) = has_learnt reader found.published.value
IsLearntBy has_learnt reader found = Unit {0}

-- the reply reports what the reader found, and the receipt of that look is the one that was added
abbrev pub IsReadBy : (Look → Type 0) → ℕ → List Receipt → List Receipt → Reply → Type 0
IsReadBy reads key old new reply = (look : Look) × reads look × (reply ≡ replies.Get look.found) × (new ≡ old ++ Looked look.at key look.found ∷ [])

-- where there is a reader, it answered the look that was asked for
abbrev pub IsReadByOwn : {R : Type 0} → (R → ℕ → Look → Type 0) → Option R → Act → List Receipt → List Receipt → Reply → Type 0
IsReadByOwn reads (Some reader) (acts.Get key) old new reply = IsReadBy (reads reader key) key old new reply
IsReadByOwn reads reader act old new reply = Unit {0}
