-- What a worker of a forest answers, and what its trails tell of that.
use Rattle.std.specs.Prelude.{◌≡◌, ℕ, ◌+◌, ◌<◌, ◌≤◌, None, false, max, min, All, List, [], ◌∷◌, ◌++◌, length, slice_index_or, slice_set}
use Rattle.std.specs.Option.{ForNone}
use Rattle.bw_keys.specs.declared.range.Range.{Range}
use Rattle.bw_keys.specs.Ranges.{end_of}
use Rattle.bw_step.specs.declared.receipt.Receipt.{Receipt}
use Rattle.bw_step.specs.Tellings.{Reported, reported_in}
use Rattle.bw_tree.specs.Stocks.{most}
use Rattle.bw_forest.specs.Bounds.{IsTreeOf, ranges_of}
use Rattle.bw_procedures.specs.declared.act.Act.{Act}
use Rattle.bw_procedures.specs.declared.act.Act.TheVariants as acts
use Rattle.bw_procedures.specs.declared.reply.Reply.{Reply}
use Rattle.bw_procedures.specs.declared.reply.Reply.TheVariants as replies
use Rattle.bw_procedures.specs.Clearing.{AreRemovals, removals_in}
use Rattle.bw_procedures.specs.Reported.{AddsReported}
use Rattle.bw_procedures.specs.Seen.{Seen}
use Rattle.nifforan_forest.specs.Clears.{SweepsKey}
use Rattle.bw_run.specs.declared.answers.Answers.{Answers}
use Rattle.bw_run.specs.Answers.{StopsIn}
use Rattle.bw_run.specs.Rows.{key_of}

-- the trail at the tree whose range holds the act's key reports what goes with the act and its
-- reply, and those at all others stay
pub record TellsAtOne (bounds : List ℕ) (act : Act) (reply : Reply)
    (old new : List (List Receipt)) : Type 0 where
  pub tree : ℕ
  pub after : List Receipt
  pub holds : IsTreeOf bounds (key_of act) tree
  pub within : tree < length old
  pub others : new ≡ slice_set old tree after
  pub adds : AddsReported act reply (slice_index_or old tree []) after

-- a trail reports deletes in the range, so many of which had a key to delete
pub record RemovesAt (low end removed : ℕ) (old new : List Receipt) : Type 0 where
  pub added : List Reported
  pub trail : reported_in new ≡ reported_in old ++ added
  pub removals : AreRemovals low end added
  pub count : removals_in added ≡ removed

-- each trail does of the keys in its tree's range, with a count of its own, and all counts together
abbrev pub EachRemoves : ℕ → ℕ → List Range → List (List Receipt) → List (List Receipt) → ℕ
    → Type 0
EachRemoves low end [] [] [] count = count ≡ 0
EachRemoves low end (range ∷ ranges) (old ∷ olds) (new ∷ news) count =
    (own others : ℕ)
    × RemovesAt (max low range.low) (min end (end_of range.high)) own old new
    × EachRemoves low end ranges olds news others × (count ≡ own + others)
EachRemoves low end ranges olds news count = ⊥

-- what an act with this reply adds to a worker's trails, tree by tree: the removal of a range goes
-- over all of them, and any other act is done at the tree of its key
abbrev pub TellsAct : List ℕ → Act → Reply → List (List Receipt) → List (List Receipt) → Type 0
TellsAct bounds (acts.Clear low high) (replies.Clear cleared) old new =
    (count : ℕ) × EachRemoves low (end_of high) (ranges_of bounds) old new count
    × (cleared.removed ≡ min count most)
TellsAct bounds act reply old new = TellsAtOne bounds act reply old new

-- where a range was cleared without a fault, each of its keys was missing at a moment in the tree
-- whose range holds it, or was deleted there since
abbrev pub SweepsAct : {H : Type 0} → List ℕ → (H → Seen) → (H → H → Type 0)
    → (H → ℕ → ℕ → List (ℕ × ℕ) → Type 0) → Act → Reply → List H → List H → Type 0
SweepsAct bounds seen follows shows (acts.Clear low high) (replies.Clear cleared) old new =
    cleared.fault ≡ None → (key : ℕ) → low ≤ key → key < end_of high
    → SweepsKey bounds seen follows shows key old new
SweepsAct bounds seen follows shows act reply old new = Unit {0}

-- what the acts that have a reply add, in their order
abbrev pub TellInTurn : List ℕ → List Act → List Reply → List (List Receipt)
    → List (List Receipt) → Type 0
TellInTurn bounds (act ∷ acts) (reply ∷ replies) old new =
    (between : List (List Receipt)) × TellsAct bounds act reply old between
    × TellInTurn bounds acts replies between new
TellInTurn bounds acts replies old new = new ≡ old

-- so the trails at the trees with these bounds came about, each from nothing
pub record ToldBy (bounds : List ℕ) (acts : List Act) (replies : List Reply)
    (trails : List (List Receipt)) : Type 0 where
  pub start : List (List Receipt)
  pub from_nothing : All (λ trail. trail ≡ []) start
  pub in_turn : TellInTurn bounds acts replies start trails

-- the trails tell what goes with the acts and their replies, unless the worker stopped
pub record AreForestAnswersTo (bounds : List ℕ) (acts : List Act) (trails : List (List Receipt))
    (answers : Answers) : Type 0 where
  pub told : ForNone answers.stop (ToldBy bounds acts answers.replies.items trails)
  pub all : ForNone answers.stop (length answers.replies.items ≡ length acts)
  pub stops : StopsIn false acts answers
