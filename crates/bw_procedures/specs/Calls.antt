-- What a call, or a part of one, leaves of the worker.
use Rattle.std.specs.Prelude.{◌≡◌, ◌≢◌, ℕ, zero, suc, ◌+◌, Bool, true, false, ◌-◌, ◌≤◌, ◌^◌, min, length, List, [], ◌∷◌, ◌++◌, Option, Some, None, Result, Ok, Err}
use Rattle.bw_keys.specs.declared.page.Pid.{Pid}
use Rattle.bw_delta.specs.declared.fault.NoMemory.{NoMemory}
use Rattle.bw_step.specs.Proposals.{Proposal}
use Rattle.bw_step.specs.declared.receipt.Kind.{Kind}
use Rattle.bw_step.specs.declared.receipt.Kind.TheVariants as kinds
use Rattle.bw_step.specs.declared.receipt.Receipt.{Receipt}
use Rattle.bw_step.specs.declared.receipt.Receipt.TheVariants as receipts
use Rattle.bw_step.specs.declared.refused.Refused.{Refused}
use Rattle.bw_step.specs.declared.refused.Refused.TheVariants as reasons
use Rattle.bw_step.specs.declared.view.Look.{Look}
use Rattle.bw_step.specs.declared.view.View.{View}
use Rattle.bw_step.specs.Steps.{IsReceiptOf}
use Rattle.bw_step.specs.Tellings.{without_shapes}
use Rattle.bw_procedures.specs.declared.fault.Fault.{Fault}
use Rattle.bw_procedures.specs.declared.fault.Fault.TheVariants.{Contended, NoMemory as NoRoom, TableFull, TooTall, Worn}
use Rattle.bw_procedures.specs.declared.offer.Answer.{Answer}
use Rattle.bw_procedures.specs.declared.offer.Answer.TheVariants as answers
use Rattle.bw_procedures.specs.Seen.{Seen, one_more, SameButEffort, SameCounts, Grows}
use Rattle.bw_procedures.specs.Facts.{Fact, holds, fresh}

-- a count rose by n, or is at its end
abbrev pub RoseBy : ℕ → ℕ → ℕ → Type 0
RoseBy n old new = min (old + n) (2 ^ 64 - 1) ≤ new

-- the effort at which a call gives up: `tries` more than it begins with, but not past the end
abbrev pub limit_of : Seen → ℕ
limit_of seen = min (seen.effort + seen.config.tries) (2 ^ 64 - 1)

-- a call that gives up at this effort may return this fault
abbrev pub IsEarned : ℕ → Seen → Seen → Fault → Type 0
IsEarned limit old new Contended = limit ≤ new.effort
IsEarned limit old new NoRoom = Unit {0}
IsEarned limit old new TableFull = RoseBy 1 old.full new.full
IsEarned limit old new TooTall = RoseBy 1 old.tall new.tall
IsEarned limit old new Worn = RoseBy 1 old.worn new.worn

-- a call that began with the old state may return this fault
abbrev pub Earned : Seen → Seen → Fault → Type 0
Earned old new fault = IsEarned (limit_of old) old new fault

-- a count that was made one higher n times
abbrev pub raised : ℕ → ℕ → ℕ
raised zero count = count
raised (suc n) count = one_more (raised n count)

-- the receipts of a step that changes a page's shape, and of the page's consolidation
abbrev pub receipts_of_shape : Kind → Pid → Pid → List Receipt
receipts_of_shape kind page other = receipts.Shaped kind page (Some other) ∷ receipts.Shaped kinds.Consolidate page None ∷ []

-- a page was split, and the new one's term was added to the parent, or wasn't
abbrev pub receipts_of_split : Pid → Pid → Pid → Bool → List Receipt
receipts_of_split page parent new_page true = receipts_of_shape kinds.Split page new_page ++ receipts_of_shape kinds.TermAdd parent new_page
receipts_of_split page parent new_page false = receipts_of_shape kinds.Split page new_page

-- a page was merged into the left one, and its term taken out of the parent
abbrev pub receipts_of_merge : Pid → Pid → Pid → List Receipt
receipts_of_merge page parent left =
    receipts.Shaped kinds.Mark page None ∷ receipts_of_shape kinds.Merge left page ++ receipts_of_shape kinds.TermDelete parent page

-- the receipts of steps that change only the tree's shape were added, each at the cost of one effort
pub record TakesShapes (receipts : List Receipt) (old new : Seen) : Type 0 where
  pub shapes : without_shapes receipts ≡ []
  pub counts : SameCounts old new
  pub trail : new.trail ≡ old.trail ++ receipts
  pub effort : new.effort ≡ raised (length receipts) old.effort

-- a page was split, or merged, at once, by these steps, or nothing was done
abbrev pub SplitAtOnce : Option Pid → Seen → Seen → Type 0
SplitAtOnce None old new = new ≡ old
SplitAtOnce (Some page) old new = (receipts : List Receipt) × (receipts ≢ []) × TakesShapes receipts old new

-- no receipt and no count: only the effort may have risen
pub record OnlySpends (old new : Seen) : Type 0 where
  pub same : SameButEffort old new
  pub effort : old.effort ≤ new.effort

-- only Shaped receipts were added, and nothing fell
pub record OnlyReshapes (old new : Seen) : Type 0 where
  pub without_shapes : without_shapes new.trail ≡ without_shapes old.trail
  pub grows : Grows old new

-- a part of a call that changes nothing but the tree's shape: answered, it cost this much, and otherwise the fault is earned
abbrev pub ReshapesWithin : {T : Type 0} → ℕ → ℕ → Result T Fault → Seen → Seen → Type 0
ReshapesWithin cost limit (Ok it) old new = OnlyReshapes old new × RoseBy cost old.effort new.effort
ReshapesWithin cost limit (Err fault) old new = OnlyReshapes old new × IsEarned limit old new fault

-- a page was consolidated where it lies, or that was refused, at the cost of effort; or nothing was done
abbrev pub ConsolidatesWithin : ℕ → Result (Option Bool) Fault → Seen → Seen → Type 0
ConsolidatesWithin limit (Ok None) old new = new ≡ old
ConsolidatesWithin limit (Ok (Some accepted)) old new = OnlyReshapes old new × RoseBy 1 old.effort new.effort
ConsolidatesWithin limit (Err fault) old new = OnlyReshapes old new × IsEarned limit old new fault

-- an attempt that came to nothing cost effort
abbrev pub CostsIfNone : {T : Type 0} → Option T → Seen → Seen → Type 0
CostsIfNone None old new = RoseBy 1 old.effort new.effort
CostsIfNone (Some it) old new = Unit {0}

abbrev pub IsAtLevel : ℕ → Option View → Type 0
IsAtLevel goal None = Unit {0}
IsAtLevel goal (Some view) = view.level ≡ goal

-- a page is found that holds the key, and is fresh
abbrev pub FindsFresh : (Fact → Type 0) → ℕ → ℕ → Option View → Type 0
FindsFresh calm key goal None = ⊥
FindsFresh calm key goal (Some view) = calm (holds key goal view.pid) × calm (fresh view.pid view.version)

-- one attempt to look a key up, which is kept if it is answered
abbrev pub Sought : ℕ → Result (Option Look) NoMemory → Seen → Seen → Type 0
Sought key (Ok None) old new = OnlySpends old new × RoseBy 1 old.effort new.effort
Sought key (Ok (Some look)) old new = SameCounts old new × (new.trail ≡ old.trail ++ receipts.Looked look.at key look.found ∷ []) × (old.effort ≤ new.effort)
Sought key (Err no_memory) old new = OnlySpends old new

-- the look that was answered is the one receipt that was added; without an answer none was
abbrev pub AddsLook : ℕ → Result (Option ℕ) Fault → List Receipt → List Receipt → Type 0
AddsLook key (Ok found) old new = (at : ℕ) × (new ≡ old ++ receipts.Looked at key found ∷ [])
AddsLook key (Err fault) old new = new ≡ old

-- one attempt that adds no receipt, and costs effort if it comes to nothing
abbrev pub Reads : {T : Type 0} → Result (Option T) NoMemory → Seen → Seen → Type 0
Reads (Ok it) old new = OnlySpends old new × CostsIfNone it old new
Reads (Err no_memory) old new = OnlySpends old new

-- memory apart, the attempt came to something
abbrev pub IsAnswered : {T : Type 0} → Result (Option T) NoMemory → Type 0
IsAnswered (Ok None) = ⊥
IsAnswered (Ok (Some it)) = Unit {0}
IsAnswered (Err no_memory) = Unit {0}

-- the count of a refusal that ends a call rose
abbrev pub CountRose : Refused → Seen → Seen → Type 0
CountRose reasons.TableFull old new = RoseBy 1 old.full new.full
CountRose reasons.TooTall old new = RoseBy 1 old.tall new.tall
CountRose reasons.Worn old new = RoseBy 1 old.worn new.worn
CountRose _ old new = Unit {0}

abbrev pub AnswerCounts : Answer → Seen → Seen → Type 0
AnswerCounts (answers.Accepted receipt) old new = Unit {0}
AnswerCounts (answers.Refused reason) old new = CountRose reason old new

-- the fault that a refusal is, if it is one
abbrev pub fault_in : Refused → Option Fault
fault_in reasons.TableFull = Some TableFull
fault_in reasons.TooTall = Some TooTall
fault_in reasons.Worn = Some Worn
fault_in _ = None

-- a proposal of a step that changes the map: accepted, it adds its one receipt
abbrev pub Offered : Proposal → ℕ → Result Answer Fault → Seen → Seen → Type 0
Offered step limit (Ok (answers.Accepted receipt)) old new = IsReceiptOf step receipt × (without_shapes new.trail ≡ without_shapes old.trail ++ receipt ∷ []) × Grows old new
Offered step limit (Ok (answers.Refused reason)) old new = OnlyReshapes old new × RoseBy 1 old.effort new.effort × CountRose reason old new
Offered step limit (Err fault) old new = OnlyReshapes old new × IsEarned limit old new fault
