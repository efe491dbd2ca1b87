-- What a step that changes the map leaves.
use Rattle.std.proofs.Common.{◌≡◌, ◌⊎◌, inl, inr, IfSome, IfNone, ℕ, ◌≤◌, Bool, true, false, if◌then◌else◌, List, [], ◌∷◌, ◌++◌, Option, Some, None, Result, Ok, Err, refl, sym, ap, subst, ◌∙◌, arith}
use Rattle.std.specs.Result.{result_ok}
use Rattle.bw_keys.specs.declared.wished.Wished.{Wished}
use Rattle.bw_keys.specs.declared.wished.Wished.TheVariants.{Put, Set, Delete as TakeOut}
use Rattle.bw_step.specs.Actions.{IsReceiptOfWish, receipt_of_wish}
use Rattle.bw_step.specs.declared.action.Action.{Action}
use Rattle.bw_step.specs.declared.action.Action.TheVariants as actions
use Rattle.bw_step.specs.declared.action.Performed.{Performed}
use Rattle.bw_step.specs.declared.action.Unperformed.{Unperformed}
use Rattle.bw_step.specs.declared.action.Unperformed.TheVariants.{Denied, StepByStep}
use Rattle.bw_step.specs.declared.fault.Denied.TheVariants.{Refused, NoMemory}
use Rattle.bw_step.specs.Proposals.{Proposal, insert, delete, modify}
use Rattle.bw_step.specs.ProposalView.{step_of_wish}
use Rattle.bw_step.specs.Steps.{ChangesShape, IsReceiptOf}
use Rattle.bw_step.specs.declared.receipt.Receipt.{Receipt}
use Rattle.bw_step.specs.declared.receipt.Receipt.TheVariants.{Inserted, Deleted, Modified, Looked, Shaped}
use Rattle.bw_step.specs.declared.view.Look.{Look}
use Rattle.bw_step.specs.Tellings.{without_shapes}
use Rattle.bw_step.proofs.Tellings.{without_shapes-append}
use Rattle.bw_procedures.specs.declared.steps.Keep.{Keep}
use Rattle.bw_procedures.specs.declared.fault.Fault.{Fault}
use Rattle.bw_procedures.specs.declared.offer.Answer.TheVariants as answers
use Rattle.bw_procedures.specs.declared.writing.Tried.{Tried}
use Rattle.bw_procedures.specs.declared.writing.Tried.TheVariants.{Reply, Tend, Again, Kept}
use Rattle.bw_procedures.specs.Seen.{Seen, SameCounts, Grows, IsAccepted, is_kept}
use Rattle.bw_procedures.specs.Seen.{Looked as LookTaken}
use Rattle.bw_procedures.specs.Actions.{consolidates_behind, receipts_behind, receipts_of, Performs, PerformedBy}
use Rattle.bw_procedures.specs.Writing.{Attempts, AddsReceipt, IsReceiptFor, IsReplyOf, IsChangeFor, LookAdds, FoundBy, had_by, keep_for}
use Rattle.bw_procedures.specs.Calls.{Offered, OnlyReshapes}
use Rattle.bw_procedures.proofs.Trails.{adds_by, adds_nothing}
use Rattle.bw_procedures.proofs.Reshaping.{counts_grow}
use Rattle.bw_procedures.proofs.Performing.{performed_grows, shapes_behind}

pub adds_without_shapes : (a b : Seen) (r : Receipt) → without_shapes (r ∷ []) ≡ r ∷ [] → b.trail ≡ a.trail ++ r ∷ [] → without_shapes b.trail ≡ without_shapes a.trail ++ r ∷ []
adds_without_shapes a b r is e = ap without_shapes e ∙ (without_shapes-append a.trail (r ∷ []) ∙ ap (λ (l : List Receipt). without_shapes a.trail ++ l) is)

pub change_accepted : (step : Proposal) (limit : ℕ) (receipt : Receipt) (a b : Seen) → (ChangesShape step → ⊥) → IsAccepted step receipt a b → Offered step limit (Ok (answers.Accepted receipt)) a b
change_accepted (insert page seen key value) limit (Inserted n k v) a b change h =
    (h.reported, adds_without_shapes a b (Inserted n k v) refl h.trail, counts_grow a b h.counts (adds_by a.trail b.trail (Inserted n k v ∷ []) h.trail) (omega (arith, h.effort)))
change_accepted (delete page seen key) limit (Deleted n k v) a b change h =
    (h.reported, adds_without_shapes a b (Deleted n k v) refl h.trail, counts_grow a b h.counts (adds_by a.trail b.trail (Deleted n k v ∷ []) h.trail) (omega (arith, h.effort)))
change_accepted (modify page seen key value) limit (Modified n k old v) a b change h =
    (h.reported, adds_without_shapes a b (Modified n k old v) refl h.trail, counts_grow a b h.counts (adds_by a.trail b.trail (Modified n k old v ∷ []) h.trail) (omega (arith, h.effort)))
change_accepted (insert page seen key value) limit receipt a b change h = absurd h.reported
change_accepted (delete page seen key) limit receipt a b change h = absurd h.reported
change_accepted (modify page seen key value) limit receipt a b change h = absurd h.reported
change_accepted step limit receipt a b change h = absurd (change tt)

look_adds : (kept : Bool) (key at : ℕ) (found : Option ℕ) (a b : Seen) → SameCounts a b → b.trail ≡ (if kept then a.trail ++ Looked at key found ∷ [] else a.trail) → a.effort ≤ b.effort → LookAdds kept key found a b
look_adds true key at found a b counts trail effort = ((at, adds_without_shapes a b (Looked at key found) refl trail), counts_grow a b counts (adds_by a.trail b.trail (Looked at key found ∷ []) trail) effort)
look_adds false key at found a b counts trail effort = record { without_shapes = ap without_shapes trail; grows = counts_grow a b counts (adds_nothing a.trail b.trail trail) effort }

pub found_by : (keep : Keep) (key : ℕ) (look : Look) (a b : Seen) → LookTaken keep key (Ok (Some look)) a b → FoundBy keep key (Ok (Some look)) a b
found_by keep key look a b h = look_adds (is_kept keep look.found) key look.at look.found a b h.0 h.1 (omega (arith, h.2))

-- what a key had before a wish came true stands in its receipt
answers_by : (key : ℕ) (wished : Wished) (receipt : Receipt) → IsReceiptFor key wished receipt
    → IsReplyOf key wished (had_by wished receipt) receipt
answers_by key (Put value) (Inserted n k v) h = h
answers_by key (Put value) (Looked at k None) h = let bad : false ≡ true = h.1 in cc
answers_by key (Put value) (Looked at k (Some there)) h = (h.0, refl)
answers_by key (Put value) receipt h = absurd h
answers_by key (Set value) (Inserted n k v) h = h
answers_by key (Set value) (Modified n k old v) h = (h.0, refl, h.1)
answers_by key (Set value) (Looked at k found) h = let bad : false ≡ true = h.1 in cc
answers_by key (Set value) receipt h = absurd h
answers_by key TakeOut (Deleted n k v) h = (h, refl)
answers_by key TakeOut (Looked at k None) h = (h.0, refl)
answers_by key TakeOut (Looked at k (Some there)) h = let bad : false ≡ true = h.1 in cc
answers_by key TakeOut receipt h = absurd h

pub replied_by : (key : ℕ) (wished : Wished) (receipt : Receipt) (had : Option ℕ) → had ≡ had_by wished receipt
    → IsReceiptFor key wished receipt → IsReplyOf key wished had receipt
replied_by key wished receipt had is h =
    subst (λ (it : Option ℕ). IsReplyOf key wished it receipt) (sym is) (answers_by key wished receipt h)

look_answers : (key : ℕ) (wished : Wished) (at : ℕ) (found : Option ℕ) → is_kept (keep_for wished) found ≡ true
    → IsReplyOf key wished found (Looked at key found)
look_answers key (Put value) at None is = cc
look_answers key (Put value) at (Some there) is = (refl, refl)
look_answers key (Set value) at found is = cc
look_answers key TakeOut at None is = (refl, refl)
look_answers key TakeOut at (Some there) is = cc

-- the look that is kept answers the call
pub replied : (key : ℕ) (wished : Wished) (passes_posts kept : Bool) (limit : ℕ) (found : Option ℕ) (a b : Seen)
    → kept ≡ is_kept (keep_for wished) found → kept ≡ true → LookAdds (is_kept (keep_for wished) found) key found a b
    → Attempts (IsReplyOf key wished) passes_posts limit (Ok (Reply found)) a b
replied key wished passes_posts kept limit found a b same is h =
    let holds = sym same ∙ is in
    let adds = rw holds at h in
    ((Looked adds.0.0 key found, adds.0.1, look_answers key wished adds.0.0 found holds), adds.1)

-- the look that isn't kept leaves the trail
pub wanted : (kept : Bool) (key : ℕ) (found : Option ℕ) (a b : Seen) → kept ≡ false → LookAdds kept key found a b → OnlyReshapes a b
wanted true key found a b is h = let bad : true ≡ false = is in cc
wanted false key found a b is h = h

-- an attempt that keeps no fault
pub attempts_any : (is_of : Option ℕ → Receipt → Type 0) (passes_posts : Bool) (limit : ℕ) (result : Result Tried Fault) (a b : Seen) → Attempts is_of true limit result a b → Attempts is_of passes_posts limit result a b
attempts_any is_of passes_posts limit (Ok (Reply reply)) a b h = h
attempts_any is_of passes_posts limit (Ok (Tend reply page)) a b h = h
attempts_any is_of passes_posts limit (Ok Again) a b h = h
attempts_any is_of passes_posts limit (Ok (Kept fault)) a b h = let bad : true ≡ false = h.2 in cc
attempts_any is_of passes_posts limit (Err fault) a b h = h

-- the step of a wish changes no shape, and by it the wish comes true
module _ (page seen key : ℕ) where
  pub keeps_shape : (wished : Wished) (there : Bool) → ChangesShape (step_of_wish page seen key wished there) → ⊥
  keeps_shape (Put value) there h = h
  keeps_shape (Set value) true h = h
  keeps_shape (Set value) false h = h
  keeps_shape TakeOut there h = h

  pub comes_true : (wished : Wished) (there : Bool) (receipt : Receipt) → IsReceiptOf (step_of_wish page seen key wished there) receipt → IsReceiptFor key wished receipt
  comes_true (Put value) there (Inserted number k v) h = h
  comes_true (Set value) false (Inserted number k v) h = h
  comes_true (Set value) true (Modified number k old v) h = h
  comes_true TakeOut there (Deleted number k v) h = h
  comes_true wished there receipt h = absurd h

-- the receipt of a wish is that of its change, or of a look that answers it
is_receipt_for : (number key : ℕ) (wished : Wished) (had : Option ℕ) → IsReceiptFor key wished (receipt_of_wish number key wished had)
is_receipt_for number key (Put value) None = (refl, refl)
is_receipt_for number key (Put value) (Some had) = (refl, refl)
is_receipt_for number key (Set value) None = (refl, refl)
is_receipt_for number key (Set value) (Some had) = (refl, refl)
is_receipt_for number key TakeOut None = (refl, refl)
is_receipt_for number key TakeOut (Some had) = refl

wish_comes_true : (key : ℕ) (wished : Wished) (receipt : Receipt) → IsReceiptOfWish key wished receipt → IsReceiptFor key wished receipt
wish_comes_true key wished receipt h = subst (IsReceiptFor key wished) (sym h.2) (is_receipt_for h.0 key wished h.1)

-- no wish comes true by a change of the shape alone
shape_is_no_change : (key : ℕ) (wished : Wished) (receipt : Receipt) → without_shapes (receipt ∷ []) ≡ [] → IsChangeFor key wished receipt → ⊥
shape_is_no_change key (Put value) (Inserted n k v) none reported = cc
shape_is_no_change key (Put value) receipt none reported = reported
shape_is_no_change key (Set value) (Inserted n k v) none reported = cc
shape_is_no_change key (Set value) (Modified n k old v) none reported = cc
shape_is_no_change key (Set value) receipt none reported = reported
shape_is_no_change key TakeOut (Deleted n k v) none reported = cc
shape_is_no_change key TakeOut receipt none reported = reported

-- after the receipt of a wish that came true stand only receipts of shape
alone_at_once : (key : ℕ) (wished : Wished) (receipt : Receipt) (behind : List Receipt) → without_shapes behind ≡ [] → IsReceiptFor key wished receipt → without_shapes (receipt ∷ behind) ≡ receipt ∷ []
alone_at_once key wished (Inserted n k v) behind shapes reported = ap (λ l. Inserted n k v ∷ l) shapes
alone_at_once key wished (Deleted n k v) behind shapes reported = ap (λ l. Deleted n k v ∷ l) shapes
alone_at_once key wished (Modified n k old v) behind shapes reported = ap (λ l. Modified n k old v ∷ l) shapes
alone_at_once key wished (Looked at k found) behind shapes reported = ap (λ l. Looked at k found ∷ l) shapes
alone_at_once key wished (Shaped kind p other) behind shapes reported = absurd (shape_is_no_change key wished (Shaped kind p other) refl reported)

-- what makes a wish come true at once, one way or the other
abbrev pub MadeBy : ℕ → Wished → Performed → Seen → Seen → Type 0
MadeBy key wished done a b = Performs (actions.Record key wished) done a b ⊎ Performs (actions.Change key wished) done a b

-- a wish that came true at once adds its receipt
adds_for : (key : ℕ) (wished : Wished) (action : Action) (done : Performed) (had : Option ℕ) (a b : Seen) → Performs action done a b → IsReceiptFor key wished done.receipt → had ≡ had_by wished done.receipt
    → AddsReceipt (IsReplyOf key wished) had a b × Grows a b
adds_for key wished action done had a b h reported is = (
  (
    done.receipt,
    ap without_shapes h.trail ∙ (without_shapes-append a.trail (receipts_of action done)
        ∙ ap (λ (l : List Receipt). without_shapes a.trail ++ l) (alone_at_once key wished done.receipt (receipts_behind action done) (shapes_behind (consolidates_behind action done.receipt) done.page) reported)),
    replied_by key wished done.receipt had is reported,
  ),
  performed_grows action done a b h,
)

pub adds_at_once : (key : ℕ) (wished : Wished) (done : Performed) (a b : Seen) → MadeBy key wished done a b → (had : Option ℕ) → had ≡ had_by wished done.receipt → AddsReceipt (IsReplyOf key wished) had a b × Grows a b
adds_at_once key wished done a b (inl h) had is = adds_for key wished (actions.Record key wished) done had a b h (wish_comes_true key wished done.receipt h.reported.1) is
adds_at_once key wished done a b (inr h) had is = adds_for key wished (actions.Change key wished) done had a b h (wish_comes_true key wished done.receipt h.reported.1) is

-- what was performed, if it was, makes the wish come true one way or the other, and otherwise nothing was done
module _ (key : ℕ) (wished : Wished) (a b : Seen) where
  pub recorded : (result : Result Performed Unperformed) → PerformedBy (actions.Record key wished) result a b → IfSome (result_ok result) (λ done. MadeBy key wished done a b)
  recorded (Ok done) h = inl h
  recorded (Err why) h = tt

  pub changed : (result : Result Performed Unperformed) → PerformedBy (actions.Change key wished) result a b → IfSome (result_ok result) (λ done. MadeBy key wished done a b)
  changed (Ok done) h = inr h
  changed (Err why) h = tt

  pub unrecorded : (result : Result Performed Unperformed) → PerformedBy (actions.Record key wished) result a b → IfNone (result_ok result) (b ≡ a)
  unrecorded (Ok done) h = tt
  unrecorded (Err (Denied (Refused reason))) h = h
  unrecorded (Err (Denied NoMemory)) h = h
  unrecorded (Err StepByStep) h = h

  pub unchanged : (result : Result Performed Unperformed) → PerformedBy (actions.Change key wished) result a b → IfNone (result_ok result) (b ≡ a)
  unchanged (Ok done) h = tt
  unchanged (Err (Denied (Refused reason))) h = h
  unchanged (Err (Denied NoMemory)) h = h
  unchanged (Err StepByStep) h = h

pub ruleset made_at_once = (recorded, changed, unrecorded, unchanged)
