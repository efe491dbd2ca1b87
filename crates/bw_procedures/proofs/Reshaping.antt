-- What steps that change only the tree's shape leave.
use Rattle.std.proofs.Common.{◌≢◌, ℕ, zero, suc, ◌+◌, ◌<◌, ◌≤◌, ◌^◌, List, [], ◌∷◌, ◌++◌, length, Option, Some, None, Result, Ok, Err, IfErr, OnOk, refl, sym, ap, subst, ◌∙◌, append-nil, arith}
use Rattle.bw_keys.specs.declared.page.Pid.{Pid}
use Rattle.bw_step.specs.Proposals.{Proposal, insert, delete, modify}
use Rattle.bw_step.specs.Steps.{ChangesShape}
use Rattle.bw_step.specs.declared.receipt.Receipt.{Receipt}
use Rattle.bw_step.specs.declared.receipt.Receipt.TheVariants.{Shaped}
use Rattle.bw_step.specs.Tellings.{without_shapes}
use Rattle.bw_step.proofs.Tellings.{without_shapes-append}
use Rattle.bw_procedures.specs.Seen.{Seen, SameCounts, OnlyAdds, Grows, IsAccepted}
use Rattle.bw_procedures.proofs.Trails.{adds_by, adds_then}
use Rattle.bw_procedures.specs.declared.fault.Fault.{Fault}
use Rattle.bw_procedures.specs.Calls.{OnlyReshapes, ReshapesWithin, IsEarned, RoseBy, raised, TakesShapes, SplitAtOnce}
use Rattle.bw_procedures.specs.Tending.{IsTended}

pub counts_grow : (a b : Seen) → SameCounts a b → OnlyAdds a.trail b.trail → a.effort ≤ b.effort → Grows a b
counts_grow a b p adds q = record { config = p.config; trail = adds; effort = q; full = omega arith; tall = omega arith; worn = omega arith }

pub shape_accepted : (step : Proposal) (receipt : Receipt) (a b : Seen) → ChangesShape step → IsAccepted step receipt a b → OnlyReshapes a b × RoseBy 1 a.effort b.effort
shape_accepted (insert page seen key value) receipt a b shape h = absurd shape
shape_accepted (delete page seen key) receipt a b shape h = absurd shape
shape_accepted (modify page seen key value) receipt a b shape h = absurd shape
shape_accepted step (Shaped kind page other) a b shape h = (
  record {
    without_shapes = ap without_shapes h.trail ∙ (without_shapes-append a.trail (Shaped kind page other ∷ []) ∙ append-nil (without_shapes a.trail));
    grows = counts_grow a b h.counts (adds_by a.trail b.trail (Shaped kind page other ∷ []) h.trail) (omega (arith, h.effort));
  },
  omega (arith, h.effort),
)
shape_accepted step receipt a b shape h = absurd h.reported

-- the parts of what a call that only reshapes leaves
pub within_reshapes : {T : Type 0} → (cost limit : ℕ) (result : Result T Fault) (a b : Seen) → ReshapesWithin cost limit result a b → OnlyReshapes a b
within_reshapes cost limit (Ok it) a b is = is.0
within_reshapes cost limit (Err fault) a b is = is.0

pub within_cost : {T : Type 0} → (cost limit : ℕ) (result : Result T Fault) (a b : Seen) → ReshapesWithin cost limit result a b → OnOk result (RoseBy cost a.effort b.effort)
within_cost cost limit (Ok it) a b is = is.1
within_cost cost limit (Err fault) a b is = tt

pub within_earned : {T : Type 0} → (cost limit : ℕ) (result : Result T Fault) (a b : Seen) → ReshapesWithin cost limit result a b → IfErr result (IsEarned limit a b)
within_earned cost limit (Ok it) a b is = tt
within_earned cost limit (Err fault) a b is = is.1

-- what a call that only reshapes leaves
pub ruleset within = (within_reshapes, within_cost, within_earned)

raised_up : (times n : ℕ) → n ≤ raised times n
raised_up zero n = omega arith
raised_up (suc times) n = let up = raised_up times n in omega (arith, up)

raised_once : (times n : ℕ) → RoseBy 1 n (raised (suc times) n)
raised_once times n = let up = raised_up times n in omega (arith, up)

-- steps that change only the shape, taken at once
shapes_taken : (receipts : List Receipt) (a b : Seen) → receipts ≢ [] → TakesShapes receipts a b → OnlyReshapes a b × RoseBy 1 a.effort b.effort
shapes_taken [] a b some h = absurd (some refl)
shapes_taken (receipt ∷ rest) a b some h =
    let rose : RoseBy 1 a.effort b.effort = subst (RoseBy 1 a.effort) (sym h.effort) (raised_once (length rest) a.effort) in
    let up : a.effort ≤ b.effort = let more = raised_up (suc (length rest)) a.effort in omega (arith, more, h.effort) in (
      record {
        without_shapes = ap without_shapes h.trail ∙ (without_shapes-append a.trail (receipt ∷ rest) ∙ (ap (λ (l : List Receipt). without_shapes a.trail ++ l) h.shapes ∙ append-nil (without_shapes a.trail)));
        grows = counts_grow a b h.counts (adds_by a.trail b.trail (receipt ∷ rest) h.trail) up;
      },
      rose,
    )

-- a page that was split at once brings the effort nearer to the limit
pub split_tends : (limit : ℕ) (split : Option Pid) (a b c : Seen) → limit < 2 ^ 64 → OnlyReshapes a b → b.effort + 4 ≤ limit → SplitAtOnce split b c → IsTended limit (Ok split) a c
split_tends limit None a b c fits before covered same = let Tended : Seen → Type 0 = λ s. IsTended {T = Pid} limit (Ok None) a s in subst Tended (sym same) (before, tt)
split_tends limit (Some page) a b c fits before covered split =
    let taken = shapes_taken split.0 b c split.1 split.2 in
    let x = before.grows in
    let y = taken.0.grows in (
      record {
        without_shapes = taken.0.without_shapes ∙ before.without_shapes;
        grows = record { config = y.config ∙ x.config; trail = adds_then a.trail b.trail c.trail x.trail y.trail; effort = omega (arith, x.effort, y.effort); full = omega (arith, x.full, y.full); tall = omega (arith, x.tall, y.tall); worn = omega (arith, x.worn, y.worn) };
      },
      omega (arith, x.effort, taken.1),
    )
