-- What two parts of a call leave, one after the other.
use Rattle.std.proofs.Common.{◌≡◌, ℕ, Bool, ◌-◌, ◌<◌, ◌≤◌, ◌^◌, Option, Some, None, Result, Ok, Err, ap, sym, subst, arith}
use Rattle.std.specs.Prelude.{IsErrAnd}
use Rattle.bw_step.specs.Tellings.{without_shapes}
use Rattle.bw_procedures.specs.declared.fault.Fault.{Fault}
use Rattle.bw_procedures.specs.declared.round.Rung.{Rung}
use Rattle.bw_procedures.specs.declared.round.Turn.{Turn}
use Rattle.bw_procedures.specs.declared.round.Turn.TheVariants.{Over, Idle, Next}
use Rattle.bw_procedures.specs.Seen.{Seen, SameButEffort}
use Rattle.bw_step.specs.declared.receipt.Receipt.{Receipt}
use Rattle.bw_procedures.specs.declared.writing.Tried.{Tried}
use Rattle.bw_procedures.specs.Calls.{OnlySpends, OnlyReshapes, ReshapesWithin, RoseBy, IsEarned}
use Rattle.bw_procedures.specs.Rounds.{IsRound}
use Rattle.bw_procedures.specs.Tending.{IsTended}
use Rattle.bw_procedures.specs.Writing.{Attempts}
use Rattle.bw_procedures.proofs.Removals.{spent_grows}
use Rattle.bw_procedures.proofs.Rounds.{reshapes_then, earned_then}

pub spends_reshapes : (a b : Seen) → OnlySpends a b → OnlyReshapes a b
spends_reshapes a b spent = record { without_shapes = ap without_shapes spent.same.trail; grows = spent_grows a b spent }

pub same_reshapes : (a b : Seen) → SameButEffort a b → a.effort ≤ b.effort → OnlyReshapes a b
same_reshapes a b same up = spends_reshapes a b (record { same = same; effort = up })

pub reshapes_and_costs : (a b c : Seen) → OnlyReshapes a b → OnlyReshapes b c × RoseBy 1 b.effort c.effort → OnlyReshapes a c × RoseBy 1 a.effort c.effort
reshapes_and_costs a b c before after = (reshapes_then a b c before after.0, omega (arith, before.grows.effort, after.1))

pub spends_then : (a b c : Seen) → OnlySpends a b → OnlyReshapes b c × RoseBy 1 b.effort c.effort → OnlyReshapes a c × RoseBy 1 a.effort c.effort
spends_then a b c before after = reshapes_and_costs a b c (spends_reshapes a b before) after

-- a round after what only reshaped
pub round_then : (rung : Rung) (kind limit : ℕ) (result : Result Turn Fault) (a b c : Seen) → OnlyReshapes a b → IsRound rung kind limit result b c → IsRound rung kind limit result a c
round_then rung kind limit (Ok Over) a b c before round = (reshapes_then a b c before round.0, omega (arith, before.grows.effort, round.1), tt)
round_then rung kind limit (Ok Idle) a b c before round = (reshapes_then a b c before round.0, tt, tt)
round_then rung kind limit (Ok (Next task)) a b c before round = (reshapes_then a b c before round.0, tt, round.2)
round_then rung kind limit (Err fault) a b c before round = (reshapes_then a b c before round.0, earned_then limit fault a b c before.grows round.1)

-- a step within the effort brings that nearer to its limit
pub nears : (limit : ℕ) (a b c : Seen) → limit < 2 ^ 64 → OnlyReshapes a b → b.effort < limit → RoseBy 1 b.effort c.effort → limit - c.effort < limit - a.effort
nears limit a b c fits before within rose = omega (arith, before.grows.effort, within, rose, fits)

-- tending ends with a part that only reshapes, after a step that brought the effort nearer to its limit
pub tends_then : {T : Type 0} → (limit : ℕ) (result : Result (Option T) Fault) (a b c : Seen) → OnlyReshapes a b → limit - b.effort < limit - a.effort → ReshapesWithin 0 limit result b c → IsTended limit result a c
tends_then limit (Ok None) a b c before nearer after = (reshapes_then a b c before after.0, tt)
tends_then limit (Ok (Some next)) a b c before nearer after = (reshapes_then a b c before after.0, omega (arith, nearer, after.0.grows.effort))
tends_then limit (Err fault) a b c before nearer after = (reshapes_then a b c before after.0, earned_then limit fault a b c before.grows after.1)

-- what ends with its second part's fault only reshapes, and that fault is earned
fails_then : (limit : ℕ) (it fault : Fault) (a b c : Seen) → it ≡ fault → OnlyReshapes a b → OnlyReshapes b c × IsEarned limit b c fault → OnlyReshapes a c × IsEarned limit a c it
fails_then limit it fault a b c is before after =
    let earned = earned_then limit fault a b c before.grows after.1 in
    (reshapes_then a b c before after.0, subst (λ (fault : Fault). IsEarned limit a c fault) (sym is) earned)

pub tends_fails : {T : Type 0} → (limit : ℕ) (result : Result (Option T) Fault) (fault : Fault) (a b c : Seen) → IsErrAnd result (λ it. it ≡ fault) → OnlyReshapes a b → OnlyReshapes b c × IsEarned limit b c fault → IsTended limit result a c
tends_fails limit (Ok next) fault a b c is before after = absurd is
tends_fails limit (Err it) fault a b c is before after = fails_then limit it fault a b c is before after

pub attempt_fails : (is_of : Option ℕ → Receipt → Type 0) (passes_posts : Bool) (limit : ℕ) (result : Result Tried Fault) (fault : Fault) (a b c : Seen) → IsErrAnd result (λ it. it ≡ fault) → OnlyReshapes a b → OnlyReshapes b c × IsEarned limit b c fault → Attempts is_of passes_posts limit result a c
attempt_fails is_of passes_posts limit (Ok tried) fault a b c is before after = absurd is
attempt_fails is_of passes_posts limit (Err it) fault a b c is before after = fails_then limit it fault a b c is before after
