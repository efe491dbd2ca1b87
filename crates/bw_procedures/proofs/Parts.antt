-- What a part of a call leaves, with what was done before it.
use Rattle.std.proofs.Common.{◌≡◌, ℕ, Option, Some, None, Result, Ok, Err, IfSome, sym, ap, subst, ◌∙◌, arith}
use Rattle.std.specs.Prelude.{IsErrAnd}
use Rattle.bw_keys.specs.declared.config.Config.{Config}
use Rattle.bw_procedures.specs.declared.fault.Fault.{Fault}
use Rattle.bw_procedures.specs.declared.fault.Fault.TheVariants as faults
use Rattle.bw_procedures.specs.declared.round.Rung.{Rung}
use Rattle.bw_procedures.specs.declared.round.Turn.{Turn}
use Rattle.bw_procedures.specs.Seen.{Seen, Grows}
use Rattle.bw_procedures.specs.Calls.{OnlyReshapes, OnlySpends, ReshapesWithin, IsEarned, Earned}
use Rattle.bw_procedures.specs.Rounds.{IsRound}
use Rattle.bw_procedures.specs.Tending.{IsTended}
use Rattle.bw_procedures.proofs.Rounds.{reshapes_then, earned_then}
use Rattle.bw_procedures.proofs.Writes.{reshapes_none}

-- a part that leaves the worker as it was
pub same_reshapes : (a b : Seen) → b ≡ a → OnlyReshapes a b
same_reshapes a b same = subst (λ (it : Seen). OnlyReshapes a it) (sym same) (reshapes_none a)

pub within_then : {T : Type 0} → (cost limit : ℕ) (result : Result T Fault) (a b c : Seen) → OnlyReshapes a b → ReshapesWithin cost limit result b c → ReshapesWithin cost limit result a c
within_then cost limit (Ok it) a b c before after = (reshapes_then a b c before after.0, omega (arith, before.grows.effort, after.1))
within_then cost limit (Err fault) a b c before after = (reshapes_then a b c before after.0, earned_then limit fault a b c before.grows after.1)

pub within_fails : {T : Type 0} → (cost limit : ℕ) (result : Result T Fault) (fault : Fault) (a b c : Seen) → IsErrAnd result (λ it. it ≡ fault) → OnlyReshapes a b → OnlyReshapes b c × IsEarned limit b c fault
    → ReshapesWithin cost limit result a c
within_fails cost limit (Ok it) fault a b c is before after = absurd is
within_fails cost limit (Err it) fault a b c is before after =
    let earned = earned_then limit fault a b c before.grows after.1 in
    (reshapes_then a b c before after.0, subst (λ (fault : Fault). IsEarned limit a c fault) (sym is) earned)

-- a round that ends with a part's fault
pub round_fails : (rung : Rung) (kind limit : ℕ) (result : Result Turn Fault) (fault : Fault) (a b : Seen) → IsErrAnd result (λ it. it ≡ fault) → OnlyReshapes a b × IsEarned limit a b fault → IsRound rung kind limit result a b
round_fails rung kind limit (Ok turn) fault a b is failed = absurd is
round_fails rung kind limit (Err it) fault a b is failed = (failed.0, subst (λ (fault : Fault). IsEarned limit a b fault) (sym is) failed.1)

-- tending that begins after what only reshaped
pub tended_then : {T : Type 0} → (limit : ℕ) (result : Result (Option T) Fault) (a b c : Seen) → OnlyReshapes a b → IsTended limit result b c → IsTended limit result a c
tended_then limit (Ok None) a b c before after = (reshapes_then a b c before after.0, tt)
tended_then limit (Ok (Some next)) a b c before after = (reshapes_then a b c before after.0, omega (arith, before.grows.effort, after.1))
tended_then limit (Err fault) a b c before after = (reshapes_then a b c before after.0, earned_then limit fault a b c before.grows after.1)

pub spends_more : (a b c : Seen) → OnlySpends a b → OnlySpends b c → OnlySpends a c
spends_more a b c p q = record {
  same = record { config = q.same.config ∙ p.same.config; trail = q.same.trail ∙ p.same.trail; full = q.same.full ∙ p.same.full; tall = q.same.tall ∙ p.same.tall; worn = q.same.worn ∙ p.same.worn };
  effort = omega (arith, p.effort, q.effort);
}

-- a fault that a call within another earned is earned by that one
pub earned_behind : (fault : Fault) (a b c : Seen) → Grows a b → Earned b c fault → Earned a c fault
earned_behind faults.Contended a b c grows is = let tries : b.config.tries ≡ a.config.tries = ap (λ (it : Config). it.tries) grows.config in omega (arith, tries, grows.effort, is)
earned_behind faults.NoMemory a b c grows is = tt
earned_behind faults.TableFull a b c grows is = omega (arith, grows.full, is)
earned_behind faults.TooTall a b c grows is = omega (arith, grows.tall, is)
earned_behind faults.Worn a b c grows is = omega (arith, grows.worn, is)

pub earned_if_any : (fault : Option Fault) (a b c : Seen) → Grows a b → IfSome fault (Earned b c) → IfSome fault (Earned a c)
earned_if_any None a b c grows is = tt
earned_if_any (Some fault) a b c grows is = earned_behind fault a b c grows is
