-- What a round leaves that ends with another call.
use Rattle.std.proofs.Common.{◌≡◌, ℕ, Result, Ok, Err, IfOk, sym, ap, subst, ◌∙◌, arith}
use Rattle.bw_step.specs.Tellings.{without_shapes}
use Rattle.bw_procedures.specs.declared.fault.Fault.{Fault}
use Rattle.bw_procedures.specs.declared.fault.Fault.TheVariants as faults
use Rattle.bw_procedures.specs.declared.round.Rung.{Rung}
use Rattle.bw_procedures.specs.declared.round.Turn.{Turn}
use Rattle.bw_procedures.specs.declared.round.Turn.TheVariants.{Over}
use Rattle.bw_procedures.specs.Seen.{Seen, Grows, Idled}
use Rattle.bw_procedures.specs.Calls.{OnlyReshapes, ReshapesWithin, IsEarned, RoseBy}
use Rattle.bw_procedures.specs.Rounds.{IsRound}
use Rattle.bw_procedures.proofs.Trails.{adds_nothing, adds_then}

pub reshapes_then : (a b c : Seen) → OnlyReshapes a b → OnlyReshapes b c → OnlyReshapes a c
reshapes_then a b c p q =
    let x = p.grows in
    let y = q.grows in
    record {
      without_shapes = q.without_shapes ∙ p.without_shapes;
      grows = record {
        config = y.config ∙ x.config;
        trail = adds_then a.trail b.trail c.trail x.trail y.trail;
        effort = omega (arith, x.effort, y.effort);
        full = omega (arith, x.full, y.full);
        tall = omega (arith, x.tall, y.tall);
        worn = omega (arith, x.worn, y.worn);
      };
    }

-- a fault that is earned by a part of a call is earned by the whole
pub earned_then : (limit : ℕ) (fault : Fault) (a b c : Seen) → Grows a b → IsEarned limit b c fault → IsEarned limit a c fault
earned_then limit faults.Contended a b c grows is = is
earned_then limit faults.NoMemory a b c grows is = tt
earned_then limit faults.TableFull a b c grows is = omega (arith, grows.full, is)
earned_then limit faults.TooTall a b c grows is = omega (arith, grows.tall, is)
earned_then limit faults.Worn a b c grows is = omega (arith, grows.worn, is)

-- a page is consolidated after a refusal, and the round is over
round_over : (rung : Rung) (kind limit : ℕ) (turn : Turn) (a c : Seen) → turn ≡ Over → OnlyReshapes a c → RoseBy 1 a.effort c.effort → IsRound rung kind limit (Ok turn) a c
round_over rung kind limit turn a c is reshapes cost =
    let Round : Turn → Type 0 = λ it. IsRound rung kind limit (Ok it) a c in
    subst Round (sym is) (reshapes, cost, tt)

pub round_ends : (rung : Rung) (kind limit : ℕ) (result : Result Turn Fault) (a b c : Seen) → OnlyReshapes a b → ReshapesWithin 1 limit result b c → IfOk result (λ (turn : Turn). turn ≡ Over) → IsRound rung kind limit result a c
round_ends rung kind limit (Ok turn) a b c before after over =
    round_over rung kind limit turn a c over (reshapes_then a b c before after.0) (omega (arith, before.grows.effort, after.1))
round_ends rung kind limit (Err fault) a b c before after over =
    (reshapes_then a b c before after.0, earned_then limit fault a b c before.grows after.1)

-- a worker that finds nothing to do spends effort instead
pub idles : (a b c d : Seen) → OnlyReshapes a b → OnlyReshapes b c → Idled c d → OnlyReshapes a d × RoseBy 1 a.effort d.effort
idles a b c d before round idled =
    let so_far = reshapes_then a b c before round in (
      record {
        without_shapes = ap without_shapes idled.0.trail ∙ so_far.without_shapes;
        grows = record {
          config = idled.0.config ∙ so_far.grows.config;
          trail = adds_then a.trail c.trail d.trail so_far.grows.trail (adds_nothing c.trail d.trail idled.0.trail);
          effort = omega (arith, so_far.grows.effort, idled.1);
          full = omega (arith, so_far.grows.full, idled.0.full);
          tall = omega (arith, so_far.grows.tall, idled.0.tall);
          worn = omega (arith, so_far.grows.worn, idled.0.worn);
        };
      },
      omega (arith, so_far.grows.effort, idled.1),
    )
