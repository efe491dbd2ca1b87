-- What steps that only cost effort leave, one after the other.
use Rattle.std.proofs.Common.{ℕ, List, [], ◌∷◌, ◌++◌, Option, Some, None, Result, Ok, Err, ap, ◌∙◌, arith}
use Rattle.bw_delta.specs.declared.fault.NoMemory.{NoMemory}
use Rattle.bw_step.specs.declared.view.Look.{Look}
use Rattle.bw_step.specs.declared.place.Go.{Go}
use Rattle.bw_step.specs.declared.place.Go.TheVariants.{Gone, Right, Down, Here}
use Rattle.bw_step.specs.declared.receipt.Receipt.{Receipt}
use Rattle.bw_step.specs.declared.receipt.Receipt.TheVariants as receipts
use Rattle.bw_procedures.specs.declared.steps.Keep.TheVariants.{Always}
use Rattle.bw_procedures.specs.Seen.{Seen, SameButEffort, SameCounts, Visited, Looked}
use Rattle.bw_procedures.specs.Calls.{OnlySpends, Sought}

same_then : (a b c : Seen) → SameButEffort a b → SameButEffort b c → SameButEffort a c
same_then a b c p q = record { config = q.config ∙ p.config; trail = q.trail ∙ p.trail; full = q.full ∙ p.full; tall = q.tall ∙ p.tall; worn = q.worn ∙ p.worn }

pub spends_visited : (a b c : Seen) (go : Go) → OnlySpends a b → Visited go b c → OnlySpends a c
spends_visited a b c Gone p q = record { same = same_then a b c p.same q.0; effort = omega arith }
spends_visited a b c (Right place) p q = record { same = same_then a b c p.same q.0; effort = omega arith }
spends_visited a b c (Down place) p q = record { same = same_then a b c p.same q.0; effort = omega arith }
spends_visited a b c (Here view) p q = record { same = same_then a b c p.same q.0; effort = omega arith }

counts_then : (a b c : Seen) → SameButEffort a b → SameCounts b c → SameCounts a c
counts_then a b c p q = record { config = q.config ∙ p.config; full = q.full ∙ p.full; tall = q.tall ∙ p.tall; worn = q.worn ∙ p.worn }

pub sought : (key : ℕ) (answer : Result (Option Look) NoMemory) (a b c : Seen) → OnlySpends a b → Looked Always key answer b c → Sought key answer a c
sought key (Ok None) a b c p q = (
  record { same = record { config = q.0.config ∙ p.same.config; trail = q.1 ∙ p.same.trail; full = q.0.full ∙ p.same.full; tall = q.0.tall ∙ p.same.tall; worn = q.0.worn ∙ p.same.worn }; effort = omega (arith, p.effort, q.2) },
  omega (arith, p.effort, q.2),
)
sought key (Ok (Some look)) a b c p q =
    (counts_then a b c p.same q.0, q.1 ∙ ap (λ (trail : List Receipt). trail ++ receipts.Looked look.at key look.found ∷ []) p.same.trail, omega (arith, p.effort, q.2))
sought key (Err no_memory) a b c p q =
    record {
      same = record {
        config = ap (λ (s : Seen). s.config) q ∙ p.same.config;
        trail = ap (λ (s : Seen). s.trail) q ∙ p.same.trail;
        full = ap (λ (s : Seen). s.full) q ∙ p.same.full;
        tall = ap (λ (s : Seen). s.tall) q ∙ p.same.tall;
        worn = ap (λ (s : Seen). s.worn) q ∙ p.same.worn;
      };
      effort = omega (arith, ap (λ (s : Seen). s.effort) q, p.effort);
    }
