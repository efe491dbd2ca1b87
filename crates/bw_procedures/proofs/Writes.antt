-- What a write leaves in the end, attempt by attempt.
use Rattle.std.proofs.Common.{◌≡◌, inl, inr, ℕ, List, [], ◌∷◌, ◌++◌, Option, Some, None, Result, Ok, Err, IfSome, refl, ap, sym, subst, ◌∙◌, arith}
use Rattle.std.specs.Prelude.{IsErrAnd}
use Rattle.bw_step.specs.declared.receipt.Receipt.{Receipt}
use Rattle.bw_procedures.specs.declared.fault.Fault.{Fault}
use Rattle.bw_procedures.specs.declared.fault.Fault.TheVariants as faults
use Rattle.bw_procedures.specs.declared.reply.Done.{Done}
use Rattle.bw_procedures.specs.Seen.{Seen, Grows}
use Rattle.bw_procedures.specs.Calls.{OnlyReshapes, IsEarned, limit_of}
use Rattle.bw_keys.specs.declared.wished.Wished.{Wished}
use Rattle.bw_procedures.specs.Writing.{AddsReceipt, EndsEarned, IsReplyOf, KeptIsEarned}
use Rattle.bw_procedures.specs.Writes.{Writes}
use Rattle.bw_procedures.proofs.Removals.{grow_then}
use Rattle.bw_procedures.proofs.Rounds.{earned_then, reshapes_then}
use Rattle.bw_procedures.proofs.Trails.{adds_nothing}

-- a fault that was earned stays so
earned_later : (limit : ℕ) (fault : Fault) (a b c : Seen) → IsEarned limit a b fault → Grows b c → IsEarned limit a c fault
earned_later limit faults.Contended a b c is grows = omega (arith, grows.effort, is)
earned_later limit faults.NoMemory a b c is grows = tt
earned_later limit faults.TableFull a b c is grows = omega (arith, grows.full, is)
earned_later limit faults.TooTall a b c is grows = omega (arith, grows.tall, is)
earned_later limit faults.Worn a b c is grows = omega (arith, grows.worn, is)

kept_later : (limit : ℕ) (kept : Option Fault) (a b c : Seen) → KeptIsEarned limit a b kept → Grows b c → IfSome kept (IsEarned limit a c)
kept_later limit None a b c is grows = tt
kept_later limit (Some fault) a b c is grows = earned_later limit fault a b c is grows

-- the fault in the end
ends_later : (limit : ℕ) (kept fault : Option Fault) (a b c : Seen) → IfSome kept (IsEarned limit a b) → Grows a b → Grows b c → EndsEarned limit kept fault b c → IfSome fault (IsEarned limit a c)
ends_later limit kept None a b c is first then ends = tt
ends_later limit kept (Some fault) a b c is first then (inl same) = let earned : IsEarned limit a b fault = rw same at is in earned_later limit fault a b c earned then
ends_later limit kept (Some fault) a b c is first then (inr earned) = earned_then limit fault a b c first earned

-- nothing was done yet
pub reshapes_none : (a : Seen) → OnlyReshapes a a
reshapes_none a = record { without_shapes = refl; grows = record { config = refl; trail = adds_nothing a.trail a.trail refl; effort = omega arith; full = omega arith; tall = omega arith; worn = omega arith } }

-- a call that began with a, and came to b without a reply
module _ {T : Type 0} (is_of : T → Receipt → Type 0) (limit : ℕ) (a b : Seen) (begins : limit ≡ limit_of a) (before : OnlyReshapes a b) where
  adds_since : (reply : T) (c : Seen) → AddsReceipt is_of reply b c → AddsReceipt is_of reply a c
  adds_since reply c adds = (adds.0, adds.1 ∙ ap (λ (l : List Receipt). l ++ adds.0 ∷ []) before.without_shapes, adds.2)

  from_the_limit : (fault : Option Fault) (c : Seen) → IfSome fault (IsEarned limit a c) → IfSome fault (IsEarned (limit_of a) a c)
  from_the_limit fault c earned = subst (λ (n : ℕ). IfSome fault (IsEarned n a c)) begins earned

  -- the reply ends it
  pub replied_writes : (reply : T) (kept : Option Fault) (c : Seen) → KeptIsEarned limit a b kept → AddsReceipt is_of reply b c × Grows b c → Writes is_of (Ok (record { reply = reply; fault = kept })) a c
  replied_writes reply kept c earned done = record {
    grows = grow_then a b c before.grows done.1;
    receipt = adds_since reply c done.0;
    no_receipt = tt;
    fault = tt;
    kept = from_the_limit kept c (kept_later limit kept a b c earned done.1);
  }

  -- the page is tended after it
  pub tended_writes : (ended : Done T) (reply : T) (kept : Option Fault) (c d : Seen) → ended.reply ≡ reply → KeptIsEarned limit a b kept → AddsReceipt is_of reply b c × Grows b c → OnlyReshapes c d
      → EndsEarned limit kept ended.fault c d → Writes is_of (Ok ended) a d
  tended_writes ended reply kept c d is earned done tended ends =
      let adds = adds_since reply c done.0 in
      let first = grow_then a b c before.grows done.1 in
      record {
        grows = grow_then a c d first tended.grows;
        receipt = (adds.0, tended.without_shapes ∙ adds.1, subst (λ (it : T). is_of it adds.0) (sym is) adds.2);
        no_receipt = tt;
        fault = tt;
        kept = from_the_limit ended.fault d (ends_later limit kept ended.fault a c d (kept_later limit kept a b c earned done.1) first tended.grows ends);
      }

  -- a fault ends it
  pub failed_writes : (fault : Fault) (c : Seen) → OnlyReshapes b c × IsEarned limit b c fault → Writes is_of (Err fault) a c
  failed_writes fault c failed =
      let all = reshapes_then a b c before failed.0 in
      record { grows = all.grows; receipt = tt; no_receipt = all.without_shapes; fault = subst (λ (n : ℕ). IsEarned n a c fault) begins (earned_then limit fault a b c before.grows failed.1); kept = tt }

  pub fails_writes : (result : Result (Done T) Fault) (fault : Fault) (c : Seen) → IsErrAnd result (λ it. it ≡ fault) → OnlyReshapes b c × IsEarned limit b c fault → Writes is_of result a c
  fails_writes (Ok done) fault c is failed = absurd is
  fails_writes (Err it) fault c is failed = subst (λ (it : Fault). Writes is_of (Err it) a c) (sym is) (failed_writes fault c failed)

-- a call replies with what its key had, or with the fault
module _ {T : Type 0} (is_of : T → Receipt → Type 0) (key : ℕ) (wished : Wished) (a b : Seen) where
  pub reply_of : (reply : T) (had : Option ℕ) (fault : Option Fault)
      → ((receipt : Receipt) → IsReplyOf key wished had receipt → is_of reply receipt)
      → Writes (IsReplyOf key wished) (Ok (record { reply = had; fault = fault })) a b
      → Writes is_of (Ok (record { reply = reply; fault = fault })) a b
  reply_of reply had fault goes h = record {
    grows = h.grows;
    receipt = (h.receipt.0, h.receipt.1, goes h.receipt.0 h.receipt.2);
    no_receipt = tt;
    fault = tt;
    kept = h.kept;
  }

  pub fault_of : (result : Result (Done T) Fault) (fault : Fault) → IsErrAnd result (λ it. it ≡ fault)
      → Writes (IsReplyOf key wished) (Err fault) a b → Writes is_of result a b
  fault_of (Ok done) fault is h = absurd is
  fault_of (Err it) fault is h =
      let same : Writes is_of (Err fault) a b = record { grows = h.grows; receipt = tt; no_receipt = h.no_receipt; fault = h.fault; kept = tt } in
      subst (λ (it : Fault). Writes is_of (Err it) a b) (sym is) same

pub ruleset replies_by = (reply_of, fault_of)
