-- `closed` writes null, and owns nothing.
use Rattle.std.proofs.Common.{◌≡◌, Bool, true, [], ◌∷◌, refl}
use base.Logic.{emp}
use base.Fml.{ftrue, fex}
use types.Kit.{‵, raw, ◌⊛◌, ◌$◌, ◌∵◌, !, qed, by, keep, split, fpack, use0}
use types.Run.{lit, no_more, and_then, returns, enter}
use types.ByLocal.{alloc_all, pass_all, free_all, look_at, sets}
use types.Part.{agg}
use contract.Monad.{fact, fact_i}
use contract.Running.{tables}
use denote.RattleType.{owns}
use denote.Signature.{types_at}
use denote.RawPtr.{null_ptr, ptr_val}
use denote.Steps.{nothing}
use denote.Triple.Walked.{Stays, walk_of}
use Rattle.std.proofs.raw_atomic.Walks.{proved_at, leaves}
use Rattle.nifforan_handle.specs.declared.held.Held.TheVariants.{Closed}
use Rattle.nifforan_handle.specs.Owned.{held_row, null_or_boxed}
use Rattle.nifforan_handle.proofs.Steps.{Handle, one, one_good, handle_in}
use Rattle.nifforan_handle.specs.contracts.handle.Handle.closed as F
use Rattle.nifforan_handle.proofs.handle.Handle.closed.Statement.{statement}
use Rattle.nifforan_handle.proofs.handle.Handle.closed.Code as code

pub closed_spec : {M : Type 1} → statement M
closed_spec 𝓤 𝓛 𝓜 𝓡 wired =
    let 𝓣 = tables 𝓤 𝓛.H 𝓜 𝓡 𝓡.env in let c = F.clauses 𝓛 𝓜.mem 𝓡.returns in let hs : Stays F.ended.signature.params F.ended.kept = tt in let made : Handle.Denot = record { at = null_ptr; held = Closed } in
    proved_at 𝓛 F.ended hs c 𝓜 𝓡 tt F.Key.name code.function (code.unfolded 𝓤 𝓛.H 𝓜 𝓡 wired) (λ z are.
    qed 𝓛 ((‵ ftrue ⊛ ‵ (owns (types_at F.ended.signature.params z.0.0) z.0.3 z.0.4)) ∷ raw ((c z.0.0 z.0.3).requires z.1) ∷ []) ∵ split ! $
    enter ! 𝓣.C 𝓣.Λ code.function [] ((walk_of 𝓛 F.ended hs c).post z) $ alloc_all ! (λ l. pass_all ! refl tt $ sets ! (agg ! (and_then ! (lit ! tt) (no_more !))) refl (one_good null_ptr) $
    nothing ! $ fpack ! (made.held ≡ Closed) (λ _. ftrue) refl $ fpack ! (made.at ≡ null_ptr) (λ _. fex (made.held ≡ Closed) (λ _. ftrue)) refl $ fpack ! Bool (null_or_boxed held_row Closed made.at made.held) true $ handle_in ! made $
    use0 𝓛 (raw (fact 𝓤 (made.held ≡ Closed))) (fact_i 𝓤 (made.held ≡ Closed) (emp 𝓤) refl) $ nothing ! $
    returns ! (look_at ! 0 refl) $ free_all ! refl $ keep ! (3 ∷ 0 ∷ 2 ∷ 1 ∷ []) $ by ! (leaves 𝓛 F.ended hs c z (one (ptr_val null_ptr)) made tt tt)))
