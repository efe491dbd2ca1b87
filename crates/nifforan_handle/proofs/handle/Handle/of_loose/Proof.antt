-- `of_loose` keeps the pointer, and what lies there goes with it.
use Rattle.std.proofs.Common.{◌≡◌, Bool, false, List, [], ◌∷◌, ◌++◌, refl, sym, subst}
use mir.Val.{Val}
use base.Logic.{SProp, ent, emp, id⊢}
use base.Fml.{ftrue}
use prog.Wp.{WpFn}
use types.Kit.{‵, raw, ◌⊛◌, ◌$◌, ◌∵◌, !, qed, by, move, keep, split, fsplit, fjoin, fpack, suffices, use0, use1}
use types.Run.{stop, fld, of_opd, no_more, and_then, returns, enter}
use types.ByLocal.{alloc_all, pass_all, free_all, look_at, get, get_in, sets}
use types.Part.{agg, sub, whole}
use contract.Monad.{fact, fact_i}
use contract.Running.{tables}
use denote.Exit.{yes}
use denote.RattleType.{owns}
use denote.Signature.{types_at, plain}
use denote.RawPtr.{ptr_val}
use denote.Steps.{nothing}
use denote.Triple.Walked.{Stays, stay_dropped, walk_of, Goes-dropped}
use Rattle.core.proofs.atomic.Steps.{Ptr-Good}
use Rattle.std.proofs.raw_atomic.Walks.{proved_at, leaves}
use Rattle.nifforan_handle.specs.declared.held.Held.TheVariants.{Closed}
use Rattle.nifforan_handle.specs.Owned.{held_row, null_or_boxed}
use Rattle.nifforan_handle.proofs.Steps.{Handle, Loose, one, one_good, handle_in, loose_out}
use Rattle.nifforan_handle.specs.contracts.handle.Handle.of_loose as F
use Rattle.nifforan_handle.proofs.handle.Handle.of_loose.Statement.{statement}
use Rattle.nifforan_handle.proofs.handle.Handle.of_loose.Code as code

pub of_loose_spec : {M : Type 1} → statement M
of_loose_spec 𝓤 𝓛 𝓜 𝓡 wired =
    let 𝓣 = tables 𝓤 𝓛.H 𝓜 𝓡 𝓡.env in let c = F.clauses 𝓛 𝓜.mem 𝓡.returns in let hs : Stays F.ended.signature.params F.ended.kept = (stay_dropped (plain (λ _. Loose held_row)) yes, tt) in
    proved_at 𝓛 F.ended hs c 𝓜 𝓡 (Goes-dropped 𝓛 0 (plain (λ _. Loose held_row)) yes (λ κs x f. refl), tt) F.Key.name code.function (code.unfolded 𝓤 𝓛.H 𝓜 𝓡 wired) (λ z are.
    let d = z.0.3.0 in let p = d.at in let made : Handle.Denot = record { at = p; held = d.value } in
    let Post : Val → SProp 𝓤 = (walk_of 𝓛 F.ended hs c).post z in let Run : List Val → SProp 𝓤 = λ vs. WpFn 𝓤 𝓛.H 𝓣.C 𝓣.Λ code.function vs Post in
    qed 𝓛 ((‵ ftrue ⊛ ‵ (owns (types_at F.ended.signature.params z.0.0) z.0.3 z.0.4)) ∷ raw ((c z.0.0 z.0.3).requires z.1) ∷ []) ∵ split ! $ move ! (1 ∷ []) $ fsplit ! $ loose_out held_row ! d z.0.4.0 (λ is.
    suffices ! (Run (one (ptr_val p) ∷ [])) (subst (λ (vs : List Val). ent 𝓤 (Run (one (ptr_val p) ∷ [])) (Run vs)) (sym (λ i. is i ++ [])) (id⊢ 𝓤 (Run (one (ptr_val p) ∷ [])))) $
    enter ! 𝓣.C 𝓣.Λ code.function (one (ptr_val p) ∷ []) Post $ alloc_all ! (λ l. pass_all ! refl (one_good p, tt) $
    sets ! (of_opd ! (get_in ! (fld ! refl (stop !)) (sub ! 0 refl (whole !)))) refl (Ptr-Good p) $ sets ! (of_opd ! (get ! refl)) refl (Ptr-Good p) $ sets ! (agg ! (and_then ! (get ! refl) (no_more !))) refl (one_good p) $
    -- [the box; true; nothing; the locals]
    use1 𝓛 (‵ (null_or_boxed held_row Closed made.at made.held false)) (id⊢ 𝓤 _) $ fpack ! Bool (null_or_boxed held_row Closed made.at made.held) false $ handle_in ! made $
    use0 𝓛 (raw (fact 𝓤 (made.held ≡ d.value))) (fact_i 𝓤 (made.held ≡ d.value) (emp 𝓤) refl) $ nothing ! $ nothing ! $ fjoin ! $
    returns ! (look_at ! 0 refl) $ free_all ! refl $ keep ! (4 ∷ 0 ∷ 2 ∷ 1 ∷ []) $ by ! (leaves 𝓛 F.ended hs c z (one (ptr_val p)) made (tt, tt) (tt, tt)))))
