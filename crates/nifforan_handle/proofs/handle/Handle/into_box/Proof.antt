-- `into_box` compares the pointer with null, and makes the box again.
use Rattle.std.proofs.Common.{◌≡◌, List, [], ◌∷◌, ◌++◌, refl, sym, ap, ◌∙◌, subst, lit<}
use mir.Raw.{raw as bare}
use mir.Val.{Val, vptr, vcons, vnil}
use base.Logic.{SProp, ent, emp, id⊢}
use base.Fraction.{full_share}
use base.Fml.{ftrue, flft}
use prog.Wp.{WpFn}
use types.Kit.{‵, raw, ◌⊛◌, some, later, at_ret, ◌$◌, ◌∵◌, !, qed, by, move, keep, drop, split, split3, join, fsplit3, fjoin, pick, suffices, use0, use1, await, rewrite, feq_i}
use types.Run.{stop, fld, lit, of_opd, bin, no_more, and_then, first, blocks, branches, skips, exec, returns, returns_within, enter}
use types.ByLocal.{alloc_all, pass_all, free_all, look_at, get, get_in, sets, lands_last, env}
use types.Part.{agg, sub, whole}
use types.Match.{live}
use contract.Monad.{fact, fact_i}
use contract.BorrowLft.{◌⊑◌, ⊑_static}
use contract.Running.{tables}
use denote.Exit.{yes, no}
use denote.RattleType.{RattleType, owns}
use denote.Signature.{types_at, type_at, plain}
use denote.RawPtr.{Ptr, block_ptr, null_ptr, ptr_val, tests_null}
use denote.Steps.{nothing, only, heard}
use denote.Param.{layout}
use denote.Param.Laws.{arg_laws}
use denote.Param.NoDrop.{glues}
use denote.Triple.Clauses.{Lasts, lasts}
use denote.Triple.Spec.{triple_of}
use denote.Triple.Call.{calls_at_last}
use denote.Triple.Walked.{Stays, stay_dropped, walk_of, Goes-dropped}
use Rattle.core.proofs.alloc.Shapes.{after}
use Rattle.core.proofs.atomic.Steps.{Ptr-Good, fm}
use Rattle.core.proofs.cell.Inside.{Good, one as single}
use Rattle.core.proofs.option.Made.{Some-of, none_of}
use Rattle.std.specs.contracts.alloc.Global as heap
use Rattle.std.proofs.alloc.Global.TheLaws as heap_laws
use Rattle.std.proofs.impls.GlobalAllocator.TheImpl.Met.{passed}
use Rattle.std.proofs.raw_atomic.Walks.{proved_at, leaves}
use Rattle.std.specs.declared.option.Option.TheVariants.{None, Some}
use Rattle.std_alloc.specs.Box.Ownership.{box_owns}
use Rattle.std_alloc.specs.contracts.boxed.Box.from_raw as callee
use Rattle.std_alloc.proofs.boxed.Box.from_raw.Met.{met}
use Rattle.std_alloc.proofs.BoxSteps.Form as box
use Rattle.std_alloc.proofs.BoxSteps.Steps.{box_out, box_in}
use Rattle.std_alloc.proofs.ResultValues.{and_tt}
use Rattle.nifforan_handle.proofs.held.Held.TheLaws as held_laws
use Rattle.nifforan_handle.specs.Owned.{held_row}
use Rattle.nifforan_handle.specs.declared.held.Held.TheVariants.{Closed}
use Rattle.nifforan_handle.proofs.Destruct++none.drop.Code.{code as drops_code}
use Rattle.nifforan_handle.proofs.Steps.{as_arg, heap_al, in_heap, Handle, one, one_good, handle_out, cases}
use Rattle.nifforan_handle.specs.contracts.handle.Handle.into_box as F
use Rattle.nifforan_handle.proofs.handle.Handle.into_box.Statement.{statement}
use Rattle.nifforan_handle.proofs.handle.Handle.into_box.Code as code

pub into_box_spec : {M : Type 1} → statement M
unfolding drops_code
into_box_spec {M} 𝓤 𝓛 𝓜 𝓡 wired =
    let H = 𝓛.H in let 𝓣 = tables 𝓤 H 𝓜 𝓡 𝓡.env in let c = F.clauses 𝓛 𝓜.mem 𝓡.returns in let fn = code.function in let Z = heap_al.row in let token = heap_al.g.dealloc_token in
    let X = as_arg held_row in let L = arg_laws (bare (layout held_row)) no held_row held_laws.the_row_laws refl in let E : box.Bx = in_heap X L in let B : RattleType = box.B E in
    let hs : Stays F.ended.signature.params F.ended.kept = (stay_dropped (plain (λ _. Handle)) yes, (stay_dropped (plain (λ _. heap.the_row)) yes, tt)) in
    let k = triple_of 𝓛 (callee.signature X Z heap_al.g heap_al.d heap_al.drops) (callee.spec X Z heap_al.g heap_al.d heap_al.drops 𝓛 𝓜.mem 𝓡.returns) in
    let meets = met 𝓤 𝓛 𝓜 𝓡 (code.calls-std_alloc::boxed::Box::from_raw 𝓡.env wired) X Z L heap_al.laws heap_al.g heap_al.d heap_al.drops
    (passed 𝓡.env (code.calls-std_heap::GlobalAllocator::allocate 𝓡.env wired) (code.calls-std_heap::GlobalAllocator::deallocate 𝓡.env wired) (code.calls-std_heap::GlobalAllocator::grow 𝓡.env wired) (code.calls-std_heap::GlobalAllocator::shrink 𝓡.env wired) M 𝓤 𝓛 𝓜 𝓡)
    (glues "nifforan_handle::Destruct++none::drop" 𝓡.env (code.calls-nifforan_handle::Destruct++none::drop 𝓡.env wired) Z heap_al.laws M 𝓤 𝓛 𝓜 𝓡) in
    proved_at 𝓛 F.ended hs c 𝓜 𝓡 (Goes-dropped 𝓛 0 (plain (λ _. Handle)) yes (λ κs x f. refl), (Goes-dropped 𝓛 0 (plain (λ _. heap.the_row)) yes (λ κs x f. refl), tt)) F.Key.name fn (code.unfolded 𝓤 H 𝓜 𝓡 wired) (λ z are.
    let d = z.0.3.0 in let a = z.0.3.1.0 in let Post : Val → SProp 𝓤 = (walk_of 𝓛 F.ended hs c).post z in let Run : List Val → SProp 𝓤 = λ vs. WpFn 𝓤 H 𝓣.C 𝓣.Λ fn vs Post in let Out : RattleType = type_at F.ended.signature.result z.0.0 in
    let h = single (layout heap.the_row) z.0.4.1.0 ((heap_laws.the_row_laws.lawful 𝓛).typed a z.0.4.1.0 are.1.0) in let args : Ptr → List Val = λ p. one (ptr_val p) ∷ h.0 ∷ [] in
    qed 𝓛 ((‵ ftrue ⊛ ‵ (owns (types_at F.ended.signature.params z.0.0) z.0.3 z.0.4)) ∷ raw ((c z.0.0 z.0.3).requires z.1) ∷ []) ∵ split ! $ move ! (1 ∷ []) $ fsplit3 ! $
    rewrite ! 1 (λ (vs : List Val). ‵ (heap.the_row.own_val a vs)) h.1 refl $ handle_out ! d z.0.4.0 (λ is.
    let passes : (p : Ptr) → d.at ≡ p → ent 𝓤 (Run (args p)) (Run (z.0.4.0 ++ (z.0.4.1.0 ++ []))) = λ p at.
    subst (λ (vs : List Val). ent 𝓤 (Run (args p)) (Run vs)) (sym (λ i. subst (λ (r : Ptr). z.0.4.0 ≡ one (ptr_val r) ∷ []) at is i ++ (h.1 i ++ []))) (id⊢ 𝓤 (Run (args p))) in
    cases held_row ! Closed d.at d.held
    (λ null held. let v : Val = live 0 vnil in let good : Good (layout Out) v = (tt, (record { fits = lit< tt }, tt)) in suffices ! (Run (args null_ptr)) (passes null_ptr null) $
    enter ! 𝓣.C 𝓣.Λ fn (args null_ptr) Post $ alloc_all ! (λ l. pass_all ! refl (one_good null_ptr, (h.2, tt)) $
    sets ! (of_opd ! (get_in ! (fld ! refl (stop !)) (sub ! 0 refl (whole !)))) refl (Ptr-Good null_ptr) $ sets ! (bin ! (get ! refl) (lit ! tt) tt) refl (tt, tt) $ first ! $ branches ! (get ! refl)
    (λ _. sets ! (agg ! (and_then ! (lit ! tt) (no_more !))) refl good $
    -- [the allocator; true; true; nothing; the locals]
    drop ! $ use0 𝓛 (‵ (Out.own_val None (v ∷ []))) (none_of 𝓛 B) $ use0 𝓛 (raw (fact 𝓤 (d.held ≡ Closed))) (fact_i 𝓤 (d.held ≡ Closed) (emp 𝓤) held) $ nothing ! $ nothing ! $ fjoin ! $ nothing ! $ fjoin ! $
    returns_within ! Post refl (look_at ! 0 refl) $ free_all ! refl $ keep ! (4 ∷ 0 ∷ 2 ∷ 1 ∷ []) $ by ! (leaves 𝓛 F.ended hs c z v None (tt, (tt, tt)) (tt, (tt, tt)))) (λ wrong. absurd wrong)))
    (λ b o alloc at test. let x = d.held in let p = block_ptr b o in let y : k.Ghost = ((([], ([], tt)), (full_share, (full_share, tt)), tt, (a, (p, tt)), (h.0 ∷ [], (vptr b o ∷ [], tt))), x) in suffices ! (Run (args p)) (passes p at) $
    enter ! 𝓣.C 𝓣.Λ fn (args p) Post $ alloc_all ! (λ l. pass_all ! refl (one_good p, (h.2, tt)) $ let Ev = env fn.locals l in
    sets ! (of_opd ! (get_in ! (fld ! refl (stop !)) (sub ! 0 refl (whole !)))) refl (Ptr-Good p) $ sets ! (bin ! (get ! refl) (lit ! tt) (tests_null p test)) refl (tt, tt) $ first ! $ branches ! (get ! refl) (λ wrong. absurd wrong)
    (λ _. skips ! $ exec ! 𝓣.C 𝓣.Λ Ev (after 3 fn.body) (at_ret Ev Post) $ first ! $ blocks ! $ sets ! (of_opd ! (get ! refl)) refl (Ptr-Good p) $
    -- [the box; the allocator; true; true; nothing; the locals]
    use1 𝓛 (‵ (box_owns (token a) (box.R E) p x)) (id⊢ 𝓤 _) $ use0 𝓛 (raw (fact 𝓤 ([] ⊑ Z.lives))) (fact_i 𝓤 ([] ⊑ Z.lives) (emp 𝓤) (⊑_static [])) $ join ! $ use0 𝓛 (raw (fact 𝓤 ([] ⊑ X.lives))) (fact_i 𝓤 ([] ⊑ X.lives) (emp 𝓤) (⊑_static [])) $ join ! $
    move ! (1 ∷ []) $ nothing ! $ feq_i ! (List Val) (vptr b o ∷ []) (vptr b o ∷ []) refl $ fjoin ! $ move ! (1 ∷ 0 ∷ []) $ fjoin ! $
    nothing ! $ use0 𝓛 (‵ (flft [] full_share)) (𝓛.lfts.lft-nil full_share) $ join ! $ use0 𝓛 (‵ (flft [] full_share)) (𝓛.lfts.lft-nil full_share) $ join ! $ join ! $ join ! $ use1 𝓛 (raw (k.pre y)) (id⊢ 𝓤 _) $
    calls_at_last ! (fm 𝓛 𝓜 𝓡) k meets y (and_then ! (get ! refl) (and_then ! (get ! refl) (no_more !))) (λ u.
    use1 𝓛 (later (some (λ (r : B.Denot). ((‵ (flft [] full_share) ⊛ ‵ (flft [] full_share) ⊛ ‵ ftrue) ⊛ ‵ (B.own_val r (u ∷ []))) ⊛ some (λ (ls : Lasts (callee.ended X Z heap_al.g heap_al.d heap_al.drops) y.0.0 y.0.3). ‵ (lasts (callee.ended X Z heap_al.g heap_al.d heap_al.drops) y.0.0 y.0.3 ls) ⊛ (raw (fact 𝓤 (r.value ≡ x)) ⊛ raw (fact 𝓤 (r.alloc ≡ a))))))) (id⊢ 𝓤 (k.post y u)) $
    await ! tt $ pick ! (λ r. split ! $ move ! (1 ∷ []) $ pick ! (λ ls. split3 ! $ drop ! $ heard ! (r.value ≡ x) (λ same. drop ! $ split ! $ drop ! $
    box_out E ! r (u ∷ []) (λ b' o' h' at' word fits. box_in E ! r b' o' r.value at' refl $ rewrite ! 0 (λ (vs : List Val). ‵ (B.own_val r vs)) (sym word) refl $
    let typed : Good (layout B) u = subst (Good (layout B)) (sym (ap only word)) (box.box_typed E h' b' o' fits) in
    let v : Val = live 1 (vcons u vnil) in let good : Good (layout Out) v = (and_tt _ typed.0, (record { fits = lit< tt }, (typed.1, tt))) in let reported : d.held ≡ r.value = sym same in
    lands_last ! refl typed $ exec ! 𝓣.C 𝓣.Λ Ev (after 4 fn.body) (at_ret Ev Post) $ sets ! (of_opd ! (get ! refl)) refl typed $ sets ! (of_opd ! (get ! refl)) refl typed $ sets ! (agg ! (and_then ! (lit ! tt) (and_then ! (get ! refl) (no_more !)))) refl good $
    -- [the box; true; true; nothing; the locals]
    use1 𝓛 (‵ (Out.own_val (Some r) (v ∷ []))) (Some-of 𝓛 B r u) $ use0 𝓛 (raw (fact 𝓤 (d.held ≡ r.value))) (fact_i 𝓤 (d.held ≡ r.value) (emp 𝓤) reported) $ nothing ! $ nothing ! $ fjoin ! $ nothing ! $ fjoin ! $
    returns ! (look_at ! 0 refl) $ free_all ! refl $ keep ! (4 ∷ 0 ∷ 2 ∷ 1 ∷ []) $ by ! (leaves 𝓛 F.ended hs c z v (Some r) (tt, (tt, tt)) (tt, (tt, tt)))))))))))))
