-- What the walks of a handle share: both structs are one pointer. Assumes `Logic`.
--     heap_al, in_heap       the machine's allocator as its calls pass it, and a box of it
--     one, one_good          the machine value of a struct of one pointer
--     loose_in, handle_in    such a struct by value, made of what it owns
--     loose_out, handle_out  what it owns and its machine value
--     cases                  a handle is null, or a box at a pointer that may be compared with null
use Rattle.std.proofs.Common.{◌≡◌, ℕ, Bool, true, false, List, [], ◌∷◌, ◌++◌, refl, subst}
use seplogic.Ra.Ura.{Ura}
use mir.Raw.{raw as bare}
use mir.Syntax.{impl, tcons, tnil, dnil, ty_ptr}
use mir.Val.{Val, vstruct, vcons, vnil, of_list, has_ty}
use base.Logic.{ent, guard, via, snd∗, fst∗, guard_i, never}
use base.Fraction.{full_share}
use types.Logic.{Logic, sem}
use types.Kit.{Item, Goal, Seq, Step, step, ‵, given, ◌$◌, drop, use1, fsplit, fjoin, fpick, fpack, feq_i, feq_l, learn}
use contract.Monad.{fact_use}
use denote.RattleType.{RattleType, Valss}
use denote.Builtin.{RawPtr}
use denote.Exit.{no}
use denote.Param.{layout, arg}
use denote.Param.Laws.{Laws, arg_laws}
use denote.Steps.{nothing}
use denote.Struct.Struct.{within}
use denote.Struct.Owning.{shape}
use denote.Memory.{lone}
use base.Fml.{fex}
use denote.RawPtr.{Ptr, block_ptr, null_ptr, ptr_val, lies_at, in_a_block, Testable}
use Rattle.core.proofs.alloc.Calls.{Al}
use Rattle.core.proofs.atomic.Steps.{Ptr-Good}
use Rattle.core.proofs.cell.Inside.{Good}
use Rattle.std.specs.contracts.alloc.Global as heap
use Rattle.std.proofs.alloc.Global.TheLaws as heap_laws
use Rattle.std.specs.contracts.impls.GlobalAllocator.TheImpl.{ghosts, dict}
use Rattle.std.specs.declared.alloc.Global.{Global}
use Rattle.std.proofs.GlobalToken.{dealloc_token-Testable}
use Rattle.std_alloc.specs.Box.Ownership.{box_owns}
use Rattle.std_alloc.proofs.BoxSteps.Form.{Bx}
use Rattle.std_alloc.proofs.ResultValues.{and_tt}
use Rattle.nifforan_handle.specs.Owned.{boxed, null_or_boxed, held_at}
use Rattle.nifforan_handle.specs.contracts.handle.Handle as handle
use Rattle.nifforan_handle.specs.contracts.loose.Loose as loose

-- a type as the argument of a call
abbrev pub as_arg : RattleType → RattleType
as_arg R = arg (bare (layout R)) no R

abbrev pub heap_al : Al
heap_al = record { row = as_arg heap.the_row; laws = arg_laws (bare (layout heap.the_row)) no heap.the_row heap_laws.the_row_laws refl; g = ghosts; d = dict; drops = impl ("nifforan_handle::Destruct++none::drop" ∷ []) (tcons (bare (layout heap.the_row)) tnil) dnil }

abbrev pub in_heap : (R : RattleType) → Laws R → Bx
in_heap R L = record { row = R; laws = L; al = heap_al }

abbrev pub one : Val → Val
one v = vstruct (vcons v vnil)

abbrev pub Handle : RattleType
Handle = handle.the_row

pub one_good : (p : Ptr) → Good (layout Handle) (one (ptr_val p))
one_good p = (and_tt (has_ty ty_ptr (ptr_val p)) (Ptr-Good p).0, ((Ptr-Good p).1, tt))

module _ {M : Type 1} {𝓤 : Ura M} {𝓛 : Logic 𝓤} {K : Type 0} {Γ : List (Item 𝓤)} {G : Goal 𝓤 𝓛.H} where
  pub handle_out : K → (d : Handle.Denot) (vs : List Val) → (vs ≡ one (ptr_val d.at) ∷ [] → Seq K 𝓛 (‵ (held_at d.at d.held) ∷ Γ) G) → Seq K 𝓛 (‵ (Handle.own_val d vs) ∷ Γ) G
  handle_out t d vs go = fsplit t $ fpick t (λ vss. fsplit t $ feq_l t (λ word. fsplit t $ feq_l t (λ field. drop t $ go (subst (λ (ps : List Val). vs ≡ vstruct (of_list (ps ++ [])) ∷ []) field word))))

  pub handle_in : K → (d : Handle.Denot) → Step K 𝓛 (‵ (Handle.own_val d (one (ptr_val d.at) ∷ [])) ∷ Γ) G (‵ (held_at d.at d.held) ∷ Γ) G
  handle_in t d = step (λ rest. let w : Val = one (ptr_val d.at) in nothing t $ feq_i t (List Val) (ptr_val d.at ∷ []) (ptr_val d.at ∷ []) refl $ fjoin t $ feq_i t (List Val) (w ∷ []) (w ∷ []) refl $ fjoin t $
      fpack t (Valss (RawPtr ∷ [])) (within (shape handle.the_type) (d.at, tt) (w ∷ [])) (ptr_val d.at ∷ [], tt) $ fjoin t $ rest)

abbrev pub Loose : RattleType → RattleType
Loose R = loose.the_row R

module _ (R : RattleType) {M : Type 1} {𝓤 : Ura M} (𝓛 : Logic 𝓤) where
  tested : (p : Ptr) (x : R.Denot) (alloc : Global) → ent 𝓤 (sem 𝓛 (box_owns (ghosts.dealloc_token alloc) R p x)) (guard 𝓤 (Testable p) (sem 𝓛 (box_owns (ghosts.dealloc_token alloc) R p x)))
  tested p x alloc = let token = ghosts.dealloc_token alloc (bare (lone R.mir)) p in
      fact_use 𝓤 (Testable p) (via 𝓤 _ (snd∗ 𝓤 (sem 𝓛 (lies_at R full_share p x)) (sem 𝓛 token)) (dealloc_token-Testable 𝓛 alloc (bare (lone R.mir)) p)) (guard_i 𝓤 (Testable p) (sem 𝓛 (box_owns (ghosts.dealloc_token alloc) R p x)))

module _ (R : RattleType) {M : Type 1} {𝓤 : Ura M} {𝓛 : Logic 𝓤} {K : Type 0} {Γ : List (Item 𝓤)} {G : Goal 𝓤 𝓛.H} where
  pub loose_out : K → (d : (Loose R).Denot) (vs : List Val) → (vs ≡ one (ptr_val d.at) ∷ [] → Seq K 𝓛 (‵ (boxed R d.at d.value) ∷ Γ) G) → Seq K 𝓛 (‵ ((Loose R).own_val d vs) ∷ Γ) G
  loose_out t d vs go = fsplit t $ fpick t (λ vss. fsplit t $ feq_l t (λ word. fsplit t $ feq_l t (λ field. drop t $ go (subst (λ (ps : List Val). vs ≡ vstruct (of_list (ps ++ [])) ∷ []) field word))))

  pub loose_in : K → (d : (Loose R).Denot) → Step K 𝓛 (‵ ((Loose R).own_val d (one (ptr_val d.at) ∷ [])) ∷ Γ) G (‵ (boxed R d.at d.value) ∷ Γ) G
  loose_in t d = step (λ rest. let w : Val = one (ptr_val d.at) in nothing t $ feq_i t (List Val) (ptr_val d.at ∷ []) (ptr_val d.at ∷ []) refl $ fjoin t $ feq_i t (List Val) (w ∷ []) (w ∷ []) refl $ fjoin t $
      fpack t (Valss (RawPtr ∷ [])) (within (shape (loose.the_type R)) (d.at, tt) (w ∷ [])) (ptr_val d.at ∷ [], tt) $ fjoin t $ rest)

  module _ (t : K) (none : R.Denot) (p : Ptr) (x : R.Denot)
      (null : p ≡ null_ptr → x ≡ none → Seq K 𝓛 Γ G)
      (some : (b o : ℕ) (alloc : Global) → p ≡ block_ptr b o → Testable (block_ptr b o) → Seq K 𝓛 (‵ (box_owns (ghosts.dealloc_token alloc) R (block_ptr b o) x) ∷ Γ) G) where
    either : (is_null : Bool) → Seq K 𝓛 (‵ (null_or_boxed R none p x is_null) ∷ Γ) G
    either true = fpick t (λ at. fpick t (λ is. drop t $ null at is))
    either false = fpick t (λ alloc. in_a_block t p (λ q. box_owns (ghosts.dealloc_token alloc) R q x) (fst∗ 𝓤 (never 𝓤) (sem 𝓛 (ghosts.dealloc_token alloc (bare (lone R.mir)) null_ptr))) (λ b o at.
        use1 𝓛 (given (Testable (block_ptr b o)) (‵ (box_owns (ghosts.dealloc_token alloc) R (block_ptr b o) x))) (tested R 𝓛 (block_ptr b o) x alloc) $ learn t (λ test. some b o alloc at test)))

    pub cases : Seq K 𝓛 (‵ (fex Bool (null_or_boxed R none p x)) ∷ Γ) G
    cases = fpick t (λ is_null. either is_null)
