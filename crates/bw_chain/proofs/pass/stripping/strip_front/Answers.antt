use Rattle.std.proofs.Common.{◌≡◌, ◌↔◌, ◌∙◌, ◌++◌, ℕ, List, Bool, IsTrue, true, false, length, length-append, take, drop, ap, sym, arith}
use Rattle.std.proofs.Math.Seq.{take-append_seam}
use Rattle.std.proofs.lemmas.List.{take-append-drop}
use Rattle.bw_delta.specs.Slices.{list_of}
use Rattle.bw_chain.proofs.pass.stripping.strip_front.Goals as goal

-- the front was found, or another
module _ {Y : Type 0} (list head front : List Y) (n : ℕ) (first : head ≡ take n list) where
  found : (rest : List Y) → rest ≡ drop n list → head ≡ front → list ≡ front ++ rest
  found rest behind same = sym (take-append-drop n list) ∙ ap (λ l. l ++ drop n list) (sym first ∙ same) ∙ ap (λ l. front ++ l) (sym behind)

  missed : (is_same : Bool) (rest : List Y) → n ≡ length front → IsTrue is_same ↔ (head ≡ front) → is_same ≡ false → list ≡ front ++ rest → ⊥
  missed is_same rest long tells other whole =
      let same : head ≡ front = first ∙ ap (take n) whole ∙ ap (λ k. take k (front ++ rest)) long ∙ take-append_seam front rest in
      let reported : is_same ≡ true = tells.1 same in
      cc

pub returns-then-len : goal.returns-then-len
returns-then-len g c rest whole = omega (arith, ap length whole, length-append (list_of c.args.front) rest)

pub returns-then-are_same : goal.returns-then-are_same
returns-then-are_same g c =
    found (list_of c.args.list) (list_of c.split_at.result.0) (list_of c.args.front) _ c.split_at.ensures.front (list_of c.split_at.result.1) c.split_at.ensures.back (c.are_same.ensures.0 c.if-are_same.true)

pub returns-else-are_same : goal.returns-else-are_same
returns-else-are_same g c rest whole =
    missed (list_of c.args.list) (list_of c.split_at.result.0) (list_of c.args.front) _ c.split_at.ensures.front c.are_same.result rest (omega arith) c.are_same.ensures c.if-are_same.false whole
