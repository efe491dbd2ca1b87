-- Merge keeps the rows: the left page spans both ranges and has both routes, and the other is in no row.
use Rattle.std.proofs.Common.{◌≡◌, ◌≢◌, ℕ, pred, ◌<◌, Some, sym, ◌∙◌, ⊎_elim, arith}
use Rattle.std.proofs.lemmas.Bool.{cases_eq}
use Rattle.std.proofs.lemmas.Bool.Decides.{nat_tests}
use Rattle.bw_step.specs.declared.view.Stage.TheVariants.{Marked, Merged}
use Rattle.bw_law.specs.Rows.{Outline, InRow, Rows}
use Rattle.bw_law.proofs.Outlines.{write, joined, gone}

module _ (top : ℕ) (at : ℕ → Outline) (root l r : ℕ) (law : Rows top at root)
    (l_in : InRow (at l)) (r_marked : (at r).stage ≡ Marked) (link : (at l).right ≡ Some r) where
  -- the two pages meet, and neither is empty
  meet : InRow (at r) × ((at r).level ≡ (at l).level) × ((at r).low ≡ (at l).high)
  meet = law.linked l r l_in link

  wide : ((at l).low < (at l).high) × ((at r).low < (at r).high)
  wide = (law.some_key l l_in, law.some_key r meet.0)

  -- no other page is followed by the right one: both would hold the key before it
  only_left : (x : ℕ) → InRow (at x) → (at x).right ≡ Some r → x ≡ l
  only_left x i e =
      let n = law.linked x r i e in
      let w = law.some_key x i in
      law.apart x l (pred (at r).low) i l_in (sym n.1 ∙ meet.1) (omega (arith, n.2), omega (arith, n.2)) (omega (arith, meet.2, wide.0), omega (arith, meet.2, wide.0))

  -- the rows of the table after a merge
  pub merge_keeps_rows : Rows top (write (write at l (joined (at l) (at r))) r (gone Merged top (at r).low (at r).level)) root
  merge_keeps_rows = record {
    held = λ level key le lt.
        let h = law.held level key (grind (arith, nat_tests, law.root_posted)) lt in
        ⊎_elim
        (λ (is : h.0 ≡ r). (l, grind (arith, nat_tests, meet), grind (arith, nat_tests, meet), grind (arith, nat_tests, meet, wide)))
        (λ (other : h.0 ≢ r). (h.0, grind (arith, nat_tests), grind (arith, nat_tests), grind (arith, nat_tests, meet, wide)))
        (cases_eq h.0 r);
    apart = λ x y key a b c d e. grind (arith, nat_tests, law.apart x y key, law.apart x r key, law.apart r y key, meet, wide);
    some_key = λ x i. grind (arith, nat_tests, law.some_key x, meet, wide);
    within = λ x i. grind (arith, nat_tests, law.within x, law.within r);
    linked = λ x y i to. grind (arith, nat_tests, law.linked x y, law.linked r y, meet, wide, only_left x);
    ends = λ x i to. grind (arith, nat_tests, law.ends x, law.ends r);
    under_root = λ x i. grind (arith, nat_tests, law.under_root x);
    root_posted = grind (arith, nat_tests, law.root_posted);
    root_first = grind (arith, nat_tests, law.root_first);
    others_unposted = λ x i l ne. grind (arith, nat_tests, law.others_unposted x);
    routed = λ x c key i h to. record {
      posted = grind (arith, nat_tests, law.routed x c key, law.routed r c key, meet);
      above = grind (arith, nat_tests, law.routed x c key, law.routed r c key, meet);
      at_low = grind (arith, nat_tests, law.routed x c key, law.routed r c key, meet);
    };
    termed = λ x c key i h t. grind (arith, nat_tests, law.termed x c key, law.termed r c key, meet);
    own_low = λ x level i e. grind (arith, nat_tests, law.own_low x level, meet, law.some_key x);
    leaving_low = λ x c i l e same. grind (arith, nat_tests, law.leaving_low x c);
    leaving_under = λ c l. grind (arith, nat_tests, law.leaving_under c);
  }
