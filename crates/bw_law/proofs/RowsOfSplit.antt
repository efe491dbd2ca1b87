-- Split keeps the rows: the page is followed by the new one, unposted, and the routes go with the keys.
use Rattle.std.proofs.Common.{◌≡◌, ◌≢◌, ℕ, ◌+◌, ◌<◌, ◌≤◌, false, Some, ⊎_elim, arith}
use Rattle.std.proofs.lemmas.Bool.{cases_eq, cases_lt}
use Rattle.std.proofs.lemmas.Bool.Decides.{nat_tests}
use Rattle.bw_step.specs.declared.view.Stage.TheVariants.{Free}
use Rattle.bw_step.specs.Stages.{is_leaving}
use Rattle.bw_law.specs.Rows.{Outline, InRow, Rows}
use Rattle.bw_law.proofs.Outlines.{write, lower, upper, leaving_is_routed}

module _ (top : ℕ) (at : ℕ → Outline) (root p q s : ℕ) (law : Rows top at root)
    (p_in : InRow (at p)) (q_free : (at q).stage ≡ Free) (above_low : (at p).low < s) (below_high : s < (at p).high)
    (entry : (level : ℕ) → (at p).level ≡ level + 1 → (c : ℕ) × ((at p).routes s ≡ Some c) × (is_leaving (at c).stage ≡ false)) where
  abbrev now : ℕ → Outline
  now = write (write at p (lower s q (at p))) q (upper s (at p))

  -- the rows of the table after a split
  pub split_keeps_rows : Rows top (write (write at p (lower s q (at p))) q (upper s (at p))) root
  split_keeps_rows = record {
    held = λ level key le lt.
        let h = law.held level key (grind (arith, nat_tests, law.root_posted)) lt in
        let not_new : h.0 ≢ q = λ e. grind arith in
        ⊎_elim
        (λ (is : h.0 ≡ p). ⊎_elim
        (λ (under : key < s). (p, grind (arith, nat_tests), grind (arith, nat_tests), grind (arith, nat_tests)))
        (λ (over : s ≤ key). (q, grind (arith, nat_tests), grind (arith, nat_tests), grind (arith, nat_tests)))
        (cases_lt key s))
        (λ (other : h.0 ≢ p). (h.0, grind (arith, nat_tests), grind (arith, nat_tests), grind (arith, nat_tests)))
        (cases_eq h.0 p);
    apart = λ x y key a b c d e. grind (arith, nat_tests, law.apart x y key, law.apart x p key, law.apart p y key);
    some_key = λ x i. grind (arith, nat_tests, law.some_key x);
    within = λ x i. grind (arith, nat_tests, law.within x, law.within p);
    linked = λ x y i to. grind (arith, nat_tests, law.linked x y, law.linked p y);
    ends = λ x i to. grind (arith, nat_tests, law.ends x, law.ends p);
    under_root = λ x i. grind (arith, nat_tests, law.under_root x, law.under_root p, law.root_posted);
    root_posted = grind (arith, nat_tests, law.root_posted);
    root_first = grind (arith, nat_tests, law.root_first, law.root_posted);
    others_unposted = λ x i l ne. grind (arith, nat_tests, law.others_unposted x, law.root_posted);
    routed = λ x c key i h to. record {
      posted = grind (arith, nat_tests, law.routed x c key, law.routed p c key);
      above = grind (arith, nat_tests, law.routed x c key, law.routed p c key);
      at_low = grind (arith, nat_tests, law.routed x c key, law.routed p c key);
    };
    termed = λ x c key i h t. grind (arith, nat_tests, law.termed x c key, law.termed p c key);
    own_low = λ x level i e. grind (arith, nat_tests, law.own_low x level, entry level);
    leaving_low = λ x c i l e same. grind (arith, nat_tests, law.leaving_low x c, leaving_is_routed top at root law p c, entry (at c).level);
    leaving_under = λ c l. grind (arith, nat_tests, law.leaving_under c, law.root_posted);
  }
