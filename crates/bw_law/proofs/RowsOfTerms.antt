-- The steps that change stages and terms keep the rows: TermAdd, Grow, Mark and TermDelete.
use Rattle.std.proofs.Common.{◌≡◌, ◌≢◌, ℕ, ◌+◌, ◌<◌, ◌≤◌, None, ⊎_elim, arith}
use Rattle.std.proofs.lemmas.Bool.{cases_eq, cases_lt}
use Rattle.std.proofs.lemmas.Bool.Decides.{nat_tests}
use Rattle.bw_step.specs.declared.view.Stage.TheVariants.{Free, Unposted, Posted, Marked, Merged}
use Rattle.bw_law.specs.Rows.{Outline, Spans, InRow, Rows}
use Rattle.bw_law.proofs.Outlines.{write, with_stage, gone, with_term, without_term, over_two, leaving_is_routed}

-- TermAdd: the child is posted, and the page above that spans its low routes it there
module _ (top : ℕ) (at : ℕ → Outline) (root parent child : ℕ) (law : Rows top at root)
    (parent_in : InRow (at parent)) (unposted : (at child).stage ≡ Unposted) (over : (at parent).level ≡ (at child).level + 1)
    (spans : Spans (at parent) (at child).low) (no_term : (at parent).routes (at child).low ≡ None) where
  pub term_add_keeps_rows : Rows top (write (write at parent (with_term (at child).low child (at parent))) child (with_stage Posted (at child))) root
  term_add_keeps_rows = record {
    held = λ level key le lt. let h = law.held level key (grind (arith, nat_tests)) lt in (h.0, grind (arith, nat_tests), grind (arith, nat_tests), grind (arith, nat_tests));
    apart = λ x y key a b c d e. grind (arith, nat_tests, law.apart x y key);
    some_key = λ x i. grind (arith, nat_tests, law.some_key x);
    within = λ x i. grind (arith, nat_tests, law.within x);
    linked = λ x y i to. grind (arith, nat_tests, law.linked x y);
    ends = λ x i to. grind (arith, nat_tests, law.ends x);
    under_root = λ x i. grind (arith, nat_tests, law.under_root x);
    root_posted = grind (arith, nat_tests, law.root_posted);
    root_first = grind (arith, nat_tests, law.root_first);
    others_unposted = λ x i l ne. grind (arith, nat_tests, law.others_unposted x, law.under_root parent);
    routed = λ x c key i h to. record {
      posted = grind (arith, nat_tests, law.routed x c key);
      above = grind (arith, nat_tests, law.routed x c key);
      at_low = grind (arith, nat_tests, law.routed x c key);
    };
    termed = λ x c key i h t. grind (arith, nat_tests, law.termed x c key, law.apart x parent key);
    own_low = λ x level i e. grind (arith, nat_tests, law.own_low x level);
    leaving_low = λ x c i l e same. grind (arith, nat_tests, law.leaving_low x c);
    leaving_under = λ c l. grind (arith, nat_tests, law.leaving_under c);
  }

-- Grow: a new root over the old one and the child, which is posted
module _ (top : ℕ) (at : ℕ → Outline) (root child new : ℕ) (law : Rows top at root)
    (unposted : (at child).stage ≡ Unposted) (beside : (at child).level ≡ (at root).level) (new_free : (at new).stage ≡ Free) where
  -- the child isn't the first of its row: that is the root
  pub grown_child_is_not_first : (at child).low ≢ 0
  grown_child_is_not_first e = grind (arith, law.apart child root 0, law.some_key child, law.some_key root, law.root_first, law.root_posted)

  pub grow_keeps_rows : Rows top (write (write at child (with_stage Posted (at child))) new (over_two top (at root).level root (at child).low child)) new
  grow_keeps_rows = record {
    held = λ level key le lt. ⊎_elim
        (λ (top_level : (at root).level < level). (new, grind (arith, nat_tests), grind (arith, nat_tests), grind (arith, nat_tests)))
        (λ (under : level ≤ (at root).level). let h = law.held level key under lt in (h.0, grind (arith, nat_tests), grind (arith, nat_tests), grind (arith, nat_tests)))
        (cases_lt (at root).level level);
    apart = λ x y key a b c d e. grind (arith, nat_tests, law.apart x y key, law.under_root x, law.under_root y);
    some_key = λ x i. grind (arith, nat_tests, law.some_key x, law.some_key root, law.within root, law.root_posted);
    within = λ x i. grind (arith, nat_tests, law.within x);
    linked = λ x y i to. grind (arith, nat_tests, law.linked x y);
    ends = λ x i to. grind (arith, nat_tests, law.ends x);
    under_root = λ x i. grind (arith, nat_tests, law.under_root x);
    root_posted = grind (arith, nat_tests, law.root_posted);
    root_first = grind (arith, nat_tests, law.root_first, law.root_posted);
    others_unposted = λ x i l ne. grind (arith, nat_tests, law.under_root x);
    routed = λ x c key i h to. record {
      posted = grind (arith, nat_tests, law.routed x c key, law.root_posted);
      above = grind (arith, nat_tests, law.routed x c key, law.root_posted, beside);
      at_low = grind (arith, nat_tests, law.routed x c key, law.root_first, law.root_posted);
    };
    termed = λ x c key i h t. grind (arith, nat_tests, law.termed x c key, law.under_root x, law.others_unposted c, law.leaving_under c, grown_child_is_not_first);
    own_low = λ x level i e. ⊎_elim
        (λ (is : x ≡ new). (root, grind (arith, nat_tests)))
        (λ (other : x ≢ new). let o = law.own_low x level (grind (arith, nat_tests)) (grind (arith, nat_tests)) in (o.0, grind (arith, nat_tests)))
        (cases_eq x new);
    leaving_low = λ x c i l e same. grind (arith, nat_tests, law.leaving_low x c, law.leaving_under c);
    leaving_under = λ c l. grind (arith, nat_tests, law.leaving_under c);
  }

-- Mark: the page is being removed, and isn't the first below the page above
module _ (top : ℕ) (at : ℕ → Outline) (root p parent : ℕ) (law : Rows top at root)
    (in_stage : (at p).stage ≡ Posted) (parent_in : InRow (at parent)) (over : (at parent).level ≡ (at p).level + 1)
    (spans : Spans (at parent) (at p).low) (not_first : (at p).low ≢ (at parent).low) where
  pub mark_keeps_rows : Rows top (write at p (with_stage Marked (at p))) root
  mark_keeps_rows = record {
    held = λ level key le lt. let h = law.held level key (grind (arith, nat_tests)) lt in (h.0, grind (arith, nat_tests), grind (arith, nat_tests), grind (arith, nat_tests));
    apart = λ x y key a b c d e. grind (arith, nat_tests, law.apart x y key);
    some_key = λ x i. grind (arith, nat_tests, law.some_key x);
    within = λ x i. grind (arith, nat_tests, law.within x);
    linked = λ x y i to. grind (arith, nat_tests, law.linked x y);
    ends = λ x i to. grind (arith, nat_tests, law.ends x);
    under_root = λ x i. grind (arith, nat_tests, law.under_root x);
    root_posted = grind (arith, nat_tests, law.root_posted, law.under_root parent);
    root_first = grind (arith, nat_tests, law.root_first);
    others_unposted = λ x i l ne. grind (arith, nat_tests, law.others_unposted x, law.under_root parent);
    routed = λ x c key i h to. record {
      posted = grind (arith, nat_tests, law.routed x c key);
      above = grind (arith, nat_tests, law.routed x c key);
      at_low = grind (arith, nat_tests, law.routed x c key);
    };
    termed = λ x c key i h t. grind (arith, nat_tests, law.termed x c key);
    own_low = λ x level i e. grind (arith, nat_tests, law.own_low x level);
    leaving_low = λ x c i l e same. grind (arith, nat_tests, law.leaving_low x c, law.apart x parent (at p).low, law.some_key x);
    leaving_under = λ c l. grind (arith, nat_tests, law.leaving_under c, law.under_root parent);
  }

-- TermDelete: the child is free, and the page above that spans its low doesn't route it any more
module _ (top : ℕ) (at : ℕ → Outline) (root parent child : ℕ) (law : Rows top at root)
    (parent_in : InRow (at parent)) (merged : (at child).stage ≡ Merged) (over : (at parent).level ≡ (at child).level + 1)
    (spans : Spans (at parent) (at child).low) where
  pub term_delete_keeps_rows : Rows top (write (write at parent (without_term (at child).low (at parent))) child (gone Free top 0 0)) root
  term_delete_keeps_rows = record {
    held = λ level key le lt. let h = law.held level key (grind (arith, nat_tests, law.root_posted)) lt in (h.0, grind (arith, nat_tests), grind (arith, nat_tests), grind (arith, nat_tests));
    apart = λ x y key a b c d e. grind (arith, nat_tests, law.apart x y key);
    some_key = λ x i. grind (arith, nat_tests, law.some_key x);
    within = λ x i. grind (arith, nat_tests, law.within x);
    linked = λ x y i to. grind (arith, nat_tests, law.linked x y);
    ends = λ x i to. grind (arith, nat_tests, law.ends x);
    under_root = λ x i. grind (arith, nat_tests, law.under_root x, law.root_posted);
    root_posted = grind (arith, nat_tests, law.root_posted);
    root_first = grind (arith, nat_tests, law.root_first, law.root_posted);
    others_unposted = λ x i l ne. grind (arith, nat_tests, law.others_unposted x, law.root_posted);
    routed = λ x c key i h to. record {
      posted = grind (arith, nat_tests, law.routed x c key, law.apart x parent key);
      above = grind (arith, nat_tests, law.routed x c key, law.apart x parent key);
      at_low = grind (arith, nat_tests, law.routed x c key, law.apart x parent key);
    };
    termed = λ x c key i h t. grind (arith, nat_tests, law.termed x c key, leaving_is_routed top at root law parent child);
    own_low = λ x level i e. grind (arith, nat_tests, law.own_low x level, law.leaving_low parent child);
    leaving_low = λ x c i l e same. grind (arith, nat_tests, law.leaving_low x c);
    leaving_under = λ c l. grind (arith, nat_tests, law.leaving_under c, law.root_posted);
  }
