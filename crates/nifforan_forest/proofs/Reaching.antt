-- What was read of one tree after the other.
use Rattle.std.proofs.Common.{◌≡◌, ◌≢◌, ℕ, ◌==◌, Bool, true, false, List, Option, Some, refl, ap, sym, subst, ◌∙◌, arith}
use Rattle.std.specs.Prelude.{slice_get, slice_set}
use Rattle.std.proofs.lemmas.Bool.Decides.{nat_tests}
use Rattle.std.proofs.lemmas.Option.{slice_get_within}
use Rattle.bw_forest.specs.Bounds.{IsTreeOf}
use Rattle.nifforan_forest.specs.Reads.{WasThere, WasThereInItsTree}
use Rattle.nifforan_forest.proofs.Places.{set_there, set_elsewhere, some_is}
use Rattle.nifforan_forest.proofs.Reading.{there_later}

module _ {H : Type 0} (bounds : List ℕ) (follows : H → H → Type 0) (shows : H → ℕ → ℕ → List (ℕ × ℕ) → Type 0)
    (joins : (a b c : H) → follows a b → follows b c → follows a c) (olds news : List H) (tree : ℕ) (old now : H) where
  -- a step of one hand leaves it so
  pub there_on : (key : ℕ) (found : Option ℕ) → slice_get news tree ≡ Some old → follows old now
      → WasThereInItsTree bounds follows shows key found olds news
      → WasThereInItsTree bounds follows shows key found olds (slice_set news tree now)
  there_on key found is then was = by_tree (was.tree == tree) refl
    where
      by_tree : (test : Bool) → (was.tree == tree) ≡ test → WasThereInItsTree bounds follows shows key found olds (slice_set news tree now)
      by_tree true same =
          let it : was.tree ≡ tree = grind (arith, nat_tests, same) in
          let one : was.after ≡ old = some_is was.after old (sym was.now ∙ (ap (slice_get news) it ∙ is)) in
          record {
            tree = tree;
            before = was.before;
            after = now;
            holds = subst (IsTreeOf bounds key) it was.holds;
            was = subst (λ (t : ℕ). slice_get olds t ≡ Some was.before) it was.was;
            now = set_there news tree now (slice_get_within news tree old is);
            there =
                there_later follows shows joins was.before old now key found then
                (subst (λ (h : H). WasThere follows shows key found was.before h) one was.there);
          }
      by_tree false other =
          let differ : was.tree ≢ tree = λ it. grind (arith, nat_tests, other, it) in
          record {
            tree = was.tree;
            before = was.before;
            after = was.after;
            holds = was.holds;
            was = was.was;
            now = set_elsewhere news tree was.tree now differ ∙ was.now;
            there = was.there;
          }

  -- what was there in the tree of the hand that stepped
  pub there_here : (first : H) (key : ℕ) (found : Option ℕ) → slice_get olds tree ≡ Some first → follows first old
      → slice_get news tree ≡ Some old → IsTreeOf bounds key tree → WasThere follows shows key found old now
      → WasThereInItsTree bounds follows shows key found olds (slice_set news tree now)
  there_here first key found was before is holds there = record {
    tree = tree;
    before = first;
    after = now;
    holds = holds;
    was = was;
    now = set_there news tree now (slice_get_within news tree old is);
    there = record {
      between = there.between;
      before = joins first old there.between before there.before;
      after = there.after;
      low = there.low;
      end = there.end;
      pairs = there.pairs;
      shown = there.shown;
      from_low = there.from_low;
      below_end = there.below_end;
      had = there.had;
    };
  }
