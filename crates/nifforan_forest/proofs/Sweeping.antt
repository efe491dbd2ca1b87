-- What was cleared, tree by tree.
use Rattle.std.proofs.Common.{◌≡◌, ◌≢◌, ◌⊎◌, inl, inr, ℕ, zero, suc, ◌+◌, ◌≤◌, ◌==◌, max, min, Bool, true, false, List, [], ◌∷◌, ◌++◌, Some, None, refl, ap, sym, subst, ◌∙◌, append_assoc, append-nil, arith}
use Rattle.std.specs.Prelude.{slice_get, slice_set}
use Rattle.std.proofs.lemmas.Bool.Decides.{nat_tests}
use Rattle.std.proofs.lemmas.Option.{slice_get_within}
use Rattle.bw_delta.specs.Entries.{at}
use Rattle.bw_keys.specs.declared.range.Range.{Range}
use Rattle.bw_keys.specs.Ranges.{end_of}
use Rattle.bw_step.specs.Tellings.{Reported, reported_in}
use Rattle.bw_forest.specs.Bounds.{IsTreeOf}
use Rattle.bw_procedures.specs.Clearing.{AddsRemovals, AreRemovals, HasRemovalOf, IsSwept, removals_in}
use Rattle.bw_procedures.specs.Seen.{Seen, Grows}
use Rattle.bw_procedures.proofs.Removals.{grow_then, removals_lower, spent_grows}
use Rattle.nifforan_forest.specs.Clears.{Removes, SweepsKey, Together}
use Rattle.nifforan_forest.proofs.Places.{set_there, set_elsewhere, some_is}
use Rattle.nifforan_forest.proofs.Spending.{spends_none}

pub together_none : {H : Type 0} → (does : ℕ → H → H → Type 0) → ((h : H) → does 0 h h) → (hands : List H) → Together does hands hands 0
together_none does same [] = refl
together_none does same (h ∷ hands) = (0, 0, same h, together_none does same hands, refl)

pub together_wider : {H : Type 0} → (does more : ℕ → H → H → Type 0) → ((n : ℕ) (a b : H) → does n a b → more n a b)
    → (olds news : List H) (count : ℕ) → Together does olds news count → Together more olds news count
together_wider does more so [] [] count all = all
together_wider does more so [] (n ∷ news) count all = absurd all
together_wider does more so (o ∷ olds) [] count all = absurd all
together_wider does more so (o ∷ olds) (n ∷ news) count all =
    (all.0, all.1, so all.0 o n all.2, together_wider does more so olds news all.1 all.3, all.4)

-- one hand does more
pub together_more : {H : Type 0} → (does more : ℕ → H → H → Type 0) → ((n : ℕ) (a b : H) → does n a b → more n a b)
    → (olds news : List H) (tree count own : ℕ) (old now : H) → slice_get news tree ≡ Some old
    → ((n : ℕ) (a : H) → does n a old → more (n + own) a now)
    → Together does olds news count → Together more olds (slice_set news tree now) (count + own)
together_more does more so [] [] tree count own old now is did all = absurd (cc)
together_more does more so [] (n ∷ news) tree count own old now is did all = absurd all
together_more does more so (o ∷ olds) [] tree count own old now is did all = absurd all
together_more {H = H} does more so (o ∷ olds) (n ∷ news) zero count own old now is did all = (
  all.0 + own,
  all.1,
  did all.0 o (subst (λ (h : H). does all.0 o h) (some_is n old is) all.2),
  together_wider does more so olds news
      all.1 all.3,
  omega (arith, all.4),
)
together_more does more so (o ∷ olds) (n ∷ news) (suc tree) count own old now is did all =
    (all.0, all.1 + own, so all.0 o n all.2, together_more does more so olds news tree all.1 own old now is did all.3, omega (arith, all.4))

higher : (low high end : ℕ) (xs : List Reported) → high ≤ end → AreRemovals low high xs → AreRemovals low end xs
higher low high end [] le are = tt
higher low high end (x ∷ xs) le are = (are.0, are.1, are.2, omega (arith, le, are.3), higher (are.0 + 1) high end xs le are.4)

removals_then : (low middle at high : ℕ) (xs ys : List Reported) → low ≤ at → middle ≤ at → middle ≤ high → AreRemovals low middle xs
    → AreRemovals at high ys → AreRemovals low high (xs ++ ys)
removals_then low middle at high [] ys le before within first then = removals_lower low at high ys le then
removals_then low middle at high (x ∷ xs) ys le before within first then = (
  first.0,
  first.1,
  first.2,
  omega (arith, within, first.3),
  removals_then (first.0 + 1) middle at high xs ys
      (omega (arith, before, first.3)) before within first.4 then,
)

removals_in_both : (xs ys : List Reported) → removals_in (xs ++ ys) ≡ removals_in xs + removals_in ys
removals_in_both [] ys = omega arith
removals_in_both (x ∷ xs) ys = omega (arith, removals_in_both xs ys)

since_then : (a b c xs ys : List Reported) → b ≡ a ++ xs → c ≡ b ++ ys → c ≡ a ++ (xs ++ ys)
since_then a b c xs ys first then = then ∙ (ap (λ (l : List Reported). l ++ ys) first ∙ append_assoc a xs ys)

has_more : (key : ℕ) (xs ys : List Reported) → HasRemovalOf key xs → HasRemovalOf key (xs ++ ys)
has_more key [] ys has = absurd has
has_more key (x ∷ xs) ys (inl is) = inl is
has_more key (x ∷ xs) ys (inr has) = inr (has_more key xs ys has)

gone_more : (key : ℕ) (pairs : List (ℕ × ℕ)) (xs ys : List Reported) → (at key pairs ≡ None) ⊎ HasRemovalOf key xs
    → (at key pairs ≡ None) ⊎ HasRemovalOf key (xs ++ ys)
gone_more key pairs xs ys (inl none) = inl none
gone_more key pairs xs ys (inr has) = inr (has_more key xs ys has)

module _ {H : Type 0} (seen : H → Seen) (follows : H → H → Type 0) (range : H → Range) where
  pub removes_none : ((h : H) → follows h h) → (low end : ℕ) (h : H) → Removes seen follows range low end 0 h h
  removes_none stays low end h =
      record {
        followed = stays h;
        grows = spent_grows (seen h) (seen h) (spends_none (seen h));
        receipts = record {
          added = [];
          trail = sym (append-nil (reported_in (seen h).trail));
          removals = tt;
          count = refl;
        };
      }

  pub removes_wider : (low high end n : ℕ) (a b : H) → high ≤ end → Removes seen follows range low high n a b
      → Removes seen follows range low end n a b
  removes_wider low high end n a b le did =
      let top = end_of (range a).high in
      record {
        followed = did.followed;
        grows = did.grows;
        receipts = record {
          added = did.receipts.added;
          trail = did.receipts.trail;
          removals = higher (max low (range a).low) (min high top) (min end top) did.receipts.added (omega (arith, le))
              did.receipts.removals;
          count = did.receipts.count;
        };
      }

  -- what a hand removed of its tree's range
  pub removes_of : (low upto n : ℕ) (a b : H) → follows a b → Grows (seen a) (seen b) → AddsRemovals low upto n (seen a) (seen b)
      → (range a).low ≤ low → upto ≤ end_of (range a).high → Removes seen follows range low upto n a b
  removes_of low upto n a b followed grows receipts from within =
      let at_low : low ≡ max low (range a).low = omega (arith, from) in
      let at_end : upto ≡ min upto (end_of (range a).high) = omega (arith, within) in
      record {
        followed = followed;
        grows = grows;
        receipts = subst (λ (l : ℕ). AddsRemovals l (min upto (end_of (range a).high)) n (seen a) (seen b)) at_low
            (subst (λ (u : ℕ). AddsRemovals low u n (seen a) (seen b)) at_end receipts);
      }

  -- a hand removed keys of one part of the range after those of another
  pub removes_then : ((a b c : H) → follows a b → follows b c → follows a c) → ((a b : H) → follows a b → range a ≡ range b)
      → (low middle at high n m : ℕ) (a b c : H) → low ≤ at
      → middle ≤ at → middle ≤ high → Removes seen follows range low middle n a b → Removes seen follows range at high m b c
      → Removes seen follows range low high (n + m) a c
  removes_then joins stays_there low middle at high n m a b c le before within first then =
      let one = first.receipts in
      let more = then.receipts in
      let bottom = (range a).low in
      let top = end_of (range a).high in
      let later : AreRemovals (max at bottom) (min high top) more.added =
      subst (λ (r : Range). AreRemovals (max at r.low) (min high (end_of r.high)) more.added) (sym (stays_there a b first.followed))
      more.removals in
      record {
        followed = joins a b c first.followed then.followed;
        grows = grow_then (seen a) (seen b) (seen c) first.grows then.grows;
        receipts = record {
          added = one.added ++ more.added;
          trail =
              since_then (reported_in (seen a).trail) (reported_in (seen b).trail) (reported_in (seen c).trail) one.added more.added
              one.trail more.trail;
          removals = removals_then (max low bottom) (min middle top) (max at bottom) (min high top) one.added more.added (omega (arith, le))
              (omega (arith, before)) (omega (arith, within)) one.removals later;
          count = omega (arith, removals_in_both one.added more.added, one.count, more.count);
        };
      }

module _ {H : Type 0} (bounds : List ℕ) (seen : H → Seen) (follows : H → H → Type 0) (shows : H → ℕ → ℕ → List (ℕ × ℕ) → Type 0)
    (joins : (a b c : H) → follows a b → follows b c → follows a c) (olds news : List H) (tree : ℕ) (old now : H) where
  -- a clear by one hand leaves it so
  pub swept_on : (low high n key : ℕ) → slice_get news tree ≡ Some old → follows old now → AddsRemovals low high n (seen old) (seen now)
      → SweepsKey bounds seen follows shows key olds news → SweepsKey bounds seen follows shows key olds (slice_set news tree now)
  swept_on low high n key is then more was = by_tree (was.tree == tree) refl
    where
      later : (a : H) → IsSwept seen follows shows key a old → IsSwept seen follows shows key a now
      later a swept = record {
        between = swept.between;
        before = swept.before;
        after = joins swept.between old now swept.after then;
        low = swept.low;
        end = swept.end;
        pairs = swept.pairs;
        shown = swept.shown;
        from_low = swept.from_low;
        below_end = swept.below_end;
        added = swept.added ++ more.added;
        since =
            since_then (reported_in (seen swept.between).trail) (reported_in (seen old).trail) (reported_in (seen now).trail) swept.added
            more.added swept.since more.trail;
        gone = gone_more key swept.pairs swept.added more.added swept.gone;
      }

      by_tree : (test : Bool) → (was.tree == tree) ≡ test → SweepsKey bounds seen follows shows key olds (slice_set news tree now)
      by_tree true same =
          let it : was.tree ≡ tree = grind (arith, nat_tests, same) in
          let one : was.after ≡ old = some_is was.after old (sym was.now ∙ (ap (slice_get news) it ∙ is)) in
          record {
            tree = tree;
            before = was.before;
            after = now;
            holds = subst (IsTreeOf bounds key) it was.holds;
            was = subst (λ (t : ℕ). slice_get olds t ≡ Some was.before) it was.was;
            now = set_there news tree now (slice_get_within news tree old is);
            swept = later was.before (subst (λ (h : H). IsSwept seen follows shows key was.before h) one was.swept);
          }
      by_tree false other =
          let differ : was.tree ≢ tree = λ it. grind (arith, nat_tests, other, it) in
          record {
            tree = was.tree;
            before = was.before;
            after = was.after;
            holds = was.holds;
            was = was.was;
            now = set_elsewhere news tree was.tree now differ ∙ was.now;
            swept = was.swept;
          }

  -- what was swept in the tree of the hand that cleared
  pub swept_here : (first : H) (key : ℕ) → slice_get olds tree ≡ Some first → follows first old → slice_get news tree ≡ Some old
      → IsTreeOf bounds key tree → IsSwept seen follows shows key old now
      → SweepsKey bounds seen follows shows key olds (slice_set news tree now)
  swept_here first key was before is holds swept = record {
    tree = tree;
    before = first;
    after = now;
    holds = holds;
    was = was;
    now = set_there news tree now (slice_get_within news tree old is);
    swept = record {
      between = swept.between;
      before = joins first old swept.between before swept.before;
      after = swept.after;
      low = swept.low;
      end = swept.end;
      pairs = swept.pairs;
      shown = swept.shown;
      from_low = swept.from_low;
      below_end = swept.below_end;
      added = swept.added;
      since = swept.since;
      gone = swept.gone;
    };
  }

-- what a hand of the list did
pub did_at : {H : Type 0} → (does : ℕ → H → H → Type 0) (olds news : List H) (tree count : ℕ) (now : H) → slice_get news tree ≡ Some now
    → Together does olds news count → (n : ℕ) × (first : H) × (slice_get olds tree ≡ Some first) × does n first now
did_at does [] [] tree count now is all = absurd (cc)
did_at does [] (n ∷ news) tree count now is all = absurd all
did_at does (o ∷ olds) [] tree count now is all = absurd all
did_at {H = H} does (o ∷ olds) (n ∷ news) zero count now is all =
    (all.0, o, refl, subst (λ (h : H). does all.0 o h) (some_is n now is) all.2)
did_at does (o ∷ olds) (n ∷ news) (suc tree) count now is all = did_at does olds news tree all.1 now is all.3
