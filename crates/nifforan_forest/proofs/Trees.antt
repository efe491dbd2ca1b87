-- One more tree that was read, or cleared.
use Rattle.std.proofs.Common.{◌≡◌, ℕ, ◌+◌, ◌<◌, ◌≤◌, ◌++◌, min, List, Option, Some, None, Result, Ok, Err, sym, subst, ◌∙◌, arith}
use Rattle.std.specs.Prelude.{IfErr, IfSome, IsErrAnd, slice_get, slice_set}
use Rattle.std.proofs.lemmas.Option.{slice_get_within}
use Rattle.bw_keys.specs.declared.range.Range.{Range}
use Rattle.bw_keys.specs.Ranges.{end_of}
use Rattle.bw_forest.specs.Bounds.{IsTreeOf, ranges_of}
use Rattle.bw_procedures.specs.declared.fault.Fault.{Fault}
use Rattle.bw_procedures.specs.Calls.{Earned}
use Rattle.bw_procedures.specs.Clearing.{IsSwept}
use Rattle.bw_procedures.specs.Seen.{Seen, Grows}
use Rattle.bw_procedures.proofs.Parts.{earned_behind}
use Rattle.nifforan_forest.specs.Clears.{Removes, SweepsKey, Together}
use Rattle.nifforan_forest.specs.Faults.{EarnsInATree}
use Rattle.nifforan_forest.specs.Reads.{Reads, WasThere, WasThereInItsTree}
use Rattle.nifforan_forest.specs.Scans.{EachSpends}
use Rattle.nifforan_forest.proofs.Places.{below_or_past, either_way, set_there, some_is}
use Rattle.nifforan_forest.proofs.Reaching.{there_here, there_on}
use Rattle.nifforan_forest.proofs.Reading.{reads_join, reads_later}
use Rattle.nifforan_forest.proofs.Spending.{spent_at}
use Rattle.nifforan_forest.proofs.Sweeping.{did_at, removes_then, removes_wider, swept_here, swept_on, together_more, together_wider}

-- the range that a tree has is the one that holds the key
pub ends_past : (bounds : List ℕ) (key tree : ℕ) (range : Range) → slice_get (ranges_of bounds) tree ≡ Some range → IsTreeOf bounds key tree
    → (range.low ≤ key) × (key < end_of range.high)
ends_past bounds key tree range is holds = let same : holds.0 ≡ range = some_is holds.0 range (sym holds.1 ∙ is) in rw (← same) holds.2

module _ {H : Type 0} (bounds : List ℕ) (seen : H → Seen) (follows : H → H → Type 0) (range_of : H → Range)
    (shows : H → ℕ → ℕ → List (ℕ × ℕ) → Type 0) (joins : (a b c : H) → follows a b → follows b c → follows a c)
    (stays_there : (a b : H) → follows a b → range_of a ≡ range_of b) (olds news : List H) (tree : ℕ) (range : Range) (hand now : H) where
  pub tree_read : (low at reached : ℕ) (added more : List (ℕ × ℕ)) → low ≤ at → at ≤ reached → reached ≤ end_of range.high → range.low ≤ at
      → slice_get (ranges_of bounds) tree ≡ Some range → slice_get news tree ≡ Some hand → follows hand now
      → EachSpends seen follows olds news
      → Reads (λ key found. WasThereInItsTree bounds follows shows key found olds news) low at added
      → Reads (λ key found. WasThere follows shows key found hand now) at reached more
      → Reads (λ key found. WasThereInItsTree bounds follows shows key found olds (slice_set news tree now)) low reached (added ++ more)
  tree_read low at reached added more le rise within from_range there_is is then all so_far part =
      let later = λ (key : ℕ) (found : Option ℕ). WasThereInItsTree bounds follows shows key found olds (slice_set news tree now) in
      let first = spent_at seen follows olds news tree hand is all in
      reads_join later low at reached added more le rise
      (reads_later (λ key found. WasThereInItsTree bounds follows shows key found olds news) later low at added
      (λ key found above under was. there_on bounds follows shows joins olds news tree hand now key found is then was) so_far)
      (reads_later (λ key found. WasThere follows shows key found hand now) later at reached more
      (λ key found above under was. there_here bounds follows shows joins olds news tree hand now first.0 key found first.1 first.2 is
      (range, there_is, (omega (arith, from_range, above), omega (arith, under, within))) was) part)

  pub tree_cleared : (low high at end upto count own : ℕ) → low ≤ at → at ≤ end → upto ≡ min end high → slice_get news tree ≡ Some hand
      → Removes seen follows range_of at upto own hand now → Together (Removes seen follows range_of low (min at high)) olds news count
      → Together (Removes seen follows range_of low (min end high)) olds (slice_set news tree now) (count + own)
  tree_cleared low high at end upto count own le rise is_upto is more all =
      let more_so : Removes seen follows range_of at (min end high) own hand now = rw is_upto at more in
      together_more (Removes seen follows range_of low (min at high)) (Removes seen follows range_of low (min end high))
      (λ n a b did. removes_wider seen follows range_of low (min at high) (min end high) n a b (omega (arith, rise)) did) olds news tree
      count own hand now is
      (λ n a did. removes_then seen follows range_of joins stays_there low (min at high) at (min end high) n own a hand now le (omega arith)
      (omega (arith, rise)) did more_so) all

  pub tree_cleared_high : (low high at end upto count own : ℕ) → low ≤ at → at ≤ end → upto ≡ min end high → slice_get news tree ≡ Some hand
      → Removes seen follows range_of at upto own hand now → Together (Removes seen follows range_of low (min at high)) olds news count
      → Together (Removes seen follows range_of low high) olds (slice_set news tree now) (count + own)
  tree_cleared_high low high at end upto count own le rise is_upto is more all =
      together_wider (Removes seen follows range_of low (min end high)) (Removes seen follows range_of low high)
      (λ n a b did. removes_wider seen follows range_of low (min end high) high n a b (omega arith) did) olds (slice_set news tree now)
      (count + own)
      (tree_cleared low high at end upto count own le rise is_upto is more all)

  pub tree_swept : (low high at end upto own count : ℕ) → low ≤ at → upto ≡ min end high → end ≡ end_of range.high → range.low ≤ at
      → slice_get (ranges_of bounds) tree ≡ Some range → slice_get news tree ≡ Some hand
      → Removes seen follows range_of at upto own hand now → Together (Removes seen follows range_of low (min at high)) olds news count
      → ((key : ℕ) → low ≤ key → key < at → key < high → SweepsKey bounds seen follows shows key olds news)
      → ((key : ℕ) → at ≤ key → key < upto → IsSwept seen follows shows key hand now)
      → (key : ℕ) → low ≤ key → key < end → key < high → SweepsKey bounds seen follows shows key olds (slice_set news tree now)
  tree_swept low high at end upto own count le is_upto is_end from_range there_is is more all so_far part key above below less =
      either_way (below_or_past key at) (λ under. swept_on bounds seen follows shows joins olds news tree hand now _ _ _ key is
      more.followed more.receipts (so_far key above under less))
      (λ past.
      let first = did_at (Removes seen follows range_of low (min at high)) olds news tree count hand is all in
      swept_here bounds seen follows shows joins olds news tree hand now first.1 key first.2 first.3.followed is
      (range, there_is, (omega (arith, from_range, past), omega (arith, below, is_end)))
      (part key past (omega (arith, below, less, is_upto))))

  -- the fault that ended the call in this tree
  pub tree_earned : (low end at : ℕ) (fault : Fault) (first : H) → low ≤ at → at < end → IsTreeOf bounds at tree
      → slice_get olds tree ≡ Some first → slice_get news tree ≡ Some hand → Grows (seen first) (seen hand)
      → Earned (seen hand) (seen now) fault → EarnsInATree bounds seen low end olds (slice_set news tree now) fault
  tree_earned low end at fault first le under holds was is grows earned = record {
    key = at;
    tree = tree;
    before = first;
    after = now;
    from_low = le;
    below_end = under;
    holds = holds;
    was = was;
    now = set_there news tree now (slice_get_within news tree hand is);
    earned = earned_behind fault (seen first) (seen hand) (seen now) grows earned;
  }

pub if_any : (A B : Fault → Type 0) → ((fault : Fault) → A fault → B fault) → (fault : Option Fault) → IfSome fault A → IfSome fault B
if_any A B so None is = tt
if_any A B so (Some fault) is = so fault is

-- a fault that is passed on
pub passed_on : {T : Type 0} → (A : Fault → Type 0) (result : Result T Fault) (fault : Fault) → IsErrAnd result (λ it. it ≡ fault)
    → A fault → IfErr result A
passed_on A (Ok it) fault is so = tt
passed_on A (Err it) fault is so = subst A (sym is) so
