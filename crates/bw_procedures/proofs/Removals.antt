-- The removal of a range, part by part.
use Rattle.std.proofs.Common.{◌≡◌, ◌⊎◌, inl, inr, ℕ, ◌+◌, ◌<◌, ◌≤◌, ◌==◌, min, Bool, true, false, List, [], ◌∷◌, ◌++◌, Option, Some, None, refl, ap, sym, subst, ◌∙◌, append_assoc, append-nil, arith}
use Rattle.std.specs.Prelude.{nat_lt, is_some}
use Rattle.std.proofs.lemmas.Bool.Decides.{nat_tests}
use Rattle.bw_delta.specs.Entries.{at, rises}
use Rattle.bw_step.specs.Tellings.{Reported, changed, reported_in, without_shapes}
use Rattle.bw_procedures.specs.declared.reply.Del.{Del}
use Rattle.bw_procedures.specs.declared.reply.Del.TheVariants.{Removed, NoKey}
use Rattle.bw_procedures.specs.declared.fault.Fault.{Fault}
use Rattle.bw_procedures.specs.Seen.{Seen, Grows}
use Rattle.bw_procedures.specs.Calls.{OnlySpends}
use Rattle.bw_procedures.specs.Reported.{reported_of_delete}
use Rattle.bw_procedures.specs.Writing.{AddsReceipt, IsReceiptOfDelete}
use Rattle.bw_procedures.specs.Clearing.{IsRemovalOf, AreRemovals, removal_in, removals_in, AddsRemovals, HasRemovalOf, IsSwept, AreRemovalsOf, LieBelow, StartFrom, RemovesFirst, RemovesBelow, RemovesOne, RemovesKey}
use Rattle.bw_procedures.proofs.Receipts.{adds, delete_reported, none_reported}
use Rattle.bw_procedures.proofs.Trails.{adds_nothing, adds_then}

pub grow_then : (a b c : Seen) → Grows a b → Grows b c → Grows a c
grow_then a b c p q = record { config = q.config ∙ p.config; trail = adds_then a.trail b.trail c.trail p.trail q.trail; effort = omega (arith, p.effort, q.effort); full = omega (arith, p.full, q.full); tall = omega (arith, p.tall, q.tall); worn = omega (arith, p.worn, q.worn) }

pub spent_grows : (a b : Seen) → OnlySpends a b → Grows a b
spent_grows a b p = record { config = p.same.config; trail = adds_nothing a.trail b.trail p.same.trail; effort = p.effort; full = omega (arith, p.same.full); tall = omega (arith, p.same.tall); worn = omega (arith, p.same.worn) }

-- removals in a range are removals in a wider one
pub removals_lower : (low at high : ℕ) (xs : List Reported) → low ≤ at → AreRemovals at high xs → AreRemovals low high xs
removals_lower low at high [] le are = tt
removals_lower low at high (x ∷ xs) le are = (are.0, are.1, omega (arith, le, are.2), are.3, are.4)

removals_upper : (low high end : ℕ) (xs : List Reported) → high ≤ end → AreRemovals low high xs → AreRemovals low end xs
removals_upper low high end [] le are = tt
removals_upper low high end (x ∷ xs) le are = (are.0, are.1, are.2, omega (arith, le, are.3), removals_upper (are.0 + 1) high end xs le are.4)

removals_append : (low middle at high : ℕ) (xs ys : List Reported) → low ≤ at → middle ≤ at → middle ≤ high → AreRemovals low middle xs → AreRemovals at high ys → AreRemovals low high (xs ++ ys)
removals_append low middle at high [] ys le before within first then = removals_lower low at high ys le then
removals_append low middle at high (x ∷ xs) ys le before within first then =
    (first.0, first.1, first.2, omega (arith, within, first.3), removals_append (first.0 + 1) middle at high xs ys (omega (arith, before, first.3)) before within first.4 then)

removals_in_append : (xs ys : List Reported) → removals_in (xs ++ ys) ≡ removals_in xs + removals_in ys
removals_in_append [] ys = omega arith
removals_in_append (x ∷ xs) ys = omega (arith, removals_in_append xs ys)

-- what two parts added, one after the other
added_then : (a b c : Seen) (xs ys : List Reported) → reported_in b.trail ≡ reported_in a.trail ++ xs → reported_in c.trail ≡ reported_in b.trail ++ ys → reported_in c.trail ≡ reported_in a.trail ++ (xs ++ ys)
added_then a b c xs ys first then = then ∙ (ap (λ (l : List Reported). l ++ ys) first ∙ append_assoc (reported_in a.trail) xs ys)

adds_within : (low high end n : ℕ) (a b : Seen) → high ≤ end → AddsRemovals low high n a b → AddsRemovals low end n a b
adds_within low high end n a b le more = record { added = more.added; trail = more.trail; removals = removals_upper low high end more.added le more.removals; count = more.count }

adds_both : (low middle at high n m : ℕ) (a b c : Seen) → low ≤ at → middle ≤ at → middle ≤ high → AddsRemovals low middle n a b → AddsRemovals at high m b c → AddsRemovals low high (n + m) a c
adds_both low middle at high n m a b c le before within first then = record {
  added = first.added ++ then.added;
  trail = added_then a b c first.added then.added first.trail then.trail;
  removals = removals_append low middle at high first.added then.added le before within first.removals then.removals;
  count = omega (arith, removals_in_append first.added then.added, first.count, then.count);
}

-- a part that adds nothing comes first
adds_after : (low high n : ℕ) (a b c : Seen) → reported_in b.trail ≡ reported_in a.trail → AddsRemovals low high n b c → AddsRemovals low high n a c
adds_after low high n a b c same more =
    record { added = more.added; trail = more.trail ∙ ap (λ (l : List Reported). l ++ more.added) same; removals = more.removals; count = more.count }

-- a call that no fault ended has none
pub no_fault : (fault : Option Fault) → is_some fault ≡ false → fault ≡ None
no_fault None ended = refl
no_fault (Some fault) ended = cc

-- the part of the range that lies in one more leaf
adds_leaf : (low at next high n m : ℕ) (a b c : Seen) → low ≤ at → at ≤ next → AddsRemovals low (min at high) n a b → AddsRemovals at (min next high) m b c → AddsRemovals low (min next high) (n + m) a c
adds_leaf low at next high n m a b c le rise first then = adds_both low (min at high) at (min next high) n m a b c le (omega arith) (omega (arith, rise)) first then

-- a read that failed adds nothing more
pub adds_spent : (low at high n : ℕ) (a b c : Seen) → AddsRemovals low (min at high) n a b → OnlySpends b c → AddsRemovals low high n a c
adds_spent low at high n a b c more spends = record {
  added = more.added;
  trail = ap reported_in spends.same.trail ∙ more.trail;
  removals = removals_upper low (min at high) high more.added (omega arith) more.removals;
  count = more.count;
}

-- a delete takes out no more than one key
one_upto : (x : Reported) → removal_in x ≤ 1
one_upto (changed key (Some value) None) = omega arith
one_upto x = omega arith

-- a delete's reply says whether the key was taken out
abbrev taken_in : Del → ℕ
taken_in (Removed value) = 1
taken_in NoKey = 0

removal_of_delete : (key : ℕ) (reply : Del) → IsRemovalOf key (reported_of_delete key reply)
removal_of_delete key (Removed value) = refl
removal_of_delete key NoKey = refl

count_of_delete : (key : ℕ) (reply : Del) → removal_in (reported_of_delete key reply) ≡ taken_in reply
count_of_delete key (Removed value) = refl
count_of_delete key NoKey = refl

removes_one : (key : ℕ) (reply : Del) (a b : Seen) → AddsReceipt (IsReceiptOfDelete key) reply a b → RemovesOne key (taken_in reply) a b
removes_one key reply a b more = record {
  reported = reported_of_delete key reply;
  trail = adds a.trail b.trail more.0 (reported_of_delete key reply) more.1 (delete_reported key reply more.0 more.2);
  removal = removal_of_delete key reply;
  count = count_of_delete key reply;
}

pub key_taken : (key value : ℕ) (fault : Option Fault) (a b : Seen) → AddsReceipt (IsReceiptOfDelete key) (Removed value) a b → RemovesKey key 1 fault a b
key_taken key value fault a b more = inl (removes_one key (Removed value) a b more)

pub key_missing : (key : ℕ) (fault : Option Fault) (a b : Seen) → AddsReceipt (IsReceiptOfDelete key) NoKey a b → RemovesKey key 0 fault a b
key_missing key fault a b more = inl (removes_one key NoKey a b more)

pub key_kept : (key : ℕ) (fault : Fault) (a b : Seen) → without_shapes b.trail ≡ without_shapes a.trail → RemovesKey key 0 (Some fault) a b
key_kept key fault a b same = inr (none_reported a.trail b.trail same, refl, λ none. cc)

-- one more of the pairs is taken out
removals_of_more : (pairs : List (ℕ × ℕ)) (xs : List Reported) (pair : ℕ × ℕ) (x : Reported) → AreRemovalsOf pairs xs → IsRemovalOf pair.0 x → AreRemovalsOf (pairs ++ pair ∷ []) (xs ++ x ∷ [])
removals_of_more [] [] pair x are is = (is, tt)
removals_of_more [] (y ∷ xs) pair x are is = absurd are
removals_of_more (p ∷ pairs) [] pair x are is = absurd are
removals_of_more (p ∷ pairs) (y ∷ xs) pair x are is = (are.0, removals_of_more pairs xs pair x are.1 is)

lie_more : (end : ℕ) (pairs : List (ℕ × ℕ)) (pair : ℕ × ℕ) → LieBelow end pairs → pair.0 < end → LieBelow end (pairs ++ pair ∷ [])
lie_more end [] pair lie below = (below, tt)
lie_more end (p ∷ pairs) pair lie below = (lie.0, lie_more end pairs pair lie.1 below)

pub removes_none : (end : ℕ) (pairs : List (ℕ × ℕ)) (a : Seen) → RemovesFirst end pairs [] pairs 0 a a
removes_none end pairs a = record { parts = refl; below_end = tt; added = []; trail = sym (append-nil (reported_in a.trail)); removals = tt; count = refl }

removes_more : (end : ℕ) (pairs done left : List (ℕ × ℕ)) (pair : ℕ × ℕ) (n m : ℕ) (a b c : Seen) → RemovesFirst end pairs done (pair ∷ left) n a b → pair.0 < end → RemovesOne pair.0 m b c
    → RemovesFirst end pairs (done ++ pair ∷ []) left (n + m) a c
removes_more end pairs done left pair n m a b c first below one = record {
  parts = first.parts ∙ sym (append_assoc done (pair ∷ []) left);
  below_end = lie_more end done pair first.below_end below;
  added = first.added ++ one.reported ∷ [];
  trail = added_then a b c first.added (one.reported ∷ []) first.trail one.trail;
  removals = removals_of_more done first.added pair one.reported first.removals one.removal;
  count = omega (arith, removals_in_append first.added (one.reported ∷ []), first.count, one.count);
}

removes_same : (end : ℕ) (pairs done left : List (ℕ × ℕ)) (n m : ℕ) (a b c : Seen) → RemovesFirst end pairs done left n a b → reported_in c.trail ≡ reported_in b.trail → m ≡ 0
    → RemovesFirst end pairs done left (n + m) a c
removes_same end pairs done left n m a b c first same zero =
    record { parts = first.parts; below_end = first.below_end; added = first.added; trail = same ∙ first.trail; removals = first.removals; count = omega (arith, zero, first.count) }

pub key_upto : (key n : ℕ) (fault : Option Fault) (a b : Seen) → RemovesKey key n fault a b → n ≤ 1
key_upto key n fault a b (inl one) = omega (arith, one_upto one.reported, one.count)
key_upto key n fault a b (inr none) = omega (arith, none.1)

-- the next pair was deleted
pub removes_next : (end : ℕ) (pairs done left : List (ℕ × ℕ)) (pair : ℕ × ℕ) (n m : ℕ) (fault : Option Fault) (a b c : Seen) → RemovesFirst end pairs done (pair ∷ left) n a b → pair.0 < end
    → RemovesKey pair.0 m fault b c → is_some fault ≡ false → RemovesFirst end pairs (done ++ pair ∷ []) left (n + m) a c
removes_next end pairs done left pair n m fault a b c first below (inl one) ended = removes_more end pairs done left pair n m a b c first below one
removes_next end pairs done left pair n m None a b c first below (inr none) ended = absurd (none.2 refl)
removes_next end pairs done left pair n m (Some fault) a b c first below (inr none) ended = cc

-- a fault ended it all at the next pair
pub removes_last : (end : ℕ) (pairs done left : List (ℕ × ℕ)) (pair : ℕ × ℕ) (n m : ℕ) (fault : Option Fault) (a b c : Seen) → RemovesFirst end pairs done (pair ∷ left) n a b → pair.0 < end
    → RemovesKey pair.0 m fault b c → is_some fault ≡ true → RemovesBelow end pairs (n + m) fault a c
removes_last end pairs done left pair n m None a b c first below key some = cc
removes_last end pairs done left pair n m (Some fault) a b c first below (inl one) some = (done ++ pair ∷ [], left, removes_more end pairs done left pair n m a b c first below one, λ none. cc)
removes_last end pairs done left pair n m (Some fault) a b c first below (inr none) some = (done, pair ∷ left, removes_same end pairs done (pair ∷ left) n m a b c first none.0 none.1, λ none. cc)

-- keys of pairs that rise are removed in rising order
removals_rise : (low end high : ℕ) (done left : List (ℕ × ℕ)) (xs : List Reported) → rises low end (done ++ left) ≡ true → LieBelow high done → AreRemovalsOf done xs → AreRemovals low (min end high) xs
removals_rise low end high [] left [] rise lie are = tt
removals_rise low end high [] left (x ∷ xs) rise lie are = absurd are
removals_rise low end high (p ∷ done) left [] rise lie are = absurd are
removals_rise low end high (p ∷ done) left (x ∷ xs) rise lie are =
    let from_low : low ≤ p.0 = grind (arith, nat_tests, rise) in
    let below_end : p.0 < end = grind (arith, nat_tests, rise) in
    let rest : rises (p.0 + 1) end (done ++ left) ≡ true = grind (arith, nat_tests, rise) in
    (p.0, are.0, from_low, omega (arith, below_end, lie.0), removals_rise (p.0 + 1) end high done left xs rest lie.1 are.1)

removes_adds : (low end high : ℕ) (pairs done left : List (ℕ × ℕ)) (n : ℕ) (a b : Seen) → rises low end pairs ≡ true → RemovesFirst high pairs done left n a b → AddsRemovals low (min end high) n a b
removes_adds low end high pairs done left n a b rise first =
    record {
      added = first.added;
      trail = first.trail;
      removals = removals_rise low end high done left first.added (subst (λ (es : List (ℕ × ℕ)). rises low end es ≡ true) first.parts rise) first.below_end first.removals;
      count = first.count;
    }

-- a leaf was read, and its pairs were taken out
leaf_adds : (at end high n : ℕ) (pairs : List (ℕ × ℕ)) (fault : Option Fault) (a b c : Seen) → OnlySpends a b → rises at end pairs ≡ true → RemovesBelow high pairs n fault b c → AddsRemovals at (min end high) n a c
leaf_adds at end high n pairs fault a b c spends rise removes = adds_after at (min end high) n a b c (ap reported_in spends.same.trail) (removes_adds at end high pairs removes.0 removes.1 n b c rise removes.2)

-- one more leaf was read, and its pairs were taken out
pub adds_read : (low at next high n m : ℕ) (pairs : List (ℕ × ℕ)) (fault : Option Fault) (a b c d : Seen) → low ≤ at → at < next → AddsRemovals low (min at high) n a b → OnlySpends b c → rises at next pairs ≡ true
    → RemovesBelow high pairs m fault c d → AddsRemovals low (min next high) (n + m) a d
adds_read low at next high n m pairs fault a b c d le less first spends rise removes =
    adds_leaf low at next high n m a b d le (omega (arith, less)) first (leaf_adds at next high m pairs fault b c d spends rise removes)

pub adds_read_of : (low at next high n m : ℕ) (pairs : List (ℕ × ℕ)) (fault : Option Fault) (a b c d : Seen) → low ≤ at → at < next → AddsRemovals low (min at high) n a b → OnlySpends b c → rises at next pairs ≡ true
    → RemovesBelow high pairs m fault c d → AddsRemovals low high (n + m) a d
adds_read_of low at next high n m pairs fault a b c d le less first spends rise removes =
    adds_within low (min next high) high (n + m) a d (omega arith) (adds_read low at next high n m pairs fault a b c d le less first spends rise removes)

-- a key below those of rising pairs isn't among them
not_below : (low end key : ℕ) (es : List (ℕ × ℕ)) → rises low end es ≡ true → key < low → at key es ≡ None
not_below low end key [] rise less = refl
not_below low end key (e ∷ es) rise less = grind (arith, nat_tests, not_below (e.0 + 1) end key es)

not_left : (low end high key : ℕ) (left : List (ℕ × ℕ)) → rises low end left ≡ true → StartFrom high left → key < high → at key left ≡ None
not_left low end high key [] rise starts less = refl
not_left low end high key (e ∷ es) rise starts less = grind (arith, nat_tests, not_below (e.0 + 1) end key es)

-- each key below the end of those that were taken out isn't among the pairs, or its removal is there
gone_below : (low end high key : ℕ) (done left : List (ℕ × ℕ)) (xs : List Reported) → rises low end (done ++ left) ≡ true → AreRemovalsOf done xs → StartFrom high left → key < high
    → (at key (done ++ left) ≡ None) ⊎ HasRemovalOf key xs
gone_below low end high key [] left [] rise are starts less = inl (not_left low end high key left rise starts less)
gone_below low end high key [] left (x ∷ xs) rise are starts less = absurd are
gone_below low end high key (p ∷ done) left [] rise are starts less = absurd are
gone_below low end high key (p ∷ done) left (x ∷ xs) rise are starts less = by_test (p.0 == key) refl (gone_below (p.0 + 1) end high key done left xs (grind (arith, nat_tests, rise)) are.1 starts less)
  where
    later : (at key (done ++ left) ≡ None) ⊎ HasRemovalOf key xs → p.0 == key ≡ false → (at key (p ∷ done ++ left) ≡ None) ⊎ HasRemovalOf key (x ∷ xs)
    later (inl none) other = inl (rw other none)
    later (inr has) other = inr (inr has)

    by_test : (test : Bool) → (p.0 == key) ≡ test → (at key (done ++ left) ≡ None) ⊎ HasRemovalOf key xs → (at key (p ∷ done ++ left) ≡ None) ⊎ HasRemovalOf key (x ∷ xs)
    by_test true same rest = let is : p.0 ≡ key = grind (arith, nat_tests, same) in inr (inl (subst (λ k. IsRemovalOf k x) is are.0))
    by_test false other rest = later rest other

has_more : (key : ℕ) (xs ys : List Reported) → HasRemovalOf key xs → HasRemovalOf key (xs ++ ys)
has_more key [] ys has = absurd has
has_more key (x ∷ xs) ys (inl is) = inl is
has_more key (x ∷ xs) ys (inr has) = inr (has_more key xs ys has)

gone_more : (key : ℕ) (pairs : List (ℕ × ℕ)) (xs ys : List Reported) → (at key pairs ≡ None) ⊎ HasRemovalOf key xs → (at key pairs ≡ None) ⊎ HasRemovalOf key (xs ++ ys)
gone_more key pairs xs ys (inl none) = inl none
gone_more key pairs xs ys (inr has) = inr (has_more key xs ys has)

module _ (S : Type 0) (seen : S → Seen) (follows : S → S → Type 0) (shows : S → ℕ → ℕ → List (ℕ × ℕ) → Type 0) (joins : (a b c : S) → follows a b → follows b c → follows a c) where
  -- what was swept stays so
  swept_later : (low high n key : ℕ) (a b c : S) → IsSwept seen follows shows key a b → follows b c → AddsRemovals low high n (seen b) (seen c) → IsSwept seen follows shows key a c
  swept_later low high n key a b c swept then more = record {
    between = swept.between;
    before = swept.before;
    after = joins swept.between b c swept.after then;
    low = swept.low;
    end = swept.end;
    pairs = swept.pairs;
    shown = swept.shown;
    from_low = swept.from_low;
    below_end = swept.below_end;
    added = swept.added ++ more.added;
    since = added_then (seen swept.between) (seen b) (seen c) swept.added more.added swept.since more.trail;
    gone = gone_more key swept.pairs swept.added more.added swept.gone;
  }

  swept_before : (key : ℕ) (a b c : S) → follows a b → IsSwept seen follows shows key b c → IsSwept seen follows shows key a c
  swept_before key a b c first swept = record {
    between = swept.between;
    before = joins a b swept.between first swept.before;
    after = swept.after;
    low = swept.low;
    end = swept.end;
    pairs = swept.pairs;
    shown = swept.shown;
    from_low = swept.from_low;
    below_end = swept.below_end;
    added = swept.added;
    since = swept.since;
    gone = swept.gone;
  }

  -- a leaf whose pairs below the high were taken out is swept as far as that
  leaf_swept : (low end high key : ℕ) (pairs done left : List (ℕ × ℕ)) (n : ℕ) (a b c : S) → follows a b → follows b c → shows b low end pairs → rises low end pairs ≡ true
      → RemovesFirst high pairs done left n (seen b) (seen c) → StartFrom high left → low ≤ key → key < end → key < high → IsSwept seen follows shows key a c
  leaf_swept low end high key pairs done left n a b c first then shown rise removes starts above below less = record {
    between = b;
    before = first;
    after = then;
    low = low;
    end = end;
    pairs = pairs;
    shown = shown;
    from_low = above;
    below_end = below;
    added = removes.added;
    since = removes.trail;
    gone = subst (λ (es : List (ℕ × ℕ)). (at key es ≡ None) ⊎ HasRemovalOf key removes.added) (sym removes.parts)
        (gone_below low end high key done left removes.added (subst (λ (es : List (ℕ × ℕ)). rises low end es ≡ true) removes.parts rise) removes.removals starts less);
  }

  leaf_sweeps : (at end high key n : ℕ) (pairs : List (ℕ × ℕ)) (fault : Option Fault) (a b c : S) → follows a b → follows b c → shows b at end pairs → rises at end pairs ≡ true
      → RemovesBelow high pairs n fault (seen b) (seen c) → fault ≡ None → at ≤ key → key < end → key < high → IsSwept seen follows shows key a c
  leaf_sweeps at end high key n pairs fault a b c first then shown rise removes ended above below less =
      leaf_swept at end high key pairs removes.0 removes.1 n a b c first then shown rise removes.2 (removes.3 ended) above below less

  -- what was swept as far as a key, and one more leaf from there on
  swept_next : (low at next high n key : ℕ) (a b c : S) → follows a b → follows b c → AddsRemovals at (min next high) n (seen b) (seen c)
      → ((q : ℕ) → low ≤ q → q < at → q < high → IsSwept seen follows shows q a b) → ((q : ℕ) → at ≤ q → q < next → q < high → IsSwept seen follows shows q b c)
      → low ≤ key → key < next → key < high → IsSwept seen follows shows key a c
  swept_next low at next high n key a b c first then more before here above below less = by_test (nat_lt key at) refl
    where
      by_test : (test : Bool) → nat_lt key at ≡ test → IsSwept seen follows shows key a c
      by_test true early = swept_later at (min next high) n key a b c (before key above (grind (arith, nat_tests, early)) less) then more
      by_test false late = swept_before key a b c first (here key (grind (arith, nat_tests, late)) below less)

  -- what was swept as far as a key, and one more leaf that was read there, and whose pairs were taken out
  pub swept_read : (low at next high key n : ℕ) (pairs : List (ℕ × ℕ)) (fault : Option Fault) (a b c d : S) → follows a b → follows b c → follows c d → OnlySpends (seen b) (seen c) → shows c at next pairs
      → rises at next pairs ≡ true → RemovesBelow high pairs n fault (seen c) (seen d) → fault ≡ None → ((q : ℕ) → low ≤ q → q < at → q < high → IsSwept seen follows shows q a b)
      → low ≤ key → key < next → key < high → IsSwept seen follows shows key a d
  swept_read low at next high key n pairs fault a b c d first read then spends shown rise removes ended before above below less =
      swept_next low at next high n key a b d first (joins b c d read then) (leaf_adds at next high n pairs fault (seen b) (seen c) (seen d) spends rise removes) before
      (λ q from_at under q_less. leaf_sweeps at next high q n pairs fault b c d read then shown rise removes ended from_at under q_less) above below less
