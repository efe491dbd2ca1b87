-- One more leaf that was read of a tree.
use Rattle.std.proofs.Common.{◌≡◌, ℕ, zero, suc, ◌+◌, ◌<◌, ◌≤◌, [], ◌∷◌, ◌++◌, get_or, min, cond, Bool, true, false, List, length, take, drop, Option, Result, Ok, Err, refl, ap, sym, subst, ◌∙◌, length-append, arith}
use Rattle.std.specs.Prelude.{IsOk, IsErr, nat_lt}
use Rattle.std.proofs.lemmas.Bool.Decides.{nat_tests}
use Rattle.std.proofs.lemmas.List.{length-take-le, take-append-drop}
use Rattle.bw_delta.specs.Entries.{at, below, rises}
use Rattle.bw_chain.specs.Leaves.{AppendsLeaf}
use Rattle.bw_procedures.specs.declared.fault.Fault.{Fault}
use Rattle.bw_procedures.specs.Clearing.{LieBelow, StartFrom}
use Rattle.nifforan_forest.specs.Reads.{Reads, WasThere}
use Rattle.nifforan_forest.specs.Scans.{AppendsFirst, uncounted}
use Rattle.nifforan_forest.proofs.Reading.{reaches_high, reads_join, reads_later, reads_part, stop_of, stop_within, there_later, there_now}

pub not_fine : (result : Result ℕ Fault) → IsErr result → IsOk (uncounted result) → ⊥
not_fine (Ok count) err ok = absurd (cc)
not_fine (Err fault) err ok = absurd (cc)

module _ {H : Type 0} (follows : H → H → Type 0) (shows : H → ℕ → ℕ → List (ℕ × ℕ) → Type 0)
    (joins : (a b c : H) → follows a b → follows b c → follows a c) where
  pub read_on : (first old now : H) (low end : ℕ) (xs : List (ℕ × ℕ)) → follows old now
      → Reads (λ key found. WasThere follows shows key found first old) low end xs
      → Reads (λ key found. WasThere follows shows key found first now) low end xs
  read_on first old now low end xs then reads =
      reads_later (λ key found. WasThere follows shows key found first old) (λ key found. WasThere follows shows key found first now) low
      end xs (λ key found above under was. there_later follows shows joins first old now key found then was) reads

  -- the first of the leaf's pairs were added to those before it
  pub leaf_read : ((a : H) → follows a a) → (first old now : H) (low high at_key end count : ℕ) (added pairs : List (ℕ × ℕ)) → low ≤ at_key
      → at_key < high → at_key < end → follows first old → follows old now → shows now at_key end pairs → rises at_key end pairs ≡ true
      → LieBelow high (take count pairs) → Reads (λ key found. WasThere follows shows key found first old) low at_key added
      → Reads (λ key found. WasThere follows shows key found first now) low (stop_of high end (drop count pairs))
      (added ++ take count pairs)
  leaf_read stays first old now low high at_key end count added pairs le under inside begun then shown rise below so_far =
      let there = λ (key : ℕ) (found : Option ℕ). WasThere follows shows key found first now in
      let whole : take count pairs ++ drop count pairs ≡ pairs = take-append-drop count pairs in
      let rises_so : rises at_key end (take count pairs ++ drop count pairs) ≡ true = rw whole rise in
      let within =
      stop_within high at_key end (take count pairs) (drop count pairs) (omega (arith, inside)) (omega (arith, under)) rises_so in
      reads_join there low at_key (stop_of high end (drop count pairs)) added (take count pairs) le within.0
      (read_on first old now low at_key added then so_far)
      (reads_part there at_key end high (take count pairs) (drop count pairs) (omega (arith, inside)) (omega (arith, under)) rises_so below
      (λ key above less. subst (λ (es : List (ℕ × ℕ)). there key (at key es)) (sym whole)
      (there_now follows shows joins stays first now at_key end key pairs (joins first old now begun then) shown above less)))

-- how far the leaf's pairs were added
pub leaf_ends : (low high end count : ℕ) (pairs : List (ℕ × ℕ)) → low < high → low < end → rises low end pairs ≡ true
    → (low ≤ stop_of high end (drop count pairs)) × (stop_of high end (drop count pairs) ≤ high)
leaf_ends low high end count pairs under inside rise =
    let whole : take count pairs ++ drop count pairs ≡ pairs = take-append-drop count pairs in
    let within =
    stop_within high low end (take count pairs) (drop count pairs) (omega (arith, inside)) (omega (arith, under)) (rw whole rise) in
    (within.0, omega arith)

pub leaf_ended : (low high end count : ℕ) (pairs : List (ℕ × ℕ)) → rises low end pairs ≡ true → StartFrom high (drop count pairs)
    → stop_of high end (drop count pairs) ≡ min end high
leaf_ended low high end count pairs rise starts =
    reaches_high high low end (take count pairs) (drop count pairs) (rw (take-append-drop count pairs) rise) starts

-- rising pairs have none below a high that their first doesn't lie below
none_below : (low end high : ℕ) (es : List (ℕ × ℕ)) → high ≤ low → rises low end es ≡ true → below high es ≡ []
none_below low end high [] le rise = refl
none_below low end high (e ∷ es) le rise = grind (arith, nat_tests, none_below (e.0 + 1) end high es)

-- the first of the pairs that lie below the high are the first of all pairs
pub record IsFront (high limit : ℕ) (pairs front : List (ℕ × ℕ)) : Type 0 where
  pub is : front ≡ take (length front) pairs
  pub within_limit : length front ≤ limit
  pub few : length front ≤ length pairs
  pub below : LieBelow high front
  pub all : length front < limit → StartFrom high (drop (length front) pairs)

-- none of them are, where these begin with none below the high, or the limit is 0
no_front : (high limit : ℕ) (pairs : List (ℕ × ℕ)) → (0 < limit → StartFrom high pairs) → IsFront high limit pairs []
no_front high limit pairs all = record { is = refl; within_limit = omega arith; few = omega arith; below = tt; all = all }

pub front_is : (low end high limit : ℕ) (pairs : List (ℕ × ℕ)) → rises low end pairs ≡ true
    → IsFront high limit pairs (take limit (below high pairs))
front_is low end high zero pairs rise = no_front high zero pairs (λ some. absurd (omega (arith, some)))
front_is low end high (suc limit) [] rise = no_front high (suc limit) [] (λ some. tt)
front_is low end high (suc limit) (e ∷ es) rise =
    by_side (front_is (e.0 + 1) end high limit es (grind (arith, nat_tests, rise))) (nat_lt e.0 high) refl
  where
    by_side : IsFront high limit es (take limit (below high es)) → (test : Bool) → nat_lt e.0 high ≡ test
        → IsFront high (suc limit) (e ∷ es) (take (suc limit) (cond test (e ∷ below high es) (below high es)))
    by_side rest true is = record {
      is = ap (λ l. e ∷ l) rest.is;
      within_limit = omega (arith, rest.within_limit);
      few = omega (arith, rest.few);
      below = (grind (arith, nat_tests, is), rest.below);
      all = λ less. rest.all (omega (arith, less));
    }
    by_side rest false is =
        let past : high ≤ e.0 = grind (arith, nat_tests, is) in
        let none : below high es ≡ [] = none_below (e.0 + 1) end high es (omega (arith, past)) (grind (arith, nat_tests, rise)) in
        rw none (no_front high (suc limit) (e ∷ es) (λ some. past))

-- so are those that were appended to a list at once
pub appends_first : (shows : ℕ → ℕ → List (ℕ × ℕ) → Type 0) (key high limit end : ℕ) (old new : List (ℕ × ℕ))
    → AppendsLeaf shows key high limit end old new → AppendsFirst shows key high limit end old new
appends_first shows key high limit end old new it =
    let front = front_is key end high limit it.pairs it.rise in
    record {
      pairs = it.pairs;
      shown = it.shown;
      rise = it.rise;
      above = it.above;
      count = length (take limit (below high it.pairs));
      within_limit = front.within_limit;
      few = front.few;
      below = subst (LieBelow high) front.is front.below;
      all = front.all;
      appended = it.appended ∙ ap (λ l. old ++ l) front.is;
    }

-- the list is longer by as many
pub grows_by : (shows : ℕ → ℕ → List (ℕ × ℕ) → Type 0) (key high limit end : ℕ) (old new : List (ℕ × ℕ))
    → (it : AppendsFirst shows key high limit end old new) → length new ≡ length old + it.count
grows_by shows key high limit end old new it =
    omega (arith, ap length it.appended, length-append old (take it.count it.pairs), length-take-le it.count it.pairs it.few)

-- one pair more lies below the end
pub below_more : (end : ℕ) (xs : List (ℕ × ℕ)) (n : ℕ) (d : ℕ × ℕ) → LieBelow end (take n xs) → n < length xs → (get_or xs n d).0 < end
    → LieBelow end (take (n + 1) xs)
below_more end [] n d so_far less below = absurd (omega (arith, less))
below_more end (x ∷ xs) zero d so_far less below = (below, tt)
below_more end (x ∷ xs) (suc n) d so_far less below = let more : suc n + 1 ≡ suc (n + 1) = omega arith in rw more
    (so_far.0, below_more end xs n d so_far.1 (omega (arith, less)) below)

pub no_end : (result : Result (Unit {0}) Fault) → IsErr result → IsOk result → ⊥
no_end (Ok all) err ok = absurd (cc)
no_end (Err fault) err ok = absurd (cc)
