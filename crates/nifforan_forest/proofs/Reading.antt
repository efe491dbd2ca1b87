-- Pairs that were read one part after the other.
use Rattle.std.proofs.Common.{◌≡◌, ℕ, ◌+◌, ◌<◌, ◌≤◌, min, Bool, true, false, List, [], ◌∷◌, ◌++◌, Option, None, refl, sym, subst, arith}
use Rattle.std.specs.Prelude.{nat_lt}
use Rattle.std.proofs.lemmas.Bool.Decides.{nat_tests}
use Rattle.bw_delta.specs.Entries.{at, rises}
use Rattle.bw_delta.proofs.Rises.{rises-lower}
use Rattle.bw_procedures.specs.Clearing.{LieBelow, StartFrom}
use Rattle.nifforan_forest.specs.Reads.{Reads, WasThere}

-- rising pairs have no key below the first, and none past the end
none_before : (low end key : ℕ) (es : List (ℕ × ℕ)) → rises low end es ≡ true → key < low → at key es ≡ None
none_before low end key [] rise less = refl
none_before low end key (e ∷ es) rise less = grind (arith, nat_tests, none_before (e.0 + 1) end key es)

at_front : (low end key : ℕ) (xs ys : List (ℕ × ℕ)) → rises low end ys ≡ true → key < low → at key (xs ++ ys) ≡ at key xs
at_front low end key [] ys rise less = none_before low end key ys rise less
at_front low end key (x ∷ xs) ys rise less = grind (arith, nat_tests, at_front low end key xs ys)

at_back : (low end key : ℕ) (xs ys : List (ℕ × ℕ)) → rises low end xs ≡ true → end ≤ key → at key (xs ++ ys) ≡ at key ys
at_back low end key [] ys rise past = refl
at_back low end key (x ∷ xs) ys rise past = grind (arith, nat_tests, at_back (x.0 + 1) end key xs ys)

rises_join : (low middle end : ℕ) (xs ys : List (ℕ × ℕ)) → low ≤ middle → middle ≤ end → rises low middle xs ≡ true
    → rises middle end ys ≡ true → rises low end (xs ++ ys) ≡ true
rises_join low middle end [] ys le within left right = rises-lower end low middle ys le right
rises_join low middle end (x ∷ xs) ys le within left right = grind (arith, nat_tests, rises_join (x.0 + 1) middle end xs ys)

-- the first of rising pairs, as far as they lie below a key, rise below it
rises_front : (low end stop : ℕ) (xs ys : List (ℕ × ℕ)) → rises low end (xs ++ ys) ≡ true → LieBelow stop xs → rises low stop xs ≡ true
rises_front low end stop [] ys rise below = refl
rises_front low end stop (x ∷ xs) ys rise below = grind (arith, nat_tests, rises_front (x.0 + 1) end stop xs ys, below.0, below.1)

-- and those behind them rise from the first of them
rises_back : (low end stop : ℕ) (xs ys : List (ℕ × ℕ)) → rises low end (xs ++ ys) ≡ true → StartFrom stop ys → rises stop end ys ≡ true
rises_back low end stop [] [] rise starts = refl
rises_back low end stop [] (y ∷ ys) rise starts = grind (arith, nat_tests)
rises_back low end stop (x ∷ xs) ys rise starts = rises_back (x.0 + 1) end stop xs ys (grind (arith, nat_tests, rise)) starts

-- where rising pairs end that are followed by these
abbrev pub first_or : ℕ → List (ℕ × ℕ) → ℕ
first_or end [] = end
first_or end (e ∷ es) = e.0

below_rest : (low end : ℕ) (xs ys : List (ℕ × ℕ)) → rises low end (xs ++ ys) ≡ true → LieBelow (first_or end ys) xs
below_rest low end [] ys rise = tt
below_rest low end (x ∷ xs) ys rise = (
  first_above (x.0 + 1) end x.0 xs ys (grind (arith, nat_tests, rise)) (omega arith) (grind (arith, nat_tests, rise)),
  below_rest
      (x.0 + 1) end xs ys (grind (arith, nat_tests, rise)),
)
  where
    first_above : (low end key : ℕ) (xs ys : List (ℕ × ℕ)) → rises low end (xs ++ ys) ≡ true → key < low → key < end → key < first_or end ys
    first_above low end key [] [] rise less under = under
    first_above low end key [] (y ∷ ys) rise less under = grind (arith, nat_tests, rise)
    first_above low end key (x ∷ xs) ys rise less under =
        first_above (x.0 + 1) end key xs ys (grind (arith, nat_tests, rise)) (grind (arith, nat_tests, rise)) under

below_both : (a b : ℕ) (xs : List (ℕ × ℕ)) → LieBelow a xs → LieBelow b xs → LieBelow (min a b) xs
below_both a b [] one other = tt
below_both a b (x ∷ xs) one other = (omega (arith, one.0, other.0), below_both a b xs one.1 other.1)

starts_first : (high low end : ℕ) (ys : List (ℕ × ℕ)) → rises low end ys ≡ true → StartFrom (min high (first_or end ys)) ys
starts_first high low end [] rise = tt
starts_first high low end (y ∷ ys) rise = omega arith

above_low : (low end : ℕ) (x : ℕ × ℕ) (xs ys : List (ℕ × ℕ)) → rises low end (x ∷ xs ++ ys) ≡ true → low ≤ x.0 + 1
above_low low end x xs ys rise = grind (arith, nat_tests, rise)

rises_rest : (low end : ℕ) (x : ℕ × ℕ) (xs ys : List (ℕ × ℕ)) → rises low end (x ∷ xs ++ ys) ≡ true → rises (x.0 + 1) end (xs ++ ys) ≡ true
rises_rest low end x xs ys rise = grind (arith, nat_tests, rise)

rise_behind : (low end : ℕ) (xs ys : List (ℕ × ℕ)) → rises low end (xs ++ ys) ≡ true → rises low end ys ≡ true
rise_behind low end [] ys rise = rise
rise_behind low end (x ∷ xs) ys rise =
    rises-lower end low (x.0 + 1) ys (above_low low end x xs ys rise) (rise_behind (x.0 + 1) end xs ys (rises_rest low end x xs ys rise))

-- how far the first of rising pairs reach that lie below the high
abbrev pub stop_of : ℕ → ℕ → List (ℕ × ℕ) → ℕ
stop_of high end rest = min high (first_or end rest)

-- where none behind them lies below the high, they reach it, or the end of all
pub reaches_high : (high low end : ℕ) (xs ys : List (ℕ × ℕ)) → rises low end (xs ++ ys) ≡ true → StartFrom high ys
    → stop_of high end ys ≡ min end high
reaches_high high low end xs [] rise starts = omega arith
reaches_high high low end xs (y ∷ ys) rise starts =
    let under : y.0 < end = grind (arith, nat_tests, rise_behind low end xs (y ∷ ys) rise) in omega (arith, starts, under)

first_within : (low end : ℕ) (xs ys : List (ℕ × ℕ)) → low ≤ end → rises low end (xs ++ ys) ≡ true
    → (low ≤ first_or end ys) × (first_or end ys ≤ end)
first_within low end xs [] le rise = (le, omega arith)
first_within low end xs (y ∷ ys) le rise = let behind = rise_behind low end xs (y ∷ ys) rise
    in (grind (arith, nat_tests, behind), grind (arith, nat_tests, behind))

pub stop_within : (high low end : ℕ) (xs ys : List (ℕ × ℕ)) → low ≤ end → low ≤ high → rises low end (xs ++ ys) ≡ true
    → (low ≤ stop_of high end ys) × (stop_of high end ys ≤ end)
stop_within high low end xs ys le less rise = let it = first_within low end xs ys le rise
    in (omega (arith, it.0, less), omega (arith, it.1))

module _ (there : ℕ → Option ℕ → Type 0) where
  -- nothing was read yet
  pub reads_none : (low : ℕ) → Reads there low low []
  reads_none low = record { rises = refl; each = λ key above below. absurd (omega (arith, above, below)) }

  -- the first of the pairs of a page were read, as far as they lie below the high
  pub reads_part : (low end high : ℕ) (xs ys : List (ℕ × ℕ)) → low ≤ end → low ≤ high → rises low end (xs ++ ys) ≡ true → LieBelow high xs
      → ((key : ℕ) → low ≤ key → key < end → there key (at key (xs ++ ys))) → Reads there low (stop_of high end ys) xs
  reads_part low end high xs ys le less rise below each =
      let stop = stop_of high end ys in
      let behind : rises stop end ys ≡ true =
      rises_back low end stop xs ys rise (starts_first high low end ys (rise_behind low end xs ys rise)) in
      record {
        rises = rises_front low end stop xs ys rise (below_both high (first_or end ys) xs below (below_rest low end xs ys rise));
        each =
            λ key above under. subst (there key) (at_front stop end key xs ys behind under)
            (each key above (omega (arith, under, (stop_within high low end xs ys le less rise).1)));
      }

  -- one part was read after the other
  pub reads_join : (low middle end : ℕ) (xs ys : List (ℕ × ℕ)) → low ≤ middle → middle ≤ end → Reads there low middle xs
      → Reads there middle end ys → Reads there low end (xs ++ ys)
  reads_join low middle end xs ys le within first then = record {
    rises = rises_join low middle end xs ys le within first.rises then.rises;
    each = λ key above under. by_side key above under (nat_lt key middle) refl;
  }
    where
      by_side : (key : ℕ) → low ≤ key → key < end → (test : Bool) → nat_lt key middle ≡ test → there key (at key (xs ++ ys))
      by_side key above under true is = let less : key < middle = grind (arith, nat_tests, is) in subst (there key)
          (sym (at_front middle end key xs ys then.rises less)) (first.each key above less)
      by_side key above under false is = let past : middle ≤ key = grind (arith, nat_tests, is) in subst (there key)
          (sym (at_back low middle key xs ys first.rises past)) (then.each key past under)

pub reads_later : (there later : ℕ → Option ℕ → Type 0) (low end : ℕ) (xs : List (ℕ × ℕ))
    → ((key : ℕ) (found : Option ℕ) → low ≤ key → key < end → there key found → later key found) → Reads there low end xs
    → Reads later low end xs
reads_later there later low end xs stays reads =
    record { rises = reads.rises; each = λ key above under. stays key (at key xs) above under (reads.each key above under) }

module _ {H : Type 0} (follows : H → H → Type 0) (shows : H → ℕ → ℕ → List (ℕ × ℕ) → Type 0)
    (joins : (a b c : H) → follows a b → follows b c → follows a c) where
  -- what was there stays so
  pub there_later : (a b c : H) (key : ℕ) (found : Option ℕ) → follows b c → WasThere follows shows key found a b
      → WasThere follows shows key found a c
  there_later a b c key found then was = record {
    between = was.between;
    before = was.before;
    after = joins was.between b c was.after then;
    low = was.low;
    end = was.end;
    pairs = was.pairs;
    shown = was.shown;
    from_low = was.from_low;
    below_end = was.below_end;
    had = was.had;
  }

  -- a page that is shown has what is there
  pub there_now : ((a : H) → follows a a) → (a b : H) (low end key : ℕ) (pairs : List (ℕ × ℕ)) → follows a b → shows b low end pairs
      → low ≤ key → key < end → WasThere follows shows key (at key pairs) a b
  there_now stays a b low end key pairs then shown above under = record {
    between = b;
    before = then;
    after = stays b;
    low = low;
    end = end;
    pairs = pairs;
    shown = shown;
    from_low = above;
    below_end = under;
    had = refl;
  }
