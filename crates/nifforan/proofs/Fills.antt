-- Pairs set one after the other.
use Rattle.std.proofs.Common.{◌≡◌, ℕ, ◌+◌, ◌≤◌, true, [], ◌∷◌, ◌++◌, Option, None, Result, Ok, Err, refl, sym, ◌∙◌, ap, append_assoc, append-nil, arith}
use Rattle.std.specs.Iterator.{Yields, YieldsFirst, Drains}
use Rattle.std.proofs.lemmas.Bool.Decides.{nat_tests}
use Rattle.bw_delta.specs.Entries.{put, rises}
use Rattle.nifforan.specs.Filling.{IsMadeOf}
use Rattle.nifforan.specs.Calls.{set_all, SetsAll}
use Rattle.nifforan.specs.Maps.{PairList}

pub set_all-append : (pair : ℕ × ℕ) (pairs old : PairList) → set_all (pairs ++ pair ∷ []) old ≡ put pair.0 pair.1 (set_all pairs old)
set_all-append pair [] old = refl
set_all-append pair (p ∷ pairs) old = set_all-append pair pairs (put p.0 p.1 old)

-- Pairs after all others stay in their order.

pub rises_further : (low end more : ℕ) (es : PairList) → end ≤ more → rises low end es ≡ true → rises low more es ≡ true
rises_further low end more [] le rise = refl
rises_further low end more (e ∷ es) le rise = grind (arith, nat_tests, rises_further (e.0 + 1) end more es)

pub put_behind : (low key value : ℕ) (front : PairList) → rises low key front ≡ true → put key value front ≡ front ++ (key, value) ∷ []
put_behind low key value [] rise = refl
put_behind low key value (e ∷ es) rise = grind (arith, nat_tests, put_behind (e.0 + 1) key value es)

pub rises_with : (low key value : ℕ) (front : PairList) → low ≤ key → rises low key front ≡ true → rises low (key + 1) (front ++ (key, value) ∷ []) ≡ true
rises_with low key value [] le rise = grind (arith, nat_tests)
rises_with low key value (e ∷ es) le rise = grind (arith, nat_tests, rises_with (e.0 + 1) key value es)

set_all_behind : (first low end : ℕ) (front pairs : PairList) → first ≤ low → rises first low front ≡ true → rises low end pairs ≡ true → set_all pairs front ≡ front ++ pairs
set_all_behind first low end front [] le before rise = sym (append-nil front)
set_all_behind first low end front (p ∷ pairs) le before rise =
    let from_low : low ≤ p.0 = grind (arith, nat_tests) in
    let rest : rises (p.0 + 1) end pairs ≡ true = grind (arith, nat_tests) in
    let all : rises first p.0 front ≡ true = rises_further first low p.0 front from_low before in
    let with : rises first (p.0 + 1) (front ++ p ∷ []) ≡ true = rises_with first p.0 p.1 front (omega (arith, le, from_low)) all in
    ap (set_all pairs) (put_behind first p.0 p.1 front all)
    ∙ (set_all_behind first (p.0 + 1) end (front ++ p ∷ []) pairs (omega (arith, le, from_low)) with rest ∙ append_assoc front (p ∷ []) pairs)

-- the pairs of a map, set one after the other, are its list again
pub set_all_same : (end : ℕ) (pairs : PairList) → rises 0 end pairs ≡ true → set_all pairs [] ≡ pairs
set_all_same end pairs rise = set_all_behind 0 0 end [] pairs (omega arith) refl rise

-- Iterators.

yields_all : (start items last done : PairList) → Yields (YieldsFirst (λ (left : PairList). left)) start items last → YieldsFirst (λ (left : PairList). left) last None done → items ≡ start
yields_all start [] last done yields none = sym (yields ∙ none.0)
yields_all start (item ∷ items) last done yields none = ap (λ (rest : PairList). item ∷ rest) (yields_all yields.0 items last done yields.2 none) ∙ sym yields.1

-- what is made of all pairs of a map is its list
pub made_of_all : (end : ℕ) (pairs made : PairList) → rises 0 end pairs ≡ true
    → IsMadeOf (λ (ps it : PairList). it ≡ ps) (YieldsFirst (λ (left : PairList). left)) pairs made → made ≡ pairs
made_of_all end pairs made rise of =
    let all : of.1 ≡ pairs = yields_all of.0 of.1 of.3.1.0 of.3.0 of.3.1.1 of.3.1.2 ∙ of.2 in
    of.4 ∙ (ap (λ (items : PairList). set_all items []) all ∙ set_all_same end pairs rise)

-- all pairs of a map, set in one without pairs, are its list
pub set_of_all : (end : ℕ) (pairs empty made it items : PairList) → rises 0 end pairs ≡ true → it ≡ pairs → empty ≡ [] → made ≡ set_all items empty
    → Drains (YieldsFirst (λ (left : PairList). left)) it items → made ≡ pairs
set_of_all end pairs empty made it items rise is none set drains =
    made_of_all end pairs made rise (it, items, is, drains, set ∙ ap (λ (old : PairList). set_all items old) none)

-- what is set in a map without pairs is what it is made of
pub is_made : {U T R E : Type 0} (becomes : U → T → Type 0) (steps : T → Option (ℕ × ℕ) → T → Type 0) (pairs : U) (reply : R) (result : Result R E) (old new : PairList)
    → result ≡ Ok reply → old ≡ [] → SetsAll becomes steps pairs result old new → IsMadeOf becomes steps pairs new
is_made becomes steps pairs reply (Ok it) old new is empty sets = (sets.0, sets.2.0, sets.1, sets.2.2, sets.2.1 ∙ ap (set_all sets.2.0) empty)
is_made becomes steps pairs reply (Err fault) old new is empty sets = absurd (cc is)
