-- Places that are filled with pairs, one after the other.
use Rattle.std.proofs.Common.{◌≡◌, ℕ, ◌+◌, ◌<◌, ◌≤◌, List, [], ◌∷◌, ◌++◌, length, take, drop, min, slice_index_or, slice_set, reverse, refl, sym, ap, subst, ◌∙◌, arith}
use Rattle.std.proofs.Math.Seq.{drop-length}
use Rattle.std.proofs.lemmas.List.{append-nil, drop_more, length-map, length-take-le, reverse-append, take_more_set, drop-set-lt, drop_at, take_at, map_push, append_assoc, drop-drop, length_push, length-set, length-append}
use Rattle.nifforan.specs.Maps.{PairList}
use Rattle.nifforan_handle.specs.Reading.{are_pairs}
use Rattle.nifforan_handle.specs.declared.answer.Pair.{Pair}

-- of all pairs, these stand in the places, and the others are left
pub record IsFilled (old now : List Pair) (all given left : PairList) (count : ℕ) : Type 0 where
  pub all_are : all ≡ given ++ left
  pub stand : are_pairs (take count now) ≡ given
  pub many : length given ≡ count
  pub room : count ≤ length now
  pub rest : drop count now ≡ drop count old

pub none_yet : (old : List Pair) (all : PairList) → IsFilled old old all [] all 0
none_yet old all = record { all_are = refl; stand = refl; many = refl; room = grind arith; rest = refl }

pub one_more : (old now : List Pair) (all given left rest : PairList) (count key value : ℕ) → IsFilled old now all given left count → left ≡ (key, value) ∷ rest → count < length now
    → IsFilled old (slice_set now count (record { key = key; value = value })) all (given ++ (key, value) ∷ []) rest (count + 1)
one_more old now all given left rest count key value filled next fits = let pair : Pair = record { key = key; value = value } in record {
  all_are = filled.all_are ∙ ap (λ (l : PairList). given ++ l) next ∙ sym (append_assoc given ((key, value) ∷ []) rest);
  stand = ap are_pairs (take_more_set now count pair fits) ∙ map_push (λ (p : Pair). (p.key, p.value)) (take count now) pair ∙ ap (λ (l : PairList). l ++ (key, value) ∷ []) filled.stand;
  many = length_push given (key, value) ∙ ap (λ (n : ℕ). n + 1) filled.many;
  room = subst (λ (n : ℕ). count + 1 ≤ n) (sym (length-set now count pair)) (omega (arith, fits));
  rest = drop-set-lt (count + 1) now count pair (omega arith) ∙ sym (drop-drop 1 count now) ∙ ap (λ (l : List Pair). drop 1 l) filled.rest ∙ drop-drop 1 count old;
}

-- the pairs that are left are those after the places that are filled
pub left_is : (old now : List Pair) (all given left : PairList) (count : ℕ) → IsFilled old now all given left count → left ≡ drop count all
left_is old now all given left count filled = sym (drop_at given left count filled.many) ∙ ap (λ (l : PairList). drop count l) (sym filled.all_are)

pub pairs_are : (old now : List Pair) (all given left : PairList) (count : ℕ) → IsFilled old now all given left count → are_pairs (take count now) ≡ take count all
pairs_are old now all given left count filled = filled.stand ∙ sym (take_at given left count filled.many) ∙ ap (λ (l : PairList). take count l) (sym filled.all_are)

all_many : (old now : List Pair) (all given left : PairList) (count : ℕ) → IsFilled old now all given left count → length all ≡ count + length left
all_many old now all given left count filled = ap length filled.all_are ∙ length-append given left ∙ ap (λ (n : ℕ). n + length left) filled.many

-- no place was left, or no pair
pub full : (old now : List Pair) (all given left : PairList) (count room : ℕ) → IsFilled old now all given left count → length now ≡ room → length now ≤ count → count ≡ min room (length all)
full old now all given left count room filled same over = let many = all_many old now all given left count filled in let fits = filled.room in omega (arith, many, fits, same, over)

pub none_left : (old now : List Pair) (all given left : PairList) (count room : ℕ) → IsFilled old now all given left count → length now ≡ room → left ≡ [] → count ≡ min room (length all)
none_left old now all given left count room filled same none =
    let many : length all ≡ count + 0 = all_many old now all given left count filled ∙ ap (λ (l : PairList). count + length l) none in let fits = filled.room in omega (arith, many, fits, same)

-- so far they stand there, whichever they are
abbrev pub IsFilledUpto : List Pair → List Pair → PairList → PairList → ℕ → Type 0
IsFilledUpto old now all left count = (given : PairList) × IsFilled old now all given left count

-- one more, and then a run of them
module _ (old now : List Pair) (all left : PairList) (count : ℕ) (filled : IsFilledUpto old now all left count) where
  pub one_upto : (rest : PairList) (key value : ℕ) → left ≡ (key, value) ∷ rest → count < length now
      → IsFilledUpto old (slice_set now count (record { key = key; value = value })) all rest (count + 1)
  one_upto rest key value next fits = (filled.0 ++ (key, value) ∷ [], one_more old now all filled.0 left rest count key value filled.1 next fits)

  pub run_upto : (new : List Pair) (run rest : PairList) → left ≡ run ++ rest → length new ≡ length now → count + length run ≤ length now
      → are_pairs (take (count + length run) new) ≡ are_pairs (take count now) ++ run → drop (count + length run) new ≡ drop (count + length run) now
      → IsFilledUpto old new all rest (count + length run)
  run_upto new run rest next long fits written dropped = (
    filled.0 ++ run,
    record {
      all_are = filled.1.all_are ∙ ap (λ (l : PairList). filled.0 ++ l) next ∙ sym (append_assoc filled.0 run rest);
      stand = written ∙ ap (λ (l : PairList). l ++ run) filled.1.stand;
      many = length-append filled.0 run ∙ ap (λ (n : ℕ). n + length run) filled.1.many;
      room = omega (arith, long, fits);
      rest = dropped ∙ sym (drop-drop (length run) count now) ∙ ap (λ (l : List Pair). drop (length run) l) filled.1.rest ∙ drop-drop (length run) count old;
    },
  )

-- the first n pairs of a run stand after those that stood before the first place
abbrev pub IsWritten : List Pair → List Pair → PairList → ℕ → ℕ → Type 0
IsWritten old now run first n = IsFilledUpto old now (are_pairs (take first old) ++ run) (drop n run) (first + n)

pub none_written : (old : List Pair) (run : PairList) (first : ℕ) → first + length run ≤ length old → IsWritten old old run first 0
none_written old run first fits = let none : first ≡ first + 0 = omega arith in
    subst (λ (n : ℕ). IsFilledUpto old old (are_pairs (take first old) ++ run) run n) none (
      are_pairs (take first old),
      record {
        all_are = refl;
        stand = refl;
        many = length-map (take first old) (λ (p : Pair). (p.key, p.value)) ∙ length-take-le first old (omega (arith, fits));
        room = omega (arith, fits);
        rest = refl;
      },
    )

module _ (old now : List Pair) (run : PairList) (first n : ℕ) (written : IsWritten old now run first n) where
  pub one_written : (key value : ℕ) → ◌≡◌ {A = ℕ × ℕ} (key, value) (slice_index_or run n (key, value)) → n < length run → first + n < length now
      → IsWritten old (slice_set now (first + n) (record { key = key; value = value })) run first (n + 1)
  one_written key value is inside fits =
      let next : first + n + 1 ≡ first + (n + 1) = omega arith in
      let all : PairList = are_pairs (take first old) ++ run in
      subst (λ (k : ℕ). IsFilledUpto old (slice_set now (first + n) (record { key = key; value = value })) all (drop (n + 1) run) k) next
      (one_upto old now (are_pairs (take first old) ++ run) (drop n run) (first + n) written (drop (n + 1) run) key value
      (drop_more run n (key, value) inside ∙ ap (λ (p : ℕ × ℕ). p ∷ drop (n + 1) run) (sym is)) fits)

  pub all_written : n ≡ length run → are_pairs (take (first + length run) now) ≡ are_pairs (take first old) ++ run
  all_written all =
      let none : drop n run ≡ [] = ap (λ (k : ℕ). drop k run) all ∙ drop-length run in
      ap (λ (k : ℕ). are_pairs (take (first + k) now)) (sym all) ∙ written.1.stand ∙ sym (append-nil written.0)
      ∙ ap (λ (l : PairList). written.0 ++ l) (sym none) ∙ sym written.1.all_are

  pub others_stay : n ≡ length run → drop (first + length run) now ≡ drop (first + length run) old
  others_stay all = ap (λ (k : ℕ). drop (first + k) now) (sym all) ∙ written.1.rest ∙ ap (λ (k : ℕ). drop (first + k) old) all

-- the same of pairs that come backwards
abbrev pub IsFilledBack : List Pair → List Pair → PairList → PairList → ℕ → Type 0
IsFilledBack old now all left count = (given : PairList) × IsFilled old now (reverse all) given (reverse left) count

pub one_more_back : (old now : List Pair) (all left rest : PairList) (count key value : ℕ) → IsFilledBack old now all left count → left ≡ rest ++ (key, value) ∷ [] → count < length now
    → IsFilledBack old (slice_set now count (record { key = key; value = value })) all rest (count + 1)
one_more_back old now all left rest count key value filled next fits =
    (filled.0 ++ (key, value) ∷ [], one_more old now (reverse all) filled.0 (reverse left) (reverse rest) count key value filled.1 (ap reverse next ∙ reverse-append rest ((key, value) ∷ [])) fits)
