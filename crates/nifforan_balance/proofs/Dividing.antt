-- Pairs that are divided among trees.
use Rattle.std.proofs.Common.{◌≡◌, ◌⊎◌, ◌↔◌, ℕ, zero, suc, ◌+◌, ◌-◌, ◌*◌, ◌/◌, ◌<◌, ◌≤◌, true, false, List, [], ◌∷◌, ◌++◌, length, take, length-take, length-drop, below_more, slice_index_or, Option, Some, None, slice_get, refl, sym, ap, subst, ◌∙◌, inl, inr, ⊎_elim, arith}
use Rattle.std.specs.Prelude.{Result, IfErr, IsErrAnd, is_some, max, slice_index, unwrap_or}
use Rattle.std.proofs.lemmas.Bool.Decides.{nat_tests}
use Rattle.std.proofs.lemmas.List.{get_or-map, get_or_append_left, get_or_push, length-map, length_push, take_all}
use Rattle.std.proofs.lemmas.List.Elements.{All-push}
use Rattle.std.proofs.lemmas.Nat.{div-add-mod', div_below, le-div, mul-le}
use Rattle.std.proofs.Math.Nat.{div-le_self, lt-div-mul-add, mul-div_cancel_left}
use Rattle.std.proofs.Math.Seq.{take-add}
use Rattle.bw_keys.specs.declared.config.Config.{Config}
use Rattle.bw_keys.specs.Ranges.{key_count}
use Rattle.bw_delta.specs.Entries.{at, rises}
use Rattle.bw_delta.proofs.Rises.{there-from}
use Rattle.bw_law.specs.Laws.{IsTheMap}
use Rattle.bw_law.specs.Tables.{TableValue, Maps}
use Rattle.bw_procedures.specs.declared.fault.Fault.{Fault}
use Rattle.bw_procedures.specs.declared.fault.Fault.TheVariants.{Contended, NoMemory, TableFull, TooTall, Worn}
use Rattle.bw_forest.specs.Forests.{AreInARow, ForestMaps, ForestValue, IsForestMap, config_of}
use Rattle.bw_forest.proofs.Fits.{first_config}
use Rattle.bw_forest.proofs.Joining.{at_left, at_right}
use Rattle.bw_forest.proofs.Mapping.{in_a_row_more}
use Rattle.nifforan.specs.Maps.{PairList}
use Rattle.bw_forest.specs.Bounds.{is_bad_number, quantile}
use Rattle.nifforan_balance.specs.Balancing.{BeginAtParts, HaveParts, IsBalanced, IsEvenShare, IsPartTooLarge, IsPutFault, keys_of, part}
use Rattle.nifforan_balance.specs.Balancing.{parts_for, place_of}
use Rattle.nifforan.proofs.Filled.{passed_on}

-- Places.

-- a part begins no earlier than the one before it, and at or before the end of all pairs
pub places_rise : (n parts i j : ℕ) → 0 < parts → i ≤ j → place_of n parts i ≤ place_of n parts j
places_rise n parts i j some le =
    let below : i * n / parts * parts ≤ i * n = let it = div-add-mod' (i * n) parts in omega (arith, it) in
    let more : i * n ≤ j * n = mul-le i n j n le (omega arith) in
    le-div (i * n / parts) (j * n) parts some (omega (arith, below, more))

pub place_at_end : (n parts : ℕ) → 0 < parts → place_of n parts parts ≡ n
place_at_end n parts some = mul-div_cancel_left n some

pub place_within : (n parts i : ℕ) → 0 < parts → i ≤ parts → place_of n parts i ≤ n
place_within n parts i some le =
    let last = places_rise n parts i parts some le in
    let whole = place_at_end n parts some in
    omega (arith, last, whole)

pub place_inside : (n parts i : ℕ) → 0 < n → i < parts → place_of n parts i < n
place_inside n parts i some less =
    let more : i * n < n * parts = grind (arith, less, some) in
    div_below (i * n) parts n (omega (arith, less)) more

-- it has as many pairs as each other one, or one more
pub place_steps : (n parts i : ℕ) → 0 < parts
    → (place_of n parts i + n / parts ≤ place_of n parts (i + 1)) × (place_of n parts (i + 1) ≤ place_of n parts i + n / parts + 1)
place_steps n parts i some =
    let before = div-add-mod' (i * n) parts in
    let size = div-add-mod' n parts in
    let few : (i * n / parts + n / parts) * parts ≤ (i + 1) * n = omega (arith, before, size) in
    let less : i * n < i * n / parts * parts + parts = lt-div-mul-add some in
    let also : n < n / parts * parts + parts = lt-div-mul-add some in
    let many : (i + 1) * n < (i * n / parts + n / parts + 2) * parts = omega (arith, less, also) in
    let below = div_below ((i + 1) * n) parts (i * n / parts + n / parts + 2) some many in
    (le-div (i * n / parts + n / parts) ((i + 1) * n) parts some few, omega (arith, below))

-- Parts.

-- each part but the first begins at a pair, where there are no more parts than pairs
pub begins_inside : (n parts i place : ℕ) → 1 ≤ i → i < parts → parts ≤ max n 1 → place ≡ place_of n parts i → place < n
begins_inside n parts i place from less few at =
    let inside = place_inside n parts i (omega (arith, from, less, few)) less in
    omega (arith, inside, at)

-- the pairs before the next part are those before this one, and its own
pub with_part : (pairs : PairList) (parts i : ℕ) → 0 < parts
    → take (place_of (length pairs) parts (i + 1)) pairs ≡ take (place_of (length pairs) parts i) pairs ++ part pairs parts i
with_part pairs parts i some =
    let from = place_of (length pairs) parts i in
    let to = place_of (length pairs) parts (i + 1) in
    let rise = places_rise (length pairs) parts i (i + 1) some (omega arith) in
    let sum : to ≡ from + (to - from) = omega (arith, rise) in
    ap (λ n. take n pairs) sum ∙ take-add from (to - from) pairs

-- a part has as many pairs as each other one, or one more
pub part_size : (pairs : PairList) (parts i : ℕ) → i < parts
    → IsEvenShare (length pairs) parts (length (part pairs parts i))
part_size pairs parts i less =
    let n = length pairs in
    let some : 0 < parts = omega (arith, less) in
    let steps = place_steps n parts i some in
    let within = place_within n parts (i + 1) some (omega (arith, less)) in
    let size : length (part pairs parts i) ≡ place_of n parts (i + 1) - place_of n parts i =
    simp (length-take, length-drop) (omega (arith, within)) in
    (omega (arith, size, steps.0), omega (arith, size, steps.1))

pub all_parts : (pairs : PairList) (parts n : ℕ) → 0 < parts → n ≡ parts → take (place_of (length pairs) parts n) pairs ≡ pairs
all_parts pairs parts n some whole =
    let end : place_of (length pairs) parts n ≡ length pairs =
    ap (place_of (length pairs) parts) whole ∙ place_at_end (length pairs) parts some in
    take_all (place_of (length pairs) parts n) pairs (omega (arith, end))

-- Bounds.

-- the bounds of the first parts
pub record BeginUpto (pairs : PairList) (parts upto : ℕ) (lows : List ℕ) : Type 0 where
  pub number : length lows ≡ upto
  pub from_zero : slice_get lows 0 ≡ Some 0
  pub begin : (tree : ℕ) → tree < upto → 0 < tree → slice_index lows tree ≡ quantile (keys_of pairs) tree parts

pub begin_first : (pairs : PairList) (parts : ℕ) → BeginUpto pairs parts 1 (0 ∷ [])
begin_first pairs parts = record {
  number = refl;
  from_zero = refl;
  begin = λ tree less some. absurd (omega (arith, less, some));
}

first_kept : (xs : List ℕ) (x : ℕ) → slice_get xs 0 ≡ Some 0 → slice_get (xs ++ x ∷ []) 0 ≡ Some 0
first_kept [] x is = absurd (cc (is))
first_kept (y ∷ ys) x is = is

pub begin_more : (pairs : PairList) (parts i low : ℕ) (lows : List ℕ) → BeginUpto pairs parts i lows
    → low ≡ quantile (keys_of pairs) i parts → BeginUpto pairs parts (i + 1) (lows ++ low ∷ [])
begin_more pairs parts i low lows so is = record {
  number = length_push lows low ∙ ap (λ n. n + 1) so.number;
  from_zero = first_kept lows low so.from_zero;
  begin = below_more
      (λ tree. 0 < tree → slice_index (lows ++ low ∷ []) tree ≡ quantile (keys_of pairs) tree parts) i
      (λ tree less some. get_or_append_left lows (low ∷ []) 0 tree (omega (arith, less, so.number)) ∙ so.begin tree less some)
      (λ some. get_or_push lows low 0 i so.number ∙ is);
}

pub begin_all : (pairs : PairList) (parts upto : ℕ) (lows : List ℕ) → BeginUpto pairs parts upto lows → upto ≡ parts
    → BeginAtParts pairs parts lows
begin_all pairs parts upto lows so all = record {
  number = so.number ∙ all;
  from_zero = so.from_zero;
  begin = λ tree some less. so.begin tree (omega (arith, less, all)) some;
}

-- the first key of a part is the quantile
pub first_key : (pairs : PairList) (parts i place : ℕ) → place ≡ place_of (length pairs) parts i → place < length pairs
    → (slice_index_or pairs place (0, 0)).0 ≡ quantile (keys_of pairs) i parts
first_key pairs parts i place at less =
    let key = λ (p : ℕ × ℕ). p.0 in
    let same : place_of (length (keys_of pairs)) parts i ≡ place = ap (λ n. place_of n parts i) (length-map pairs key) ∙ sym at in
    sym (get_or-map key pairs place (0, 0) 0 less) ∙ ap (slice_index (keys_of pairs)) (sym same)

-- Tables.

-- what is at a place of a list with one element more
got_more : {X : Type 0} → (xs : List X) (x y : X) (i : ℕ) → slice_get (xs ++ x ∷ []) i ≡ Some y
    → (slice_get xs i ≡ Some y) ⊎ ((i ≡ length xs) × (x ≡ y))
got_more {X} [] x y zero got = inr (refl, ap (λ (o : Option X). unwrap_or o x) got)
got_more [] x y (suc i) got = absurd (cc (got))
got_more (z ∷ xs) x y zero got = inl got
got_more {X} (z ∷ xs) x y (suc i) got = ⊎_elim
    (λ (here : slice_get xs i ≡ Some y). inl here)
    (λ (last : (i ≡ length xs) × (x ≡ y)). inr (ap suc last.0, last.1))
    (got_more xs x y i got)

module _ (config : Config) (pairs : PairList) (parts : ℕ) (some : 0 < parts) where
  pub no_parts : HaveParts config pairs parts []
  no_parts = record {
    in_a_row =
        let few = div-le_self (0 * length pairs) parts in
        let none : place_of (length pairs) parts 0 ≡ 0 = omega (arith, few) in
        ap (λ n. take n pairs) none;
    each = λ tree table got. absurd (cc (got));
    config = λ k d less. absurd (omega (arith, less));
  }

  pub one_part_more : (tables more : List TableValue) (table : TableValue) → more ≡ tables ++ table ∷ []
      → HaveParts config pairs parts tables → table.config ≡ config → IsTheMap table (part pairs parts (length tables))
      → HaveParts config pairs parts more
  one_part_more tables more table grown have made is = rw grown (record {
    in_a_row = row;
    each = λ tree other got. ⊎_elim
        (λ (here : slice_get tables tree ≡ Some other). have.each tree other here)
        (λ (last : (tree ≡ length tables) × (table ≡ other)).
        subst (λ (t : TableValue). IsTheMap t (part pairs parts tree)) last.1
        (subst (λ n. IsTheMap table (part pairs parts n)) (sym last.0) is))
        (got_more tables table other tree got);
    config = All-push (λ (t : TableValue). t.config ≡ config) tables table have.config made;
  })
    where
      row : AreInARow (tables ++ table ∷ []) (take (place_of (length pairs) parts (length (tables ++ table ∷ []))) pairs)
      row =
          let count : length (tables ++ table ∷ []) ≡ length tables + 1 = length_push tables table in
          let its = in_a_row_more tables (take (place_of (length pairs) parts (length tables)) pairs) table
          (part pairs parts (length tables)) have.in_a_row is in
          subst (λ n. AreInARow (tables ++ table ∷ []) (take (place_of (length pairs) parts n) pairs)) (sym count)
          (rw (with_part pairs parts (length tables) some) its)

-- Forests.

rest_rises : (low end : ℕ) (e : ℕ × ℕ) (es : PairList) → rises low end (e ∷ es) ≡ true → rises (e.0 + 1) end es ≡ true
rest_rises low end e es rise = grind (arith, nat_tests, rise)

later_at : (e : ℕ × ℕ) (es : PairList) (key : ℕ) → e.0 < key → at key (e ∷ es) ≡ at key es
later_at e es key less = grind (arith, nat_tests, less)

-- what stands at a key behind other pairs stands at it among all, where all rise
at_behind : (low end key value : ℕ) (es fs : PairList) → rises low end (es ++ fs) ≡ true → at key fs ≡ Some value
    → at key (es ++ fs) ≡ Some value
at_behind low end key value [] fs rise found = found
at_behind low end key value (e ∷ es) fs rise found =
    let rest = rest_rises low end e (es ++ fs) rise in
    let there = at_behind (e.0 + 1) end key value es fs rest found in
    let from = there-from end (e.0 + 1) key (es ++ fs) (ap is_some there) rest in
    later_at e (es ++ fs) key (omega (arith, from)) ∙ there

lower : (a b end : ℕ) (es : PairList) → a ≤ b → rises b end es ≡ true → rises a end es ≡ true
lower a b end [] le rise = refl
lower a b end (e ∷ es) le rise = grind (arith, nat_tests, rise)

pub back_rises : (low end : ℕ) (es fs : PairList) → rises low end (es ++ fs) ≡ true → rises low end fs ≡ true
back_rises low end [] fs rise = rise
back_rises low end (e ∷ es) fs rise =
    let from : low ≤ e.0 = grind (arith, nat_tests, rise) in
    lower low (e.0 + 1) end fs (omega (arith, from)) (back_rises (e.0 + 1) end es fs (rest_rises low end e (es ++ fs) rise))

abbrev SameAs : List TableValue → PairList → Type 0
SameAs tables pairs = (key value : ℕ) → (at key pairs ≡ Some value) ↔ ForestMaps tables key value

module _ (table : TableValue) (tables : List TableValue) (own rest : PairList) (is : IsTheMap table own) (are : SameAs tables rest)
    (rise : rises 0 key_count (own ++ rest) ≡ true) (key value : ℕ) where
  to_maps : (found : Option ℕ) → at key own ≡ found → at key (own ++ rest) ≡ Some value → ForestMaps (table ∷ tables) key value
  to_maps (Some other) here there = inl ((is.same key value).0 (here ∙ sym (at_left key other own rest here) ∙ there))
  to_maps None here there = inr ((are key value).0 (sym (at_right key own rest here) ∙ there))

  same_here : (at key (own ++ rest) ≡ Some value) ↔ ForestMaps (table ∷ tables) key value
  same_here = (
    to_maps (at key own) refl,
    λ maps. ⊎_elim
        (λ (here : Maps table.slots key value). at_left key value own rest ((is.same key value).1 here))
        (λ (later : ForestMaps tables key value). at_behind 0 key_count key value own rest rise ((are key value).1 later))
        maps,
  )

row_is_map : (tables : List TableValue) (pairs : PairList) → rises 0 key_count pairs ≡ true → AreInARow tables pairs
    → SameAs tables pairs
row_is_map [] pairs rise none = rw none (λ key value. (λ found. absurd (cc (found)), λ maps. absurd maps))
row_is_map (table ∷ tables) pairs rise (own, rest, is, behind, joined) =
    let up : rises 0 key_count (own ++ rest) ≡ true = ap (rises 0 key_count) (sym joined) ∙ rise in
    let later = row_is_map tables rest (back_rises 0 key_count own rest up) behind in
    rw joined (same_here table tables own rest is later up)

-- rising pairs that are those of the tables in a row are the map of their forest
pub map_of_row : (tables : List TableValue) (pairs : PairList) → rises 0 key_count pairs ≡ true → AreInARow tables pairs
    → IsForestMap tables pairs
map_of_row tables pairs rise row = record { in_a_row = row; rise = rise; same = row_is_map tables pairs rise row }

pub some_parts : (trees parts n : ℕ) → is_bad_number trees ≡ false → parts ≡ parts_for trees n → 0 < parts
some_parts trees parts n fine many = grind (arith, nat_tests, fine, many)

-- a forest of tables with the parts is in balance
pub is_balanced : (old new : ForestValue) (trees parts : ℕ) (pairs : PairList) (made : Config) → 0 < parts
    → parts ≡ parts_for trees (length pairs) → made ≡ config_of old.tables → IsForestMap old.tables pairs
    → BeginAtParts pairs parts new.bounds → length new.tables ≡ parts → HaveParts made pairs parts new.tables → IsBalanced old trees new
is_balanced old new trees parts pairs made some many config were begin number have = record {
  pairs = pairs;
  parts = parts;
  were = were;
  are = map_of_row new.tables pairs were.rise
      (subst (AreInARow new.tables) (all_parts pairs parts (length new.tables) some number) have.in_a_row);
  many = many;
  begin = begin;
  number = number;
  each = have.each;
  even = λ tree less. part_size pairs parts tree less;
  config = first_config made new.tables (omega (arith, some, number)) have.config ∙ config;
}

-- the fault of a part is that of the forest
module _ (forest : ForestValue) (trees parts : ℕ) (pairs given : PairList) (made : Config) (were : IsForestMap forest.tables pairs)
    (same : given ≡ pairs) (config : made ≡ config_of forest.tables) (many : parts ≡ parts_for trees (length pairs)) where
  put_fault : (fault : Fault) → (fault ≡ TableFull → IsPartTooLarge made given parts) → IsPutFault forest trees fault
  put_fault TableFull large = (
    pairs,
    were,
    subst (IsPartTooLarge (config_of forest.tables) pairs) many
        (subst (λ (l : PairList). IsPartTooLarge (config_of forest.tables) l parts) same
        (subst (λ (c : Config). IsPartTooLarge c given parts) config (large refl))),
  )
  put_fault NoMemory large = tt
  put_fault Contended large = tt
  put_fault TooTall large = tt
  put_fault Worn large = tt

  pub is_put_fault : {T : Type 0} (result : Result T Fault) (fault : Fault) → IsErrAnd result (λ it. it ≡ fault)
      → (fault ≡ TableFull → IsPartTooLarge made given parts) → IfErr result (IsPutFault forest trees)
  is_put_fault result fault is large = passed_on result fault (IsPutFault forest trees) is (put_fault fault large)
