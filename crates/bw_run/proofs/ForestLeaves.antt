-- The leaves of a forest, tree by tree.
use Rattle.std.proofs.Common.{◌≡◌, ℕ, zero, suc, ◌+◌, ◌<◌, List, [], ◌∷◌, ◌++◌, length, map, take, refl, ap, sym, subst, ◌∙◌, append_assoc, append-nil, arith}
use Rattle.std.specs.Prelude.{max, min, slice_index_or, sum_by}
use Rattle.std.proofs.lemmas.List.{take_more}
use Rattle.std.proofs.lemmas.List.Sums.{sum_by_more}
use Rattle.bw_keys.specs.declared.range.Range.{Range}
use Rattle.bw_step.specs.declared.survey.Leaf.{Leaf}
use Rattle.bw_law.specs.Tables.{TableValue}
use Rattle.bw_tree.specs.Stocks.{most}
use Rattle.bw_run.specs.ForestSurveys.{AreLeavesInARow, AreLeavesWithin, capped_sum, levels_of, most_levels}

-- an item more
take_then : {X : Type 0} → (xs : List X) (i : ℕ) (x : X) → i < length xs → x ≡ slice_index_or xs i x
    → take (i + 1) xs ≡ take i xs ++ x ∷ []
take_then xs i x inside is = take_more xs i x inside ∙ ap (λ it. take i xs ++ it ∷ []) (sym is)

-- those of one tree more
leaves_then : (ranges : List Range) (tables : List TableValue) (leaves : List Leaf) (range : Range) (table : TableValue)
    (own : List Leaf)
    → AreLeavesInARow ranges tables leaves → AreLeavesWithin range table own
    → AreLeavesInARow (ranges ++ range ∷ []) (tables ++ table ∷ []) (leaves ++ own)
leaves_then [] [] leaves range table own row more = (own, [], more, refl, ap (λ (l : List Leaf). l ++ own) row ∙ sym (append-nil own))
leaves_then [] (t ∷ tables) leaves range table own row more = absurd row
leaves_then (r ∷ ranges) [] leaves range table own row more = absurd row
leaves_then (r ∷ ranges) (t ∷ tables) leaves range table own row more = (
  row.0,
  row.1 ++ own,
  row.2,
  leaves_then ranges tables row.1 range table own row.3 more,
  ap (λ (l : List Leaf). l ++ own) row.4
      ∙ append_assoc row.0 row.1 own,
)

pub leaves_more : (ranges : List Range) (tables : List TableValue) (leaves : List Leaf) (i : ℕ) (range : Range) (table : TableValue)
    (own : List Leaf)
    → i < length ranges → i < length tables → range ≡ slice_index_or ranges i range → table ≡ slice_index_or tables i table
    → AreLeavesInARow (take i ranges) (take i tables) leaves → AreLeavesWithin range table own
    → AreLeavesInARow (take (i + 1) ranges) (take (i + 1) tables) (leaves ++ own)
leaves_more ranges tables leaves i range table own in_ranges in_tables is_range is_table row more =
    let more_ranges = take_then ranges i range in_ranges is_range in
    let more_tables = take_then tables i table in_tables is_table in
    rw (more_ranges, more_tables) (leaves_then (take i ranges) (take i tables) leaves range table own row more)

levels_then : (tables : List TableValue) (table : TableValue)
    → most_levels (tables ++ table ∷ []) ≡ max (most_levels tables) (levels_of table)
levels_then [] table = omega arith
levels_then (t ∷ tables) table = let rest = levels_then tables table in omega (arith, rest)

-- one tree more may be the highest
pub levels_more : (tables : List TableValue) (i : ℕ) (table : TableValue) (so_far : ℕ) → i < length tables
    → table ≡ slice_index_or tables i table → so_far ≡ most_levels (take i tables)
    → max so_far (levels_of table) ≡ most_levels (take (i + 1) tables)
levels_more tables i table so_far inside is levels =
    rw (take_then tables i table inside is) (rw levels (sym (levels_then (take i tables) table)))

-- what the books of one tree more have
pub sum_more : (f : TableValue → ℕ) (tables : List TableValue) (i : ℕ) (table : TableValue) (so_far : ℕ) → i < length tables
    → table ≡ slice_index_or tables i table
    → so_far ≡ capped_sum f (take i tables) → min (so_far + f table) most ≡ capped_sum f (take (i + 1) tables)
sum_more f tables i table so_far inside is sum =
    let more : sum_by f (take (i + 1) tables) ≡ sum_by f (take i tables) + f table = sum_by_more f tables i table inside
    ∙ ap (λ (t : TableValue). sum_by f (take i tables) + f t) (sym is) in
    rw more (omega (arith, sum))

-- what is read of an item is read of its place
pub read_at : {X Y : Type 0} → (f : X → Y) (xs : List X) (ys : List Y) (i : ℕ) (x : X) (y : Y) → map f xs ≡ ys → i < length xs
    → x ≡ slice_index_or xs i x → y ≡ f x
    → y ≡ slice_index_or ys i y
read_at f xs ys i x y same inside is has = subst (λ (l : List _). y ≡ slice_index_or l i y) same (within f xs i x y inside is has)
  where
    within : {X Y : Type 0} → (f : X → Y) (xs : List X) (i : ℕ) (x : X) (y : Y) → i < length xs → x ≡ slice_index_or xs i x → y ≡ f x
        → y ≡ slice_index_or (map f xs) i y
    within f [] i x y inside is has = absurd (omega (arith, inside))
    within f (z ∷ zs) zero x y inside is has = has ∙ ap f is
    within f (z ∷ zs) (suc i) x y inside is has = within f zs i x y (omega (arith, inside)) is has

pub read_many : {X Y : Type 0} → (f : X → Y) (xs : List X) (ys : List Y) → map f xs ≡ ys → length xs ≡ length ys
read_many f [] [] same = refl
read_many f [] (y ∷ ys) same = absurd (cc same)
read_many f (x ∷ xs) [] same = absurd (cc same)
read_many f (x ∷ xs) (y ∷ ys) same = let rest : map f xs ≡ ys = cc same in omega (arith, read_many f xs ys rest)
