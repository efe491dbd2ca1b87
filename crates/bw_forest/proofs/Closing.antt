-- The trees of a forest, taken out of their locks one after the other, and counted together.
use Rattle.std.proofs.Common.{◌≡◌, ℕ, zero, suc, ◌+◌, ◌<◌, List, [], ◌∷◌, ◌++◌, length, map, Option, Some, slice_get, slice_index_or, take, All, refl, sym, ap, subst, ◌∙◌, arith}
use Rattle.std.specs.Prelude.{sum_by, unwrap_or, Result, Ok, Err, IfOk, IfErr}
use Rattle.std.proofs.lemmas.List.{map-append}
use Rattle.std.proofs.lemmas.List.Sums.{sum_by-cons, sum_by_more, sum_by_push}
use Rattle.std.proofs.lemmas.List.Elements.{All-append, All-head, All-tail, All-replicate}
use Rattle.bw_keys.specs.declared.config.Config.{Config}
use Rattle.bw_law.specs.Tables.{TableValue, pair_count}
use Rattle.bw_tree.specs.Shares.{ShareValue, shared_in, sum_of, together}
use Rattle.bw_tree.specs.Trees.{IsTree}
use Rattle.bw_forest.specs.Bounds.{ranges_of}
use Rattle.bw_forest.specs.Forests.{ComesApart, HasPairsWithin, books_of, pairs_of, ranges_in, tables_of}
use Rattle.bw_forest.specs.Plots.{PlotValue}

pub all_more : {X : Type 0} → (P : X → Type 0) (xs more : List X) (x : X) → more ≡ xs ++ x ∷ [] → All P xs → P x → All P more
all_more P xs more x grown all is = subst (All P) (sym grown) (All-append P xs (x ∷ []) all (All-replicate P 1 x is))

pub tables_more : (trees more : List PlotValue) (tree : PlotValue) → more ≡ trees ++ tree ∷ []
    → tables_of more ≡ tables_of trees ++ tree.table ∷ []
tables_more trees more tree grown = rw (grown, map-append (λ (tree : PlotValue). tree.table) trees (tree ∷ [])) refl

-- what the books have of a table more, which a stock counted
pub books_more : (tables more : List TableValue) (table : TableValue) (stock : ShareValue) → more ≡ tables ++ table ∷ []
    → shared_in table.book ≡ stock → sum_of (books_of more) ≡ together (sum_of (books_of tables)) stock
books_more tables more table stock grown is =
    let books = map-append (λ (t : TableValue). shared_in t.book) tables (table ∷ []) in
    let inserted = sum_by_push (λ (s : ShareValue). s.inserted) (books_of tables) (shared_in table.book) in
    let removed = sum_by_push (λ (s : ShareValue). s.removed) (books_of tables) (shared_in table.book) in
    rw (grown, books, inserted, removed, ← is) refl

-- the pairs of all trees, by their books
pub sum_pairs : (tables : List TableValue) → All IsTree tables
    → pairs_of tables + sum_by (λ (s : ShareValue). s.removed) (books_of tables) ≡ sum_by (λ (s : ShareValue). s.inserted) (books_of tables)
sum_pairs [] all = refl
sum_pairs (table ∷ tables) all =
    let here = (All-head IsTree table tables all).booked in
    let rest = sum_pairs tables (All-tail IsTree table tables all) in
    let book = shared_in table.book in
    let a = sum_by-cons (λ (t : TableValue). pair_count t.slots) table tables in
    let b = sum_by-cons (λ (s : ShareValue). s.removed) book (books_of tables) in
    let c = sum_by-cons (λ (s : ShareValue). s.inserted) book (books_of tables) in
    rw (a, b, c) (omega (arith, here, rest))

-- the pairs of all trees, where their books are what the shares have
pub all_pairs : (tables : List TableValue) (shares : List ShareValue) → All IsTree tables → sum_of (books_of tables) ≡ sum_of shares
    → pairs_of tables + (sum_of shares).removed ≡ (sum_of shares).inserted
all_pairs tables shares all sum =
    subst (λ (s : ShareValue). pairs_of tables + s.removed ≡ s.inserted) sum (sum_pairs tables all)

-- lists that have the same at each place
pub same_by_get : {X : Type 0} → (xs ys : List X) → length xs ≡ length ys → ((k : ℕ) → k < length xs → slice_get xs k ≡ slice_get ys k)
    → xs ≡ ys
same_by_get [] [] count same = refl
same_by_get [] (y ∷ ys) count same = absurd (omega (arith, count))
same_by_get (x ∷ xs) [] count same = absurd (omega (arith, count))
same_by_get {X} (x ∷ xs) (y ∷ ys) count same =
    let head : x ≡ y = ap (λ (o : Option X). unwrap_or o x) (same 0 (omega arith)) in
    let tail = same_by_get xs ys (omega (arith, count)) (λ k less. same (suc k) (omega (arith, less))) in
    rw (head, tail) refl

pub got_map : {X Y : Type 0} → (f : X → Y) (xs : List X) (i : ℕ) (x : X) → i < length xs → x ≡ slice_index_or xs i x
    → slice_get (map f xs) i ≡ Some (f x)
got_map f [] i x less is = absurd (omega (arith, less))
got_map f (y ∷ ys) zero x less is = ap (λ z. Some (f z)) (sym is)
got_map f (y ∷ ys) (suc n) x less is = got_map f ys n x (omega (arith, less)) is

pub length_ranges : (bounds : List ℕ) → length (ranges_of bounds) ≡ length bounds
length_ranges [] = refl
length_ranges (low ∷ lows) = let it = length_ranges lows in omega (arith, it)

pub none_of : {X : Type 0} → (xs : List X) → length xs ≡ 0 → xs ≡ []
none_of [] none = refl
none_of (x ∷ xs) none = absurd (omega (arith, none))

-- the pairs of one table more
pub pairs_more : (tables : List TableValue) (i : ℕ) (table : TableValue) → i < length tables → table ≡ slice_index_or tables i table
    → pairs_of (take (i + 1) tables) ≡ pairs_of (take i tables) + pair_count table.slots
pairs_more tables i table less is =
    let more = sum_by_more (λ (t : TableValue). pair_count t.slots) tables i table less in
    more ∙ ap (λ (t : TableValue). pairs_of (take i tables) + pair_count t.slots) (sym is)

pub table_at : (trees : List PlotValue) (i : ℕ) (tree : PlotValue) (table : TableValue) → i < length trees
    → tree ≡ slice_index_or trees i tree → table ≡ tree.table
    → table ≡ slice_index_or (tables_of trees) i table
table_at [] i tree table less is same = absurd (omega (arith, less))
table_at (t ∷ ts) zero tree table less is same = same ∙ ap (λ (p : PlotValue). p.table) is
table_at (t ∷ ts) (suc n) tree table less is same = table_at ts n tree table (omega (arith, less)) is same

pub if_ok : {T E : Type 0} (P Q R : T → Type 0) (result : Result T E) → ((t : T) → P t → Q t → R t) → IfOk result P → IfOk result Q
    → IfOk result R
if_ok P Q R (Ok t) then one other = then t one other
if_ok P Q R (Err e) then one other = tt

pub if_err : {T E : Type 0} (P Q : E → Type 0) (result : Result T E) → ((e : E) → P e → Q e) → IfErr result P → IfErr result Q
if_err P Q (Ok t) then fact = tt
if_err P Q (Err e) then fact = then e fact

-- the trees that weren't closed come back
module _ (bounds : List ℕ) (made : Config) (trees : List PlotValue) (count : length trees ≡ length bounds)
    (each : All IsTree (tables_of trees)) (within : All HasPairsWithin trees)
    (config : All (λ (t : TableValue). t.config ≡ made) (tables_of trees)) where
  pub comes_apart : (given : List ℕ) (back : List PlotValue) → given ≡ bounds → back ≡ trees → ComesApart bounds made given back
  comes_apart given back same is = record {
    same = same;
    count = ap length is ∙ count;
    each = subst (λ (ts : List PlotValue). All IsTree (tables_of ts)) (sym is) each;
    within = subst (All HasPairsWithin) (sym is) within;
    config = subst (λ (ts : List PlotValue). All (λ (t : TableValue). t.config ≡ made) (tables_of ts)) (sym is) config;
  }

pub length_map : {X Y : Type 0} → (f : X → Y) (xs : List X) → length (map f xs) ≡ length xs
length_map f [] = refl
length_map f (x ∷ xs) = let it = length_map f xs in omega (arith, it)

pub as_many : (bounds : List ℕ) (trees : List PlotValue) → ranges_in trees ≡ ranges_of bounds → length trees ≡ length bounds
as_many bounds trees same =
    let trees_have = length_map (λ (tree : PlotValue). tree.range) trees in
    let bounds_have = length_ranges bounds in
    omega (arith, ap length same, trees_have, bounds_have)
