-- Which tables lie in their ranges, and which are made alike.
use Rattle.std.proofs.Common.{◌≡◌, ℕ, ◌+◌, ◌<◌, ◌≤◌, ◌⊎◌, ◌↔◌, List, [], ◌∷◌, ◌++◌, length, Option, Some, None, true, false, slice_get, slice_index_or, take, All, ⊎_elim, refl, sym, ap, subst, ◌∙◌, arith}
use Rattle.std.specs.Prelude.{Bool, is_some, not, unwrap_or, IfNone, IfSome, IsTrue}
use Rattle.std.proofs.lemmas.Bool.{cases_lt}
use Rattle.std.proofs.lemmas.List.Elements.{All-head}
use Rattle.std.proofs.lemmas.List.{take_more}
use Rattle.std.proofs.lemmas.Option.{get_or_from_slice_get, slice_get-get_or, slice_get_read, slice_get_within}
use Rattle.bw_keys.specs.declared.config.Config.{Config}
use Rattle.bw_keys.specs.declared.range.Range.{Range}
use Rattle.bw_keys.specs.Ranges.{end_of, key_count}
use Rattle.bw_law.specs.Tables.{TableValue, Lawful, Booked}
use Rattle.bw_table.specs.Orders.{HasNoKeyWithin}
use Rattle.bw_tree.proofs.Trees.{is_tree, key_within}
use Rattle.bw_forest.specs.Bounds.{AreBounds, ranges_of}
use Rattle.bw_forest.specs.Fitting.{IsAlike, LiesInItsRange}
use Rattle.bw_forest.specs.Forests.{AreAlike, config_of, tables_of}
use Rattle.bw_forest.specs.Plots.{PlotValue}
use Rattle.bw_tree.specs.Ranges.{LiesIn}

pub some_bounds : (bounds : List ℕ) → AreBounds bounds → 0 < length bounds
some_bounds [] are = let first = are.from_zero in absurd (cc (first))
some_bounds (low ∷ lows) are = omega arith

-- the configuration that made all tables is that of the first
pub first_config : (made : Config) (tables : List TableValue) → 0 < length tables → All (λ (t : TableValue). t.config ≡ made) tables
    → config_of tables ≡ made
first_config made [] some all = absurd (omega (arith, some))
first_config made (t ∷ ts) some all = All-head (λ (t : TableValue). t.config ≡ made) t ts all

pub alike : (made : Config) (tables : List TableValue) → All (λ (t : TableValue). t.config ≡ made) tables → AreAlike tables
alike made [] all = λ k d less. absurd (omega (arith, less))
alike made (t ∷ ts) all =
    subst (λ (c : Config). All (λ (x : TableValue). x.config ≡ c) (t ∷ ts))
    (sym (All-head (λ (x : TableValue). x.config ≡ made) t ts all)) all

pub config_at_first : (tables : List TableValue) (table : TableValue) → Some table ≡ slice_get tables 0 → config_of tables ≡ table.config
config_at_first [] table is = absurd (cc (is))
config_at_first (t ∷ ts) table is = ap (λ (o : Option TableValue). (unwrap_or o t).config) (sym is)

pub first_tree : (trees : List PlotValue) (tree : PlotValue) → 0 < length trees → tree ≡ slice_index_or trees 0 tree
    → config_of (tables_of trees) ≡ tree.table.config
first_tree [] tree some is = absurd (omega (arith, some))
first_tree (t ∷ ts) tree some is = ap (λ (p : PlotValue). p.table.config) (sym is)

-- what holds of all numbers below one, and of it, holds of all below the next
pub one_more : (fact : ℕ → Type 0) (i : ℕ) → ((k : ℕ) → k < i → fact k) → fact i → (k : ℕ) → k < i + 1 → fact k
one_more fact i before here k less = ⊎_elim
    (λ (below : k < i). before k below)
    (λ (past : i ≤ k). let same : i ≡ k = omega (arith, past, less) in subst fact same here)
    (cases_lt k i)

-- what is at a place of a list is one
pub same_at : {X : Type 0} → (xs : List X) (i : ℕ) (x y : X) → i < length xs → x ≡ slice_index_or xs i x → slice_get xs i ≡ Some y → x ≡ y
same_at {X} xs i x y less is got = ap (λ (o : Option X). unwrap_or o x) (sym (slice_get_read xs (length xs) i x refl less is) ∙ got)

pub is_alike : (tables : List TableValue) (i : ℕ) (table : TableValue) → i < length tables → table ≡ slice_index_or tables i table
    → table.config ≡ config_of tables → IsAlike tables i
is_alike tables i table less is same other got =
    subst (λ (t : TableValue). t.config ≡ config_of tables) (same_at tables i table other less is got) same

pub all_alike : (tables : List TableValue) (i : ℕ) → length tables ≤ i → ((k : ℕ) → k < i → IsAlike tables k) → AreAlike tables
all_alike tables i past each = λ k d less.
    each k (omega (arith, past, less)) (slice_index_or tables k d) (slice_get-get_or tables k d less)

-- a table that has no pair below a range's low, and none from its end on
pub lies_within : (table : TableValue) (range : Range) → Lawful table → Booked table
    → HasNoKeyWithin table 0 range.low → HasNoKeyWithin table (end_of range.high) key_count → LiesIn range table.slots
lies_within table range law booked below past key value maps = (
  ⊎_elim (λ (less : key < range.low). absurd (below key value (omega arith) less maps)) (λ (from : range.low ≤ key). from)
      (cases_lt key range.low),
  ⊎_elim (λ (less : key < end_of range.high). less)
      (λ (from : end_of range.high ≤ key). absurd (past key value from (key_within table (is_tree table law booked) key value maps) maps))
      (cases_lt key (end_of range.high)),
)

pub none_below : (table : TableValue) (range : Range) → LiesIn range table.slots → HasNoKeyWithin table 0 range.low
none_below table range lies key value from less maps = let holds = (lies key value maps).0 in omega (arith, holds, less)

pub none_past : (table : TableValue) (range : Range) → LiesIn range table.slots → HasNoKeyWithin table (end_of range.high) key_count
none_past table range lies key value from less maps = let holds = (lies key value maps).1 in omega (arith, holds, from)

-- what stands behind a list's front
pub got_behind : {X : Type 0} → (xs ys : List X) (x : X) → slice_get (xs ++ x ∷ ys) (length xs) ≡ Some x
got_behind [] ys x = refl
got_behind (z ∷ xs) ys x = got_behind xs ys x

-- the range with the number of a table more
pub ranges_more : (ranges : List Range) (n : ℕ) (range : Range) → slice_get ranges n ≡ Some range
    → take (n + 1) ranges ≡ take n ranges ++ range ∷ []
ranges_more ranges n range is =
    take_more ranges n range (slice_get_within ranges n range is)
    ∙ ap (λ (r : Range). take n ranges ++ r ∷ []) (get_or_from_slice_get ranges n range range is)

pub in_its_range : (bounds : List ℕ) (tables : List TableValue) (i : ℕ) (range : Range) (table : TableValue)
    → slice_get (ranges_of bounds) i ≡ Some range → i < length tables → table ≡ slice_index_or tables i table → LiesIn range table.slots
    → LiesInItsRange bounds tables i
in_its_range bounds tables i range table got less is lies other_range other_table at_range at_table =
    let same_range : range ≡ other_range = ap (λ (o : Option Range). unwrap_or o range) (sym got ∙ at_range) in
    let same_table : table ≡ other_table = same_at tables i table other_table less is at_table in
    subst (λ (r : Range). LiesIn r other_table.slots) same_range (subst (λ (t : TableValue). LiesIn range t.slots) same_table lies)

pub all_in_range : (bounds : List ℕ) (tables : List TableValue) (i : ℕ) → length tables ≤ i
    → ((k : ℕ) → k < i → LiesInItsRange bounds tables k) → (tree : ℕ) → LiesInItsRange bounds tables tree
all_in_range bounds tables i past each tree range table at_range at_table =
    let less = slice_get_within tables tree table at_table in each tree (omega (arith, less, past)) range table at_range at_table

-- an answer that there is none, where either answer says what is there
pub by_answer : {X : Type 0} → (Found : X → Type 0) (Nothing : Type 0) (answer : Option X) (b : Bool) → is_some answer ≡ not b
    → IfSome answer Found → IfNone answer Nothing → ((x : X) → Found x → Nothing → ⊥) → IsTrue b ↔ Nothing
by_answer Found Nothing (Some x) true is found none apart = absurd (cc (is))
by_answer Found Nothing (Some x) false is found none apart = (λ yes. absurd (cc (yes)), λ nothing. absurd (apart x found nothing))
by_answer Found Nothing None true is found none apart = (λ yes. none, λ nothing. refl)
by_answer Found Nothing None false is found none apart = absurd (cc (is))
