-- The trees of a closed forest, put under their locks again, and the opening shares that count their books.
use Rattle.std.proofs.Common.{◌≡◌, ℕ, ◌+◌, ◌<◌, ◌^◌, List, [], ◌∷◌, ◌++◌, All, None, Some, slice_get, take, map, ap, sym, subst, ◌∙◌, append_assoc}
use Rattle.std.proofs.lemmas.List.{map-append, take_more}
use Rattle.std.proofs.lemmas.Option.{get_or_from_slice_get, slice_get_within}
use Rattle.std.proofs.lemmas.List.Elements.{All-head, All-tail}
use Rattle.bw_keys.specs.declared.config.Config.{Config}
use Rattle.bw_keys.specs.declared.range.Range.{Range}
use Rattle.bw_keys.specs.Limits.{first_bad_field}
use Rattle.bw_law.specs.Tables.{TableValue, new_table}
use Rattle.bw_law.proofs.NewTable.{new_law}
use Rattle.bw_tree.specs.Ranges.{LiesIn}

-- a new table has no pairs, so they lie in each range
pub new_within : (made : Config) (range : Range) (table : TableValue) → table ≡ new_table made → first_bad_field made ≡ None
    → made.first_version < 2 ^ 64 → LiesIn range table.slots
new_within made range table is fine fits =
    let empty = new_law made fine fits in
    rw is (λ key value maps. absurd (empty.no_pairs key value maps))

-- one item of the rest stands among those before it
pub one_left : {X : Type 0} → (done more all : List X) (x y : X) (rest : List X) → more ≡ done ++ x ∷ [] → x ≡ y → done ++ y ∷ rest ≡ all
    → more ++ rest ≡ all
one_left done more all x y rest grown same so_far =
    ap (λ (list : List _). list ++ rest) grown ∙ (append_assoc done (x ∷ []) rest ∙ (ap (λ it. done ++ it ∷ rest) same ∙ so_far))

-- one tree more has the next range
pub range_taken : {T : Type 0} → (range : T → Range) (trees more : List T) (tree : T) (ranges : List Range) (i : ℕ)
    → more ≡ trees ++ tree ∷ [] → slice_get ranges i ≡ Some (range tree) → map range trees ≡ take i ranges
    → map range more ≡ take (i + 1) ranges
range_taken range trees more tree ranges i grown next so_far =
    let here = get_or_from_slice_get ranges i (range tree) (range tree) next in
    rw grown (map-append range trees (tree ∷ []) ∙ ((λ j. so_far j ++ sym here j ∷ [])
    ∙ sym (take_more ranges i (range tree) (slice_get_within ranges i (range tree) next))))

last_of : {X : Type 0} → (P : X → Type 0) (xs : List X) (x : X) → All P (xs ++ x ∷ []) → P x
last_of P [] x all = All-head P x [] all
last_of P (y ∷ ys) x all = last_of P ys x (All-tail P y (ys ++ x ∷ []) all)

-- what is so of all is so of the last
pub last_too : {X : Type 0} → (P : X → Type 0) (all rest : List X) (x : X) → all ≡ rest ++ x ∷ [] → All P all → P x
last_too P all rest x split each = last_of P rest x (subst (All P) split each)
