-- Items by workers, tree by tree, and the same by trees.
use Rattle.std.proofs.Common.{◌≡◌, ℕ, zero, suc, ◌+◌, ◌<◌, ◌≤◌, List, [], ◌∷◌, ◌++◌, length, get_or, map, take, drop, All, Result, Ok, refl, ap, sym, subst, ◌∙◌, arith, append_assoc, length-take-le}
use Rattle.std.specs.Prelude.{replicate, slice_set, slice_index_or, sum_by}
use Rattle.std.proofs.lemmas.List.{length-replicate, length-map, take_more, drop_more, get_or-map, map-append}
use Rattle.std.proofs.lemmas.List.Sums.{sum_by-append, sum_by-cons}
use Rattle.std.proofs.lemmas.List.Elements.{All-head, All-tail, All-nil, All-cons}
use Rattle.bw_run.specs.ForestRuns.{in_a_row, with_first, with_last, by_trees}

-- each row has so many items
abbrev pub Have : {T : Type 0} → ℕ → List (List T) → Type 0
Have n rows = All (λ row. length row ≡ n) rows

have_head : {T : Type 0} → (n : ℕ) (row : List T) (rows : List (List T)) → Have n (row ∷ rows) → length row ≡ n
have_head n row rows have = All-head (λ row. length row ≡ n) row rows have

have_tail : {T : Type 0} → (n : ℕ) (row : List T) (rows : List (List T)) → Have n (row ∷ rows) → Have n rows
have_tail n row rows have = All-tail (λ row. length row ≡ n) row rows have

length_first : {T : Type 0} → (row : List T) (lists : List (List T)) → length (with_first row lists) ≡ length lists
length_first [] lists = refl
length_first (x ∷ xs) [] = refl
length_first (x ∷ xs) (list ∷ lists) = omega (arith, length_first xs lists)

pub length_last : {T : Type 0} → (row : List T) (lists : List (List T)) → length (with_last row lists) ≡ length lists
length_last [] lists = refl
length_last (x ∷ xs) [] = refl
length_last (x ∷ xs) (list ∷ lists) = omega (arith, length_last xs lists)

-- there is a column for each item of a row
pub length_by_trees : {T : Type 0} → (n : ℕ) (rows : List (List T)) → length (by_trees n rows) ≡ n
length_by_trees n [] = length-replicate n []
length_by_trees n (row ∷ rows) = length_first row (by_trees n rows) ∙ length_by_trees n rows

each_first : {T : Type 0} → (n : ℕ) (row : List T) (lists : List (List T)) → length row ≡ length lists → Have n lists
    → Have (n + 1) (with_first row lists)
each_first n [] [] same have = All-nil (λ list. length list ≡ n + 1)
each_first n [] (list ∷ lists) same have = absurd (omega (arith, same))
each_first n (x ∷ xs) [] same have = absurd (omega (arith, same))
each_first n (x ∷ xs) (list ∷ lists) same have =
    All-cons (λ list. length list ≡ n + 1) (x ∷ list) (with_first xs lists) (omega (arith, have_head n list lists have))
    (each_first n xs lists (omega (arith, same)) (have_tail n list lists have))

none_in : {T : Type 0} → (n : ℕ) → Have 0 (replicate {A = List T} n [])
none_in zero = All-nil (λ list. length list ≡ 0)
none_in (suc n) = All-cons (λ list. length list ≡ 0) [] (replicate n []) refl (none_in n)

-- and each column has an item of each row
pub each_by_trees : {T : Type 0} → (n : ℕ) (rows : List (List T)) → Have n rows → Have (length rows) (by_trees n rows)
each_by_trees n [] have = none_in n
each_by_trees n (row ∷ rows) have =
    let more = each_first (length rows) row (by_trees n rows) (have_head n row rows have ∙ sym (length_by_trees n rows))
    (each_by_trees n rows (have_tail n row rows have)) in
    let same : length rows + 1 ≡ length (row ∷ rows) = omega arith in
    subst (λ (k : ℕ). Have k (by_trees n (row ∷ rows))) same more

first_last : {T : Type 0} → (one other : List T) (lists : List (List T))
    → with_first one (with_last other lists) ≡ with_last other (with_first one lists)
first_last [] other lists = refl
first_last (x ∷ xs) [] lists = refl
first_last (x ∷ xs) (y ∷ ys) [] = refl
first_last (x ∷ xs) (y ∷ ys) (list ∷ lists) = ap (λ (rest : List (List _)). (x ∷ (list ++ y ∷ [])) ∷ rest) (first_last xs ys lists)

one_row : {T : Type 0} → (n : ℕ) (row : List T) → with_first row (replicate n []) ≡ with_last row (replicate n [])
one_row n [] = refl
one_row zero (x ∷ xs) = refl
one_row (suc n) (x ∷ xs) = ap (λ (rest : List (List _)). (x ∷ []) ∷ rest) (one_row n xs)

-- one row more is one item more at the end of each column
pub by_trees_more : {T : Type 0} → (n : ℕ) (rows : List (List T)) (row : List T)
    → by_trees n (rows ++ row ∷ []) ≡ with_last row (by_trees n rows)
by_trees_more n [] row = one_row n row
by_trees_more n (first ∷ rows) row = ap (with_first first) (by_trees_more n rows row) ∙ first_last first row (by_trees n rows)

-- one item more of a row, at the column of its place
pub last_more : {T : Type 0} → (row : List T) (x : T) (lists : List (List T)) → length row < length lists
    → with_last (row ++ x ∷ []) lists ≡ slice_set (with_last row lists) (length row)
    (slice_index_or (with_last row lists) (length row) [] ++ x ∷ [])
last_more [] x [] inside = absurd (omega (arith, inside))
last_more [] x (list ∷ lists) inside = refl
last_more (y ∷ ys) x [] inside = absurd (omega (arith, inside))
last_more (y ∷ ys) x (list ∷ lists) inside = ap (λ (rest : List (List _)). (list ++ y ∷ []) ∷ rest)
    (last_more ys x lists (omega (arith, inside)))

sum_first : {T : Type 0} → (f : T → ℕ) (row : List T) (lists : List (List T)) → length row ≡ length lists
    → sum_by f (in_a_row (with_first row lists)) ≡ sum_by f row + sum_by f (in_a_row lists)
sum_first f [] lists same = omega arith
sum_first f (x ∷ xs) [] same = absurd (omega (arith, same))
sum_first f (x ∷ xs) (list ∷ lists) same =
    let rest = sum_first f xs lists (omega (arith, same)) in
    let one = sum_by-append f (x ∷ list) (in_a_row (with_first xs lists)) in
    let other = sum_by-append f list (in_a_row lists) in
    omega (arith, rest, one, other, sum_by-cons f x list, sum_by-cons f x xs)

sum_none : {T : Type 0} → (f : T → ℕ) (n : ℕ) → sum_by f (in_a_row (replicate {A = List T} n [])) ≡ 0
sum_none f zero = refl
sum_none f (suc n) = sum_none f n

-- the sum over all columns is that over all rows
pub sum_by_trees : {T : Type 0} → (f : T → ℕ) (n : ℕ) (rows : List (List T)) → Have n rows
    → sum_by f (in_a_row (by_trees n rows)) ≡ sum_by f (in_a_row rows)
sum_by_trees f n [] have = sum_none f n
sum_by_trees f n (row ∷ rows) have =
    let rest = sum_by_trees f n rows (have_tail n row rows have) in
    let one = sum_first f row (by_trees n rows) (have_head n row rows have ∙ sym (length_by_trees n rows)) in
    omega (arith, rest, one, sum_by-append f row (in_a_row rows))

heads_first : {T : Type 0} → (d : T) (row : List T) (lists : List (List T)) → length row ≡ length lists
    → map (λ list. get_or list 0 d) (with_first row lists) ≡ row
heads_first d [] [] same = refl
heads_first d [] (list ∷ lists) same = absurd (omega (arith, same))
heads_first d (x ∷ xs) [] same = absurd (omega (arith, same))
heads_first d (x ∷ xs) (list ∷ lists) same = ap (λ (rest : List _). x ∷ rest) (heads_first d xs lists (omega (arith, same)))

behind_first : {T : Type 0} → (d : T) (place : ℕ) (row : List T) (lists : List (List T)) → length row ≡ length lists
    → map (λ list. get_or list (suc place) d) (with_first row lists) ≡ map (λ list. get_or list place d) lists
behind_first d place [] [] same = refl
behind_first d place [] (list ∷ lists) same = absurd (omega (arith, same))
behind_first d place (x ∷ xs) [] same = absurd (omega (arith, same))
behind_first d place (x ∷ xs) (list ∷ lists) same = ap (λ (rest : List _). get_or list place d ∷ rest)
    (behind_first d place xs lists (omega (arith, same)))

-- the items of all columns at a row's place are the row
pub row_of : {T : Type 0} → (d : T) (n : ℕ) (rows : List (List T)) (place : ℕ) → Have n rows → place < length rows
    → map (λ list. get_or list place d) (by_trees n rows) ≡ get_or rows place []
row_of d n [] place have inside = absurd (omega (arith, inside))
row_of d n (row ∷ rows) zero have inside = heads_first d row (by_trees n rows)
    (have_head n row rows have ∙ sym (length_by_trees n rows))
row_of d n (row ∷ rows) (suc place) have inside =
    behind_first d place row (by_trees n rows) (have_head n row rows have ∙ sym (length_by_trees n rows))
    ∙ row_of d n rows place (have_tail n row rows have) (omega (arith, inside))

-- one item more at the end of one list
pub pushed_at : {X T : Type 0} → (items : X → List T) (lists : List X) (at : ℕ) (d pushed : X) (item : T) → at < length lists
    → items pushed ≡ items (get_or lists at d) ++ item ∷ []
    → map items (slice_set lists at pushed) ≡ slice_set (map items lists) at (slice_index_or (map items lists) at [] ++ item ∷ [])
pushed_at items [] at d pushed item inside is = absurd (omega (arith, inside))
pushed_at items (x ∷ xs) zero d pushed item inside is = ap (λ (list : List _). list ∷ map items xs) is
pushed_at items (x ∷ xs) (suc at) d pushed item inside is = ap (λ (rest : List (List _)). items x ∷ rest)
    (pushed_at items xs at d pushed item (omega (arith, inside)) is)

last_at : {T : Type 0} → (row : List T) (x : T) (lists now : List (List T)) (place : ℕ) → now ≡ with_last row lists
    → length row ≡ place → place < length lists
    → with_last (row ++ x ∷ []) lists ≡ slice_set now place (slice_index_or now place [] ++ x ∷ [])
last_at row x lists now place is same inside =
    subst (λ (k : ℕ). with_last (row ++ x ∷ []) lists ≡ slice_set now k (slice_index_or now k [] ++ x ∷ [])) same
    (subst (λ (n : List (List _)). with_last (row ++ x ∷ []) lists ≡ slice_set n (length row)
    (slice_index_or n (length row) [] ++ x ∷ [])) (sym is)
    (last_more row x lists (omega (arith, inside, same))))

-- the next item of a row was put to the list of its place, and these are left
pub record IsPut {X T : Type 0} (items : X → T) (all : List X) (place : ℕ) (rest : List X) (lists next : List (List T)) : Type 0 where
  pub left : rest ≡ drop (place + 1) all
  pub put : next ≡ with_last (take (place + 1) (map items all)) lists

pub put_next : {X T : Type 0} → (items : X → T) (all : List X) (place : ℕ) (x : X) (rest : List X) (lists now next : List (List T))
    → x ∷ rest ≡ drop place all → place < length all → place < length lists → now ≡ with_last (take place (map items all)) lists
    → next ≡ slice_set now place (slice_index_or now place [] ++ items x ∷ []) → IsPut items all place rest lists next
put_next items all place x rest lists now next left inside within is put =
    let more : x ∷ rest ≡ get_or all place x ∷ drop (place + 1) all = left ∙ drop_more all place x inside in
    let here : x ≡ get_or all place x = cc more in
    let many : length (map items all) ≡ length all = length-map all items in
    let in_row : place < length (map items all) = omega (arith, many, inside) in
    let read : get_or (map items all) place (items x) ≡ items x = get_or-map items all place x (items x) inside ∙ ap items (sym here) in
    let taken : take (place + 1) (map items all) ≡ take place (map items all) ++ items x ∷ [] =
    take_more (map items all) place (items x) in_row ∙ ap (λ it. take place (map items all) ++ it ∷ []) read in
    let count : length (take place (map items all)) ≡ place = length-take-le place (map items all) (omega (arith, in_row)) in
    record {
      left = cc more;
      put = put ∙ (sym (last_at (take place (map items all)) (items x) lists now place is count within)
          ∙ ap (λ row. with_last row lists) (sym taken));
    }

-- what one worker more brought back, where it brought something
pub ok_more : {X A E : Type 0} → (output : X → Result A E) (answers : List A) (answer : A) (x : X) (rest : List X)
    (all : List (Result A E))
    → all ≡ map Ok answers ++ map output (x ∷ rest) → output x ≡ Ok answer → all ≡ map Ok (answers ++ answer ∷ []) ++ map output rest
ok_more output answers answer x rest all so_far is =
    so_far ∙ (ap (λ (it : Result _ _). map Ok answers ++ it ∷ map output rest) is
    ∙ (sym (append_assoc (map Ok answers) (Ok answer ∷ []) (map output rest))
    ∙ ap (λ (l : List (Result _ _)). l ++ map output rest) (sym (map-append Ok answers (answer ∷ [])))))
