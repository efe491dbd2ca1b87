-- An item that is put in among others in place.
use Rattle.std.proofs.Common.{◌≡◌, ℕ, zero, suc, ◌+◌, ◌<◌, ◌≤◌, List, [], ◌∷◌, ◌++◌, length, take, drop, get_or, drop-cons, append-nil, append_assoc, refl, ap, sym, ◌∙◌, arith}
use Rattle.std.specs.Prelude.{◌-◌}
use Rattle.std.specs.List.{insert, refill}
use Rattle.std.proofs.Math.ListN.{set}
use Rattle.std.proofs.Math.Seq.{take-append_seam}
use Rattle.std.proofs.lemmas.Grind.{drop-set_at}
use Rattle.std.proofs.lemmas.List.{drop-drop, drop-set-lt, get_or-drop, get_or-take, take-append-drop, take-set-le, take_more, take_more_set, set_split, drop_all, take_all, length-append, length-take-le, length-drop}

module _ {Y : Type 0} where
  take-of_take : (i n : ℕ) (ys : List Y) → i ≤ n → take i (take n ys) ≡ take i ys
  take-of_take zero n ys le = refl
  take-of_take (suc i) zero ys le = absurd (omega arith)
  take-of_take (suc i) (suc n) [] le = refl
  take-of_take (suc i) (suc n) (y ∷ ys) le = ap (λ l. y ∷ l) (take-of_take i n ys (omega arith))

  -- the items from the place on stand one further up, and the new one is written at the place
  pub put_in-is : (old items : List Y) (place last i : ℕ) (y : Y) → i ≡ place → i ≤ last → last < length old → length items ≡ length old → take i items ≡ take i old → drop (i + 1) items ≡ drop i (take last old) ++ drop (last + 1) old
      → set items place y ≡ insert (take last old) place y ++ drop (last + 1) old
  put_in-is old items place last i y same upto inside as_many before behind =
      let there : place < length items = omega (arith, same, upto, inside, as_many) in
      let next : suc place ≡ place + 1 = omega arith in
      let le : place ≤ last = omega (arith, same, upto) in
      set_split items place y there
      ∙ ap (λ l. l ++ y ∷ drop (suc place) items) (rw same at before ∙ sym (take-of_take place last old le))
      ∙ ap (λ l. take place (take last old) ++ y ∷ l) (ap (λ k. drop k items) next ∙ rw same at behind)
      ∙ sym (append_assoc (take place (take last old)) (y ∷ drop place (take last old)) (drop (last + 1) old))

  length-insert : (es : List Y) (place : ℕ) (y : Y) → place ≤ length es → length (insert es place y) ≡ length es + 1
  length-insert es place y le =
      let parts : length (insert es place y) ≡ length (take place es) + length (y ∷ drop place es) = length-append (take place es) (y ∷ drop place es) in
      omega (arith, parts, length-take-le place es le, length-drop place es)

  module _ (old items : List Y) (place count : ℕ) (y : Y) (le : place ≤ length (take count old)) (inside : count < length old) (put : items ≡ insert (take count old) place y ++ drop (count + 1) old) where
    one_more : length (insert (take count old) place y) ≡ count + 1
    one_more = omega (arith, length-insert (take count old) place y le, length-take-le count old (omega (arith, inside)))

    pub put-front : take (count + 1) items ≡ insert (take count old) place y
    put-front = ap (take (count + 1)) put ∙ ap (λ k. take k (insert (take count old) place y ++ drop (count + 1) old)) (sym one_more) ∙ take-append_seam (insert (take count old) place y) (drop (count + 1) old)

  -- a list of which the front was written over, cut there
  pub refill-front : (end n : ℕ) (xs ws : List Y) → length ws ≡ length xs → length xs ≡ n → end ≤ n → take end (refill n xs ws) ≡ take end ws
  refill-front end n xs ws as_many is le =
      let none : drop (length ws) xs ≡ [] = drop_all (length ws) xs (omega (arith, as_many)) in
      take-of_take end n (ws ++ drop (length ws) xs) le ∙ ap (λ l. take end (ws ++ l)) none ∙ ap (take end) (append-nil ws)

  -- a list that was written over
  pub refill-whole : (n : ℕ) (xs ws : List Y) → length ws ≡ length xs → length xs ≡ n → refill n xs ws ≡ ws
  refill-whole n xs ws as_many is =
      let none : drop (length ws) xs ≡ [] = drop_all (length ws) xs (omega (arith, as_many)) in
      ap (λ l. take n (ws ++ l)) none ∙ ap (take n) (append-nil ws) ∙ take_all n ws (omega (arith, as_many, is))

  -- a list to which places were added, up to them
  pub grown-front : (start room : ℕ) (xs more : List Y) → length xs ≡ start → start ≤ room → take start (take room xs ++ more) ≡ xs
  grown-front start room xs more is le =
      let whole : take room xs ≡ xs = take_all room xs (omega (arith, is)) in
      ap (λ l. take start (l ++ more)) whole ∙ ap (λ k. take k (xs ++ more)) (sym is) ∙ take-append_seam xs more

module _ {Y : Type 0} where
  -- an item moves up by one
  module _ (old now : List Y) (count i : ℕ) (y : Y) (upto : i ≤ count) (more : 0 < i) (inside : count < length old) (as_many : length now ≡ length old) (before : take i now ≡ take i old) (is : y ≡ get_or now (i - 1) y) where
    pub raised : y ≡ get_or (take count old) (i - 1) y
    raised =
        is
        ∙ sym (get_or-take i now (i - 1) y (omega (arith, more)))
        ∙ ap (λ l. get_or l (i - 1) y) before
        ∙ get_or-take i old (i - 1) y (omega (arith, more))
        ∙ sym (get_or-take count old (i - 1) y (omega (arith, more, upto)))

    pub raise-before : take (i - 1) (set now i y) ≡ take (i - 1) old
    raise-before =
        take-set-le (i - 1) now i y (omega (arith, more))
        ∙ sym (take-of_take (i - 1) i now (omega (arith, more)))
        ∙ ap (take (i - 1)) before
        ∙ take-of_take (i - 1) i old (omega (arith, more))

    pub raise-behind : drop (i + 1) now ≡ drop i (take count old) ++ drop (count + 1) old → drop (i - 1 + 1) (set now i y) ≡ drop (i - 1) (take count old) ++ drop (count + 1) old
    raise-behind behind =
        let front = take count old in
        let long : length front ≡ count = length-take-le count old (omega (arith, inside)) in
        let next : suc (i - 1) ≡ i = omega (arith, more) in
        let whole : drop (i - 1) front ≡ y ∷ drop i front = drop-cons front (i - 1) y (omega (arith, long, more, upto)) ∙ ap (λ z. z ∷ drop (suc (i - 1)) front) (sym raised) ∙ ap (λ k. y ∷ drop k front) next in
        drop-set_at now i (i - 1 + 1) y (omega (arith, more)) (omega (arith, as_many, inside, upto))
        ∙ ap (λ l. y ∷ l) behind
        ∙ sym (ap (λ l. l ++ drop (count + 1) old) whole)

  -- an item moves down by one
  module _ (old now : List Y) (place i : ℕ) (y : Y) (from_place : place ≤ i) (inside : i + 1 < length now) (as_many : length now ≡ length old) (behind : drop (i + 1) now ≡ drop (i + 1) old) (is : y ≡ get_or now (i + 1) y) where
    lowered : get_or old (i + 1) y ≡ y
    lowered =
        let here : (i + 1) + 0 ≡ i + 1 = omega arith in
        let same : get_or now (i + 1) y ≡ get_or old (i + 1) y = rw here at (sym (get_or-drop (i + 1) now 0 y) ∙ ap (λ l. get_or l 0 y) behind ∙ get_or-drop (i + 1) old 0 y) in
        sym same ∙ sym is

    pub lower-front : take i now ≡ take place old ++ take (i - place) (drop (place + 1) old) → take (i + 1) (set now i y) ≡ take place old ++ take (i + 1 - place) (drop (place + 1) old)
    lower-front front =
        let rest = drop (place + 1) old in
        let there : (place + 1) + (i - place) ≡ i + 1 = omega (arith, from_place) in
        let next : (i - place) + 1 ≡ i + 1 - place = omega (arith, from_place) in
        let item : get_or rest (i - place) y ≡ y = rw there at (get_or-drop (place + 1) old (i - place) y) ∙ lowered in
        let more : take (i + 1 - place) rest ≡ take (i - place) rest ++ y ∷ [] = ap (λ k. take k rest) (sym next) ∙ take_more rest (i - place) y (omega (arith, length-drop (place + 1) old, as_many, inside, from_place)) ∙ ap (λ z. take (i - place) rest ++ z ∷ []) item in
        take_more_set now i y (omega (arith, inside))
        ∙ ap (λ l. l ++ y ∷ []) front
        ∙ append_assoc (take place old) (take (i - place) rest) (y ∷ [])
        ∙ ap (λ l. take place old ++ l) (sym more)

    pub lower-behind : drop (i + 1 + 1) (set now i y) ≡ drop (i + 1 + 1) old
    lower-behind = drop-set-lt (i + 1 + 1) now i y (omega arith) ∙ sym (drop-drop 1 (i + 1) now) ∙ ap (drop 1) behind ∙ drop-drop 1 (i + 1) old

  -- what was moved up and down again
  module _ (old up down : List Y) (place count : ℕ) (upto : place ≤ count) (inside : count < length old) (before : take place up ≡ take place old) (behind : drop (place + 1) up ≡ drop place (take count old) ++ drop (count + 1) old) where
    moved : length (drop place (take count old)) ≡ count - place
    moved = omega (arith, length-drop place (take count old), length-take-le count old (omega (arith, inside)))

    pub restored-front : take count down ≡ take place up ++ take (count - place) (drop (place + 1) up) → take count down ≡ take count old
    restored-front front =
        let seam : take (count - place) (drop place (take count old) ++ drop (count + 1) old) ≡ drop place (take count old) = ap (λ k. take k (drop place (take count old) ++ drop (count + 1) old)) (sym moved) ∙ take-append_seam (drop place (take count old)) (drop (count + 1) old) in
        front
        ∙ ap (λ l. l ++ take (count - place) (drop (place + 1) up)) (before ∙ sym (take-of_take place count old upto))
        ∙ ap (λ l. take place (take count old) ++ l) (ap (take (count - place)) behind ∙ seam)
        ∙ take-append-drop place (take count old)
