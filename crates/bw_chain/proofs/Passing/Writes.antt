-- What writes in place make of a list.
use Rattle.std.proofs.Common.{◌≡◌, ℕ, ◌+◌, ◌<◌, List, [], ◌∷◌, ◌++◌, length, take, append_assoc, ap, sym, ◌∙◌, arith}
use Rattle.std.proofs.Math.ListN.{set, get_or}
use Rattle.std.proofs.lemmas.List.{length-set, take_more, take_more_set}

-- an item of a list, written after those before it
pub one-written : {Y : Type 0} → (old list items : List Y) (place i : ℕ) (y : Y) → i < length items → place + i < length list → y ≡ get_or items i y → take (place + i) list ≡ take place old ++ take i items
    → take (place + (i + 1)) (set list (place + i) y) ≡ take place old ++ take (i + 1) items
one-written old list items place i y inside room is_y written =
    let n = place + i in
    let there : place + (i + 1) ≡ n + 1 = omega arith in
    let one : take (i + 1) items ≡ take i items ++ y ∷ [] = take_more items i y inside ∙ ap (λ e. take i items ++ e ∷ []) (sym is_y) in
    ap (λ k. take k (set list n y)) there
    ∙ take_more_set list n y room
    ∙ ap (λ l. l ++ y ∷ []) written
    ∙ append_assoc (take place old) (take i items) (y ∷ [])
    ∙ ap (λ l. take place old ++ l) (sym one)

-- two items of a list, written after those before them
pub pair-written : {Y : Type 0} → (old list items : List Y) (place i : ℕ) (y z : Y) → i + 1 < length items → place + i + 1 < length list → y ≡ get_or items i y → z ≡ get_or items (i + 1) z → take (place + i) list ≡ take place old ++ take i items
    → take (place + (i + 2)) (set (set list (place + i) y) (place + i + 1) z) ≡ take place old ++ take (i + 2) items
pair-written old list items place i y z inside room is_y is_z written =
    let n = place + i in
    let front = take place old in
    let there : place + (i + 2) ≡ n + 1 + 1 = omega arith in
    let next : i + 2 ≡ i + 1 + 1 = omega arith in
    let first = take_more_set list n y (omega (arith, room)) in
    let second = take_more_set (set list n y) (n + 1) z (omega (arith, room, length-set list n y)) in
    let one : take (i + 1) items ≡ take i items ++ y ∷ [] = take_more items i y (omega (arith, inside)) ∙ ap (λ e. take i items ++ e ∷ []) (sym is_y) in
    let two : take (i + 1 + 1) items ≡ take (i + 1) items ++ z ∷ [] = take_more items (i + 1) z inside ∙ ap (λ e. take (i + 1) items ++ e ∷ []) (sym is_z) in
    ap (λ k. take k (set (set list n y) (n + 1) z)) there
    ∙ second
    ∙ ap (λ l. l ++ z ∷ []) (first ∙ ap (λ l. l ++ y ∷ []) written ∙ append_assoc front (take i items) (y ∷ []) ∙ ap (λ l. front ++ l) (sym one))
    ∙ append_assoc front (take (i + 1) items) (z ∷ [])
    ∙ ap (λ l. front ++ l) (sym two ∙ ap (λ k. take k items) (sym next))
