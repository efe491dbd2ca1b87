-- A worker's hand on a tree: its share of the book is the sum of its trail.
use Rattle.std.specs.Prelude.{◌≡◌, List, [], ◌∷◌, ◌++◌, fold, refl}
use Rattle.std.proofs.Common.{◌∙◌, ap, sym, append_assoc, append-nil}
use Rattle.bw_step.specs.declared.receipt.Receipt.{Receipt}
use Rattle.bw_tree.specs.Shares.{ShareValue, counted}

-- the share rose by the receipts that were added to the trail: by one insertion with each Inserted, by one removal with each Deleted, and by
-- nothing else
abbrev pub Sums : List Receipt → ShareValue → List Receipt → ShareValue → Type 0
Sums trail share later_trail later_share = (added : List Receipt) × (later_trail ≡ trail ++ added) × (later_share ≡ fold counted share added)

fold_then : (a b c : ShareValue) (xs ys : List Receipt) → b ≡ fold counted a xs → c ≡ fold counted b ys → c ≡ fold counted a (xs ++ ys)
fold_then a b c [] ys p q = q ∙ ap (λ (share : ShareValue). fold counted share ys) p
fold_then a b c (x ∷ xs) ys p q = fold_then (counted a x) b c xs ys p q

pub sums_stay : (trail : List Receipt) (share : ShareValue) → Sums trail share trail share
sums_stay trail share = ([], sym (append-nil trail), refl)

pub sums_join : (x y z : List Receipt) (a b c : ShareValue) → Sums x a y b → Sums y b z c → Sums x a z c
sums_join x y z a b c p q = (p.0 ++ q.0, q.1 ∙ (ap (λ (l : List Receipt). l ++ q.0) p.1 ∙ append_assoc x p.0 q.0), fold_then a b c p.0 q.0 p.2 q.2)
