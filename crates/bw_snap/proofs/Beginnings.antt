-- Beginnings of announcements, in which each list begins with the one before it.
use Rattle.std.proofs.Common.{◌≡◌, ◌≤◌, List, [], ◌∷◌, ◌++◌, length, refl, ap, sym, ◌∙◌, subst, arith, append_assoc, append-nil}
use mathlib.Core.List.{IsPrefix}
use Rattle.bw_step.specs.Proposals.{Proposal}
use Rattle.bw_snap.specs.Snapshots.{BeginsWith}
use Rattle.bw_snap.specs.Fronts.{Rise, newest}

-- of two beginnings of one list the shorter begins the longer
pub shorter_begins : {X : Type 0} (xs ys zs : List X) → IsPrefix xs zs → IsPrefix ys zs → length xs ≤ length ys → IsPrefix xs ys
shorter_begins [] ys zs p q le = (ys, refl)
shorter_begins (x ∷ xs) [] zs p q le = absurd (omega arith)
shorter_begins (x ∷ xs) (y ∷ ys) [] p q le = absurd (cc (p.1))
shorter_begins (x ∷ xs) (y ∷ ys) (z ∷ zs) p q le =
    let heads : x ≡ y = cc (p.1, q.1) in
    let rest = shorter_begins xs ys zs (p.0, cc (p.1)) (q.0, cc (q.1)) (omega arith) in
    (rest.0, cc (heads, rest.1))

-- a beginning that is as long as the whole is the whole
pub whole_begins : {X : Type 0} (xs ys : List X) → IsPrefix xs ys → length ys ≤ length xs → xs ≡ ys
whole_begins [] [] p le = refl
whole_begins [] (y ∷ ys) p le = absurd (omega arith)
whole_begins (x ∷ xs) [] p le = absurd (cc (p.1))
whole_begins (x ∷ xs) (y ∷ ys) p le = let rest = whole_begins xs ys (p.0, cc (p.1)) (omega arith) in cc (p.1, rest)

pub begins_itself : (xs : List Proposal) → BeginsWith xs xs
begins_itself xs = ([], sym (append-nil xs))

pub begins_by_turns : (xs ys zs : List Proposal) → BeginsWith xs ys → BeginsWith ys zs → BeginsWith xs zs
begins_by_turns xs ys zs p q = (q.0 ++ p.0, p.1 ∙ (ap (λ (l : List Proposal). l ++ p.0) q.1 ∙ append_assoc zs q.0 p.0))

pub begins_and_goes_on : (steps more seen : List Proposal) → BeginsWith steps seen → BeginsWith (steps ++ more) seen
begins_and_goes_on steps more seen s = (s.0 ++ more, ap (λ (l : List Proposal). l ++ more) s.1 ∙ append_assoc seen s.0 more)

newest_begins : (first : List Proposal) (log : List (List Proposal)) → Rise first log → BeginsWith (newest first log) first
newest_begins first [] r = begins_itself first
newest_begins first (x ∷ xs) r = begins_by_turns (newest x xs) x first (newest_begins x xs r.1) r.0

newest_of_both : (first : List Proposal) (xs ys : List (List Proposal)) → newest first (xs ++ ys) ≡ newest (newest first xs) ys
newest_of_both first [] ys = refl
newest_of_both first (x ∷ xs) ys = newest_of_both x xs ys

rest_rises : (first : List Proposal) (xs ys : List (List Proposal)) → Rise first (xs ++ ys) → Rise (newest first xs) ys
rest_rises first [] ys r = r
rest_rises first (x ∷ xs) ys r = rest_rises x xs ys r.1

-- the newest list of a longer beginning begins with that of a shorter one
longer_goes_on : (xs ys : List (List Proposal)) → IsPrefix xs ys → Rise [] ys → BeginsWith (newest [] ys) (newest [] xs)
longer_goes_on xs ys p =
    subst (λ (l : List (List Proposal)). Rise [] l → BeginsWith (newest [] l) (newest [] xs)) p.1
    (λ r. subst (λ (l : List Proposal). BeginsWith l (newest [] xs)) (sym (newest_of_both [] xs p.0)) (newest_begins (newest [] xs) p.0 (rest_rises [] xs p.0 r)))

-- of two beginnings, the newest list of that with fewer lists begins the other's
pub fewer_begins_more : (xs ys log : List (List Proposal)) → IsPrefix xs log → IsPrefix ys log → length xs ≤ length ys → Rise [] ys → BeginsWith (newest [] ys) (newest [] xs)
fewer_begins_more xs ys log p q le r = longer_goes_on xs ys (shorter_begins xs ys log p q le) r

-- one list more
pub one_more_rises : (first : List Proposal) (log : List (List Proposal)) (steps : List Proposal) → Rise first log → BeginsWith steps (newest first log) → Rise first (log ++ steps ∷ [])
one_more_rises first [] steps r s = (s, tt)
one_more_rises first (x ∷ xs) steps r s = (r.0, one_more_rises x xs steps r.1 s)

pub one_more_is_newest : (first : List Proposal) (log : List (List Proposal)) (steps : List Proposal) → newest first (log ++ steps ∷ []) ≡ steps
one_more_is_newest first [] steps = refl
one_more_is_newest first (x ∷ xs) steps = one_more_is_newest x xs steps
