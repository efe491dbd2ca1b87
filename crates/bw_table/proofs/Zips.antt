-- What two lists of one length have at each place.
use Rattle.std.proofs.Common.{◌≡◌, ℕ, zero, suc, ◌+◌, ◌<◌, ◌≤◌, List, [], ◌∷◌, length, get_or, set, take, sym, subst₂, arith, take_all}
use Rattle.std.specs.List.{AllZip}
use Rattle.std.proofs.lemmas.List.{take_more, take_more_set}
use Rattle.std.proofs.lemmas.Slice.Zip.{all_zipped_more}

module _ {A B : Type 0} (R : A → B → Type 0) where
  pub zip-at : (xs : List A) (ys : List B) (i : ℕ) (d : A) (e : B) → AllZip R xs ys → i < length xs → R (get_or xs i d) (get_or ys i e)
  zip-at [] ys i d e zip inside = absurd (omega arith)
  zip-at (x ∷ xs) [] i d e zip inside = absurd zip
  zip-at (x ∷ xs) (y ∷ ys) zero d e zip inside = zip.0
  zip-at (x ∷ xs) (y ∷ ys) (suc i) d e zip inside = zip-at xs ys i d e zip.1 (omega arith)

  -- one place more of a list that is written from its beginning on
  pub zip-more_set : (xs : List A) (ys : List B) (i : ℕ) (d : A) (y : B) → i < length xs → i < length ys → AllZip R (take i xs) (take i ys) → R (get_or xs i d) y
      → AllZip R (take (i + 1) xs) (take (i + 1) (set ys i y))
  zip-more_set xs ys i d y inside there zip here =
      subst₂ (AllZip R) (sym (take_more xs i d inside)) (sym (take_more_set ys i y there)) (all_zipped_more R (take i xs) (take i ys) (get_or xs i d) y zip here)

  pub zip-whole : (xs : List A) (ys : List B) (n : ℕ) → length xs ≤ n → length ys ≤ n → AllZip R (take n xs) (take n ys) → AllZip R xs ys
  zip-whole xs ys n inside there zip = subst₂ (AllZip R) (take_all n xs inside) (take_all n ys there) zip
