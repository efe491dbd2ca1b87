-- Lists that begin with others.
use Rattle.std.proofs.Common.{◌≡◌, ℕ, zero, suc, ◌≤◌, List, [], ◌∷◌, length, take, refl, ap, ◌∙◌}
use Rattle.std.proofs.lemmas.List.{length-take-le}
use Rattle.bw_chain.specs.Passing.Heads.{BeginsWith}

module _ {Y : Type 0} where
  pub begins-more : (n : ℕ) (list front : List Y) → BeginsWith (take n list) front → BeginsWith list front
  begins-more n list [] begins = refl
  begins-more zero list (x ∷ front) begins = cc
  begins-more (suc n) [] (x ∷ front) begins = cc
  begins-more (suc n) (y ∷ list) (x ∷ front) begins =
      let first : y ≡ x = cc in
      let rest : BeginsWith (take n list) front = cc in
      ap (λ l. y ∷ l) (begins-more n list front rest) ∙ ap (λ z. z ∷ front) first

  -- the first n items of a list that begins with those of another
  pub begins-take : (n : ℕ) (items front list : List Y) → front ≡ take n items → n ≤ length items → BeginsWith list front → take n list ≡ front
  begins-take n items front list is le begins =
      let long : length front ≡ n = ap length is ∙ length-take-le n items le in
      rw long at begins
