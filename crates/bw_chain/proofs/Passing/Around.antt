-- Rising entries before a key, and those after it.
use Rattle.std.proofs.Common.{◌≡◌, ◌≢◌, ℕ, zero, suc, ◌+◌, ◌<◌, ◌≤◌, true, List, [], ◌∷◌, ◌++◌, length, take, drop, get_or, drop-cons, append-nil, refl, ap, ◌∙◌, arith}
use Rattle.std.specs.Prelude.{Some, slice_get}
use Rattle.std.proofs.lemmas.Bool.Decides.{nat_tests}
use Rattle.std.proofs.lemmas.Option.{same_Some}
use Rattle.bw_delta.specs.Entries.{rises, below, from}
use Rattle.bw_delta.proofs.Rises.{from_all}
use Rattle.bw_keys.specs.Ranges.{key_count}
use Rattle.bw_chain.specs.Ascends.{IsAscending}
use Rattle.bw_chain.proofs.Lasts.{below_low}
use Rattle.bw_chain.proofs.Partitions.{key_from_low}

pub no_items : {Y : Type 0} → (ys : List Y) → length ys ≡ 0 → ys ≡ []
no_items [] none = refl
no_items (y ∷ ys) none = absurd (omega (arith, none))

module _ {X : Type 0} where
  -- from a place on whose key isn't less, no key is
  pub below-drop : (low end key i : ℕ) (d : ℕ × X) (es : List (ℕ × X)) → rises low end es ≡ true → i < length es → key ≤ (get_or es i d).0 → below key (drop i es) ≡ []
  below-drop low end key i d [] h inside le = absurd (omega arith)
  below-drop low end key zero d (e ∷ es) h inside le = grind (arith, nat_tests, below_low (e.0 + 1) end key es)
  below-drop low end key (suc i) d (e ∷ es) h inside le =
      let rest : rises (e.0 + 1) end es ≡ true = grind (arith, nat_tests) in
      below-drop (e.0 + 1) end key i d es rest (omega arith) le

  pub from-drop : (low end key i : ℕ) (d : ℕ × X) (es : List (ℕ × X)) → rises low end es ≡ true → i < length es → key ≤ (get_or es i d).0 → from key (drop i es) ≡ drop i es
  from-drop low end key i d [] h inside le = absurd (omega arith)
  from-drop low end key zero d (e ∷ es) h inside le = grind (arith, nat_tests, from_all end (e.0 + 1) key es)
  from-drop low end key (suc i) d (e ∷ es) h inside le =
      let rest : rises (e.0 + 1) end es ≡ true = grind (arith, nat_tests) in
      from-drop (e.0 + 1) end key i d es rest (omega arith) le

  -- up to a place whose key is less, each is
  pub below-upto : (low end key i : ℕ) (d : ℕ × X) (es : List (ℕ × X)) → rises low end es ≡ true → i < length es → (get_or es i d).0 < key → below key es ≡ take (suc i) es ++ below key (drop (suc i) es)
  below-upto low end key i d [] h inside less = absurd (omega arith)
  below-upto low end key zero d (e ∷ es) h inside less = grind (arith, nat_tests)
  below-upto low end key (suc i) d (e ∷ es) h inside less =
      let rest : rises (e.0 + 1) end es ≡ true = grind (arith, nat_tests) in
      let later : e.0 + 1 ≤ (get_or es i d).0 = key_from_low (e.0 + 1) end es i d rest (omega arith) in
      let first : e.0 < key = omega (arith, later, less) in
      grind (arith, nat_tests, below-upto (e.0 + 1) end key i d es rest)

  pub from-upto : (low end key i : ℕ) (d : ℕ × X) (es : List (ℕ × X)) → rises low end es ≡ true → i < length es → (get_or es i d).0 < key → from key es ≡ from key (drop (suc i) es)
  from-upto low end key i d [] h inside less = absurd (omega arith)
  from-upto low end key zero d (e ∷ es) h inside less = grind (arith, nat_tests)
  from-upto low end key (suc i) d (e ∷ es) h inside less =
      let rest : rises (e.0 + 1) end es ≡ true = grind (arith, nat_tests) in
      let later : e.0 + 1 ≤ (get_or es i d).0 = key_from_low (e.0 + 1) end es i d rest (omega arith) in
      let first : e.0 < key = omega (arith, later, less) in
      grind (arith, nat_tests, from-upto (e.0 + 1) end key i d es rest)

  pub length-below : (bound : ℕ) (es : List (ℕ × X)) → length (below bound es) ≤ length es
  length-below bound [] = omega arith
  length-below bound (e ∷ es) = grind (arith, nat_tests, length-below bound es)

  -- no entry lies below a bound that the first one doesn't
  pub from-least : (bound : ℕ) (e : ℕ × X) (es : List (ℕ × X)) → IsAscending es → slice_get es 0 ≡ Some e → bound ≤ e.0 → from bound es ≡ es
  from-least bound e [] h first le = refl
  from-least bound e (f ∷ es) h first le =
      let same : f ≡ e = same_Some f e first in
      let here : bound ≤ f.0 = omega (arith, le, ap (λ x. x.0) same) in
      let rest : rises (f.0 + 1) key_count es ≡ true = grind (arith, nat_tests) in
      grind (arith, nat_tests, from_all key_count (f.0 + 1) bound es)

  -- one more at most, where the key of the next but one isn't less
  pub last-before : (low end key i : ℕ) (d : ℕ × X) (es : List (ℕ × X)) → rises low end es ≡ true → suc i < length es → key ≤ (get_or es (suc i) d).0 → length (below key (drop i es)) ≤ 1
  last-before low end key i d [] h inside le = absurd (omega arith)
  last-before low end key zero d (e ∷ es) h inside le =
      let rest : rises (e.0 + 1) end es ≡ true = grind (arith, nat_tests) in
      let none : below key es ≡ [] = below-drop (e.0 + 1) end key 0 d es rest (omega arith) le in
      grind (arith, nat_tests, none)
  last-before low end key (suc i) d (e ∷ es) h inside le =
      let rest : rises (e.0 + 1) end es ≡ true = grind (arith, nat_tests) in
      last-before (e.0 + 1) end key i d es rest (omega arith) le

  none-below : (key : ℕ) (e : ℕ × X) (es : List (ℕ × X)) → e.0 < key → length (below key (e ∷ es)) ≤ 1 → below key es ≡ []
  none-below key e es less few =
      let more : length (below key (e ∷ es)) ≡ 1 + length (below key es) = grind (arith, nat_tests) in
      no_items (below key es) (omega (arith, more, few))

  from-all_of : (key : ℕ) (es : List (ℕ × X)) → below key es ≡ [] → from key es ≡ es
  from-all_of key [] none = refl
  from-all_of key (e ∷ es) none = grind (arith, nat_tests, from-all_of key es)

  -- the last one before the key
  module _ (key i : ℕ) (d : ℕ × X) (es : List (ℕ × X)) (h : IsAscending es) (inside : i < length es) (less : (get_or es i d).0 < key) (few : length (below key (drop i es)) ≤ 1) where
    none_more : below key (drop (suc i) es) ≡ []
    none_more = none-below key (get_or es i d) (drop (suc i) es) less (rw (drop-cons es i d inside) at few)

    pub last-below : below key es ≡ take (suc i) es
    last-below = below-upto 0 key_count key i d es h inside less ∙ ap (λ l. take (suc i) es ++ l) none_more ∙ append-nil (take (suc i) es)

    pub last-after : from key es ≡ drop (suc i) es
    last-after = from-upto 0 key_count key i d es h inside less ∙ from-all_of key (drop (suc i) es) none_more

  -- after a key stand those from it on but for its own entry
  pub from-own : (low end key : ℕ) (e : ℕ × X) (es rest : List (ℕ × X)) → rises low end es ≡ true → from key es ≡ e ∷ rest → e.0 ≡ key → from (key + 1) es ≡ rest
  from-own low end key e [] rest h first same = cc
  from-own low end key e (d ∷ es) rest h first same = grind (arith, nat_tests, from-own (d.0 + 1) end key e es rest, from_all end (d.0 + 1) key es, from_all end (d.0 + 1) (key + 1) es)

  pub from-later : (low end key : ℕ) (e : ℕ × X) (es rest : List (ℕ × X)) → rises low end es ≡ true → from key es ≡ e ∷ rest → e.0 ≢ key → from (key + 1) es ≡ e ∷ rest
  from-later low end key e [] rest h first other = cc
  from-later low end key e (d ∷ es) rest h first other = grind (arith, nat_tests, from-later (d.0 + 1) end key e es rest, from_all end (d.0 + 1) key es, from_all end (d.0 + 1) (key + 1) es)

  pub from-none : (key : ℕ) (es : List (ℕ × X)) → from key es ≡ [] → from (key + 1) es ≡ []
  from-none key [] none = refl
  from-none key (e ∷ es) none = grind (arith, nat_tests, from-none key es)
