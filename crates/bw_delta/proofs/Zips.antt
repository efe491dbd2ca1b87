-- Keys, and what stands at each, in lists of their own.
use Rattle.std.proofs.Common.{◌≡◌, ℕ, zero, suc, ◌<◌, List, [], ◌∷◌, ◌++◌, length, take, drop, get_or, set, refl, ap, ◌∙◌, arith}
use Rattle.std.specs.List.{zip, insert, remove}
use Rattle.std.proofs.lemmas.Slice.Zip.{get_or-zip}
use Rattle.bw_delta.specs.Slices.{HasKeyAt}

module _ {X : Type 0} where
  pub length-zip : (ks : List ℕ) (vs : List X) → length vs ≡ length ks → length (zip ks vs) ≡ length ks
  length-zip [] vs even = refl
  length-zip (k ∷ ks) [] even = absurd (omega arith)
  length-zip (k ∷ ks) (v ∷ vs) even = let more = length-zip ks vs (omega arith) in omega (arith, more)

  pub take-zip : (n : ℕ) (ks : List ℕ) (vs : List X) → zip (take n ks) (take n vs) ≡ take n (zip ks vs)
  take-zip zero ks vs = refl
  take-zip (suc n) [] vs = refl
  take-zip (suc n) (k ∷ ks) [] = refl
  take-zip (suc n) (k ∷ ks) (v ∷ vs) = ap (λ l. (k, v) ∷ l) (take-zip n ks vs)

  zip-none : (ks : List ℕ) → zip ks (let none : List X = [] in none) ≡ []
  zip-none [] = refl
  zip-none (k ∷ ks) = refl

  pub drop-zip : (n : ℕ) (ks : List ℕ) (vs : List X) → zip (drop n ks) (drop n vs) ≡ drop n (zip ks vs)
  drop-zip zero ks vs = refl
  drop-zip (suc n) [] vs = refl
  drop-zip (suc n) (k ∷ ks) [] = zip-none (drop n ks)
  drop-zip (suc n) (k ∷ ks) (v ∷ vs) = drop-zip n ks vs

  pub zip-append : (ks ls : List ℕ) (vs ws : List X) → length vs ≡ length ks → zip (ks ++ ls) (vs ++ ws) ≡ zip ks vs ++ zip ls ws
  zip-append [] ls [] ws even = refl
  zip-append [] ls (v ∷ vs) ws even = absurd (omega arith)
  zip-append (k ∷ ks) ls [] ws even = absurd (omega arith)
  zip-append (k ∷ ks) ls (v ∷ vs) ws even = ap (λ l. (k, v) ∷ l) (zip-append ks ls vs ws (omega arith))

  pub zip-set : (i k : ℕ) (v : X) (ks : List ℕ) (vs : List X) → zip (set ks i k) (set vs i v) ≡ set (zip ks vs) i (k, v)
  zip-set i k v [] vs = refl
  zip-set zero k v (l ∷ ks) [] = refl
  zip-set (suc i) k v (l ∷ ks) [] = refl
  zip-set zero k v (l ∷ ks) (w ∷ vs) = refl
  zip-set (suc i) k v (l ∷ ks) (w ∷ vs) = ap (λ es. (l, w) ∷ es) (zip-set i k v ks vs)

  pub zip-set_value : (i : ℕ) (v : X) (d : ℕ × X) (ks : List ℕ) (vs : List X) → length vs ≡ length ks → i < length ks → zip ks (set vs i v) ≡ set (zip ks vs) i ((get_or (zip ks vs) i d).0, v)
  zip-set_value i v d [] vs even inside = absurd (omega arith)
  zip-set_value i v d (k ∷ ks) [] even inside = absurd (omega arith)
  zip-set_value zero v d (k ∷ ks) (w ∷ vs) even inside = refl
  zip-set_value (suc i) v d (k ∷ ks) (w ∷ vs) even inside = ap (λ es. (k, w) ∷ es) (zip-set_value i v d ks vs (omega arith) (omega arith))

  pub even-take : (n : ℕ) (ks : List ℕ) (vs : List X) → length vs ≡ length ks → length (take n vs) ≡ length (take n ks)
  even-take zero ks vs even = refl
  even-take (suc n) [] [] even = refl
  even-take (suc n) [] (v ∷ vs) even = absurd (omega arith)
  even-take (suc n) (k ∷ ks) [] even = absurd (omega arith)
  even-take (suc n) (k ∷ ks) (v ∷ vs) even = let more = even-take n ks vs (omega arith) in omega (arith, more)

  pub zip-insert : (i k : ℕ) (v : X) (ks : List ℕ) (vs : List X) → length vs ≡ length ks → zip (insert ks i k) (insert vs i v) ≡ insert (zip ks vs) i (k, v)
  zip-insert i k v ks vs even =
      zip-append (take i ks) (k ∷ drop i ks) (take i vs) (v ∷ drop i vs) (even-take i ks vs even)
      ∙ rw (take-zip i ks vs, drop-zip i ks vs) refl

  pub zip-remove : (i : ℕ) (ks : List ℕ) (vs : List X) → length vs ≡ length ks → zip (remove ks i) (remove vs i) ≡ remove (zip ks vs) i
  zip-remove i ks vs even =
      zip-append (take i ks) (drop (suc i) ks) (take i vs) (drop (suc i) vs) (even-take i ks vs even)
      ∙ rw (take-zip i ks vs, drop-zip (suc i) ks vs) refl

  pub key_in-zip : (i : ℕ) (d : ℕ × X) (ks : List ℕ) (vs : List X) → length vs ≡ length ks → i < length ks → (get_or (zip ks vs) i d).0 ≡ get_or ks i d.0
  key_in-zip i d ks vs even inside = ap (λ e. e.0) (get_or-zip ks vs i d inside (omega (arith, even)))

  -- the key of an entry
  pub has_key : (i : ℕ) (d : ℕ) (ks : List ℕ) (vs : List X) → length vs ≡ length ks → i < length ks → HasKeyAt (zip ks vs) i (get_or ks i d)
  has_key i d [] vs even inside = absurd (omega arith)
  has_key i d (k ∷ ks) [] even inside = absurd (omega arith)
  has_key zero d (k ∷ ks) (v ∷ vs) even inside = (v, refl)
  has_key (suc i) d (k ∷ ks) (v ∷ vs) even inside = has_key i d ks vs (omega arith) (omega arith)

  -- the entry of a key and its value
  pub has_entry : (i k : ℕ) (v : X) (ks : List ℕ) (vs : List X) → length vs ≡ length ks → i < length ks → ◌≡◌ {A = ℕ × X} (get_or ks i k, get_or vs i v) (get_or (zip ks vs) i (get_or ks i k, get_or vs i v))
  has_entry i k v [] vs even inside = absurd (omega arith)
  has_entry i k v (l ∷ ks) [] even inside = absurd (omega arith)
  has_entry zero k v (l ∷ ks) (w ∷ vs) even inside = refl
  has_entry (suc i) k v (l ∷ ks) (w ∷ vs) even inside = has_entry i k v ks vs (omega arith) (omega arith)

  -- no keys, no entries
  pub no_keys : (ks : List ℕ) (vs : List X) → length ks ≡ 0 → zip ks vs ≡ []
  no_keys [] vs none = refl
  no_keys (k ∷ ks) vs none = absurd (omega arith)

  pub some_keys : (ks : List ℕ) (vs : List X) → length vs ≡ length ks → zip ks vs ≡ [] → length ks ≡ 0
  some_keys ks vs even none = omega (arith, length-zip ks vs even, ap length none)

pub ruleset zips = (length-zip, take-zip, drop-zip, zip-append, zip-set, zip-set_value, zip-insert, zip-remove, key_in-zip, no_keys, some_keys)
