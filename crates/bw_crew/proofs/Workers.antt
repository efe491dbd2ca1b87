-- Workers by their numbers, and one more of them after the others.
use Rattle.std.proofs.Common.{◌≡◌, ℕ, ◌+◌, ◌≤◌, List, [], ◌∷◌, ◌++◌, length, map, false, refl, ap, sym, subst, ◌∙◌, append_assoc, arith, length-append}
use Rattle.std.proofs.lemmas.Bool.Decides.{nat_tests}
use Rattle.std.proofs.lemmas.List.{map-append}
use Rattle.bw_keys.specs.Limits.{is_out_of}
use Rattle.bw_step.specs.declared.receipt.Receipt.{Receipt}
use Rattle.bw_tree.specs.Shares.{ShareValue}
use Rattle.bw_crew.specs.Workers.{Promised, AllAsPromised, AreNumbered, AreAsPromised, ByNumber, share_by}

pub few_workers : (most workers n : ℕ) → is_out_of 1 most workers ≡ false → n ≡ workers → most ≤ 64 → n ≤ 64
few_workers most workers n fine many few = grind (arith, nat_tests)

pub one_longer : {X : Type 0} → (xs more : List X) (x : X) → more ≡ xs ++ x ∷ [] → length more ≡ length xs + 1
one_longer xs more x grown = ap length grown ∙ length-append xs (x ∷ [])

-- what is so whatever the worker is so of each
pub all_so : {A X : Type 0} → (first : ℕ) (xs : List X) → A → ByNumber (λ worker x. A) first xs
all_so first [] a = tt
all_so first (x ∷ xs) a = (a, all_so (first + 1) xs a)

by_number_snoc : {X : Type 0} → (fact : ℕ → X → Type 0) (first : ℕ) (xs : List X) (x : X) (worker : ℕ) → ByNumber fact first xs
    → fact worker x → worker ≡ first + length xs → ByNumber fact first (xs ++ x ∷ [])
by_number_snoc fact first [] x worker all is at = (subst (λ (k : ℕ). fact k x) (omega (arith, at)) is, tt)
by_number_snoc fact first (y ∷ xs) x worker all is at = (all.0, by_number_snoc fact (first + 1) xs x worker all.1 is (omega (arith, at)))

pub numbered_more : {X : Type 0} → (number : X → ℕ) (xs more : List X) (x : X) → more ≡ xs ++ x ∷ [] → AreNumbered number 0 xs
    → number x ≡ length xs → AreNumbered number 0 more
numbered_more number xs more x grown all is =
    subst (AreNumbered number 0) (sym grown) (by_number_snoc (λ worker x. number x ≡ worker) 0 xs x (length xs) all is (omega arith))

pub by_number_more : {X : Type 0} → (fact : ℕ → X → Type 0) (xs more : List X) (x : X) (worker : ℕ) → more ≡ xs ++ x ∷ []
    → ByNumber fact 0 xs → fact worker x → worker ≡ length xs → ByNumber fact 0 more
by_number_more fact xs more x worker grown all is at =
    subst (ByNumber fact 0) (sym grown) (by_number_snoc fact 0 xs x worker all is (omega (arith, at)))

-- what one more item has stood first in the rest
pub one_more_has : {X Z : Type 0} → (has : X → Z) (xs : List X) (x : X) (rest all : List Z) → map has xs ++ has x ∷ rest ≡ all
    → map has (xs ++ x ∷ []) ++ rest ≡ all
one_more_has has xs x rest all so_far =
    ap (λ (l : List _). l ++ rest) (map-append has xs (x ∷ [])) ∙ (append_assoc (map has xs) (has x ∷ []) rest ∙ so_far)

-- one trail more stands for the next hand's
pub trails_more : {L H : Type 0}
    → (added : L → List Receipt) (trail : H → List Receipt) (trails more : List L) (t : L) (hand : H) (rest : List H)
    (all : List (List Receipt)) → more ≡ trails ++ t ∷ [] → added t ≡ trail hand → map added trails ++ map trail (hand ∷ rest) ≡ all
    → map added more ++ map trail rest ≡ all
trails_more added trail trails more t hand rest all grown same so_far =
    rw grown (one_more_has added trails t (map trail rest) all (ap (λ (it : List Receipt). map added trails ++ it ∷ map trail rest) same
    ∙ so_far))

by_number_map : {S K : Type 0} → (fact : ℕ → K → Type 0) (has : S → K) (first : ℕ) (xs : List S) → ByNumber fact first (map has xs)
    → ByNumber (λ worker x. fact worker (has x)) first xs
by_number_map fact has first [] all = tt
by_number_map fact has first (x ∷ xs) all = (all.0, by_number_map fact has (first + 1) xs all.1)

-- what is so of each kit is so of the seat that has it
pub by_number_of : {S K : Type 0} → (fact : ℕ → K → Type 0) (has : S → K) (first : ℕ) (xs : List S) (ys : List K) → map has xs ≡ ys
    → ByNumber fact first ys → ByNumber (λ worker x. fact worker (has x)) first xs
by_number_of fact has first xs ys same all = by_number_map fact has first xs (subst (ByNumber fact first) (sym same) all)

promised_each : {X O : Type 0} → (promised : Promised O) (output : X → O) (trail : X → List Receipt) (first : ℕ) (xs : List X)
    → ByNumber (λ worker x. promised worker (output x) (trail x)) first xs
    → AreAsPromised promised first (map output xs) (map trail xs)
promised_each promised output trail first [] all = tt
promised_each promised output trail first (x ∷ xs) all = (all.0, promised_each promised output trail (first + 1) xs all.1)

-- what is promised of each worker is so of the lists of what they bring back
pub all_as_promised : {X O L : Type 0}
    → (added : L → List Receipt) (promised : Promised O) (output : X → O) (trail : X → List Receipt) (xs : List X) (outputs : List O)
    (trails : List L) → outputs ≡ map output xs → map added trails ≡ map trail xs
    → ByNumber (λ worker x. promised worker (output x) (trail x)) 0 xs → AllAsPromised added promised outputs trails
all_as_promised {O = O} added promised output trail xs outputs trails one two all =
    subst (λ (os : List O). AreAsPromised promised 0 os (map added trails)) (sym one)
    (subst (λ (ts : List (List Receipt)). AreAsPromised promised 0 (map output xs) ts) (sym two)
    (promised_each promised output trail 0 xs all))

pub each_share : {L : Type 0} → (added : L → List Receipt) (trails : List L)
    → map (λ trail. share_by (added trail)) trails ≡ map share_by (map added trails)
each_share added [] = refl
each_share added (trail ∷ trails) = ap (λ (rest : List ShareValue). share_by (added trail) ∷ rest) (each_share added trails)

-- one share more is the sum of its trail
pub summed_more : {L : Type 0} → (added : L → List Receipt) (before shares more : List ShareValue) (trails trailed : List L)
    (share : ShareValue) (trail : L) → more ≡ shares ++ share ∷ [] → trailed ≡ trails ++ trail ∷ []
    → shares ≡ before ++ map (λ trail. share_by (added trail)) trails → share ≡ share_by (added trail)
    → more ≡ before ++ map (λ trail. share_by (added trail)) trailed
summed_more {L = L} added before shares more trails trailed share trail one two so_far is =
    let told : L → ShareValue = λ trail. share_by (added trail) in
    one ∙ ((λ j. so_far j ++ is j ∷ []) ∙ (append_assoc before (map told trails) (share_by (added trail) ∷ [])
    ∙ ap (λ (rest : List ShareValue). before ++ rest) (sym (ap (map told) two ∙ map-append told trails (trail ∷ [])))))

-- a fact that the promise has of each worker's number and output, whatever its trail
pub by_number_promised : {O L : Type 0}
    → (added : L → List Receipt) (promised : Promised O) (fact : ℕ → O → Type 0) (first : ℕ) (outputs : List O) (trails : List L)
    → ((worker : ℕ) (output : O) (trail : List Receipt) → promised worker output trail → fact worker output)
    → AreAsPromised promised first outputs (map added trails) → ByNumber fact first outputs
by_number_promised added promised fact first [] [] has all = tt
by_number_promised added promised fact first (o ∷ outputs) (t ∷ trails) has all =
    (has first o (added t) all.0, by_number_promised added promised fact (first + 1) outputs trails has all.1)
by_number_promised added promised fact first [] (t ∷ trails) has all = absurd all
by_number_promised added promised fact first (o ∷ outputs) [] has all = absurd all
