-- The tests of equality hold just where there is equality.
use Rattle.std.proofs.Common.{◌≡◌, ℕ, Bool, true, ◌&&◌, eqb, List, [], ◌∷◌, Option, Some, None, refl, ap, subst}
use Rattle.std.proofs.lemmas.Bool.{eqb-true, eq-eqb, and_parts}
use Rattle.bw_keys.specs.declared.range.Fence.{Fence}
use Rattle.bw_keys.specs.declared.range.Fence.TheVariants.{Key, Top}
use Rattle.bw_keys.specs.declared.page.Pid.{Pid}
use Rattle.bw_delta.specs.Pages.{Page, Listed, pairs_of, routes_of}
use Rattle.bw_law.specs.Same.{is_same_number, is_same_pid, is_same_fence, is_same_link, are_same_entries, is_same_listed, is_same_page}

pub same_pid : (p q : Pid) → is_same_pid p q ≡ true → p ≡ q
same_pid p q reported = λ i. record { 0 = eqb-true p.0 q.0 reported i }

pub same_fence : (a b : Fence) → is_same_fence a b ≡ true → a ≡ b
same_fence (Key a) (Key b) reported = ap Key (eqb-true a b reported)
same_fence (Key a) Top reported = cc
same_fence Top (Key b) reported = cc
same_fence Top Top reported = refl

pub same_link : (a b : Option Pid) → is_same_link a b ≡ true → a ≡ b
same_link None None reported = refl
same_link None (Some q) reported = cc
same_link (Some p) None reported = cc
same_link (Some p) (Some q) reported = ap Some (same_pid p q reported)

pub same_entries : {X : Type 0} → (is_same : X → X → Bool) → ((x y : X) → is_same x y ≡ true → x ≡ y) → (es fs : List (ℕ × X)) → are_same_entries is_same es fs ≡ true → es ≡ fs
same_entries is_same tells [] [] reported = refl
same_entries is_same tells [] (f ∷ fs) reported = cc
same_entries is_same tells (e ∷ es) [] reported = cc
same_entries is_same tells (e ∷ es) (f ∷ fs) reported =
    let whole = and_parts (eqb e.0 f.0 && is_same e.1 f.1) (are_same_entries is_same es fs) reported in
    let head = and_parts (eqb e.0 f.0) (is_same e.1 f.1) whole.0 in
    λ i. (eqb-true e.0 f.0 head.0 i, tells e.1 f.1 head.1 i) ∷ same_entries is_same tells es fs whole.1 i

pub same_listed : (a b : Listed) → is_same_listed a b ≡ true → a ≡ b
same_listed (pairs_of es) (pairs_of fs) reported = ap pairs_of (same_entries is_same_number eqb-true es fs reported)
same_listed (pairs_of es) (routes_of fs) reported = cc
same_listed (routes_of es) (pairs_of fs) reported = cc
same_listed (routes_of es) (routes_of fs) reported = ap routes_of (same_entries is_same_pid same_pid es fs reported)

pub same_page : (p q : Page) → is_same_page p q ≡ true → p ≡ q
same_page p q reported =
    let a = and_parts (eqb p.low q.low && is_same_fence p.high q.high && is_same_link p.right q.right) (is_same_listed p.listed q.listed) reported in
    let b = and_parts (eqb p.low q.low && is_same_fence p.high q.high) (is_same_link p.right q.right) a.0 in
    let c = and_parts (eqb p.low q.low) (is_same_fence p.high q.high) b.0 in
    λ i. record {
      low = eqb-true p.low q.low c.0 i;
      high = same_fence p.high q.high c.1 i;
      right = same_link p.right q.right b.1 i;
      listed = same_listed p.listed q.listed a.1 i;
    }

-- and each page is the same as itself

same_number_self : (n : ℕ) → is_same_number n n ≡ true
same_number_self n = eq-eqb n n (λ _. n)

same_fence_self : (a : Fence) → is_same_fence a a ≡ true
same_fence_self (Key a) = same_number_self a
same_fence_self Top = refl

same_link_self : (a : Option Pid) → is_same_link a a ≡ true
same_link_self None = refl
same_link_self (Some p) = same_number_self p.0

same_entries_self : {X : Type 0} → (is_same : X → X → Bool) → ((x : X) → is_same x x ≡ true) → (es : List (ℕ × X)) → are_same_entries is_same es es ≡ true
same_entries_self is_same self [] = refl
same_entries_self is_same self (e ∷ es) = rw (same_number_self e.0, self e.1) (same_entries_self is_same self es)

same_listed_self : (a : Listed) → is_same_listed a a ≡ true
same_listed_self (pairs_of es) = same_entries_self is_same_number same_number_self es
same_listed_self (routes_of es) = same_entries_self is_same_pid (λ p. same_number_self p.0) es

pub same_page_self : (p : Page) → is_same_page p p ≡ true
same_page_self p = rw (same_number_self p.low, same_fence_self p.high, same_link_self p.right) (same_listed_self p.listed)

-- and so is each equal page
pub same_page_tells : (p q : Page) → p ≡ q → is_same_page p q ≡ true
same_page_tells p q same = subst (λ x. is_same_page p x ≡ true) same (same_page_self p)
