-- How the logic distinguishes pages and chains: each is stored as one value, from which it is read back.
use Rattle.std.specs.Prelude.{◌≡◌, ℕ, List, Option}
use Rattle.std.proofs.Common.{◌≢◌, ap, refl, arith, ◌⊎◌, inl, inr}
use Rattle.std.specs.Coded.{Coded, code_by, coded×, coded⊎, coded_ℕ, coded_list, coded_option}
use base.Stored.{Gv, gnil, gnum, gcons}
use Rattle.bw_keys.specs.declared.range.Fence.{Fence}
use Rattle.bw_keys.specs.declared.page.Pid.{Pid}
use Rattle.bw_keys.specs.contracts.range.Fence as fence
use Rattle.bw_keys.specs.contracts.page.Pid as pid
use Rattle.bw_delta.specs.contracts.chain.Delta as delta
use Rattle.bw_delta.specs.contracts.chain.Merging as merging
use Rattle.bw_delta.specs.Pages.{Page, Listed, pairs_of, routes_of}
use Rattle.bw_delta.specs.Records.{Records, bare, above, merged}

abbrev apart_by_kind : Listed → List (ℕ × ℕ) ⊎ List (ℕ × Pid)
apart_by_kind (pairs_of es) = inl es
apart_by_kind (routes_of es) = inr es

abbrev listed_again : List (ℕ × ℕ) ⊎ List (ℕ × Pid) → Listed
listed_again (inl es) = pairs_of es
listed_again (inr es) = routes_of es

pub listed_again-apart_by_kind : (listed : Listed) → listed_again (apart_by_kind listed) ≡ listed
listed_again-apart_by_kind (pairs_of es) = refl
listed_again-apart_by_kind (routes_of es) = refl

abbrev pub listed_code : Coded Listed
listed_code =
    code_by (List (ℕ × ℕ) ⊎ List (ℕ × Pid)) (coded⊎ (coded_list (coded× coded_ℕ coded_ℕ)) (coded_list (coded× coded_ℕ pid.the_row.coded))) apart_by_kind listed_again
    listed_again-apart_by_kind

abbrev pub page_code : Coded Page
page_code =
    code_by (ℕ × (Fence × (Option Pid × Listed))) (coded× coded_ℕ (coded× fence.the_row.coded (coded× (coded_option pid.the_row.coded) listed_code)))
    (λ page. (page.low, (page.high, (page.right, page.listed))))
    (λ parts. record { low = parts.0; high = parts.1.0; right = parts.1.1.0; listed = parts.1.1.1 })
    (λ _. refl)

abbrev first_of_pair : Gv → Gv
first_of_pair gnil = gnil
first_of_pair (gnum n) = gnil
first_of_pair (gcons a b) = a

abbrev rest_of_pair : Gv → Gv
rest_of_pair gnil = gnil
rest_of_pair (gnum n) = gnil
rest_of_pair (gcons a b) = b

-- a number stands first, one for each kind of record
abbrev pub stored : Records → Gv
stored (bare page) = gcons (gnum 0) (page_code.code page)
stored (above d chain) = gcons (gnum 1) (gcons (delta.the_row.coded.code d) (stored chain))
stored (merged m left right) = gcons (gnum 2) (gcons (merging.the_row.coded.code m) (gcons (stored left) (stored right)))

other_kind : (m n : ℕ) {a b : Gv} → gcons (gnum m) a ≡ gcons (gnum n) b → m ≢ n → ⊥
other_kind m n same other = other (cc)

pub stored_once : (x y : Records) → stored x ≡ stored y → x ≡ y
stored_once (bare p) (bare q) e = λ i. bare (page_code.inj p q (ap rest_of_pair e) i)
stored_once (bare p) (above d t) e = absurd (other_kind 0 1 e (omega arith))
stored_once (bare p) (merged m l r) e = absurd (other_kind 0 2 e (omega arith))
stored_once (above c s) (bare q) e = absurd (other_kind 1 0 e (omega arith))
stored_once (above c s) (above d t) e =
    λ i. above (delta.the_row.coded.inj c d (ap (λ g. first_of_pair (rest_of_pair g)) e) i) (stored_once s t (ap (λ g. rest_of_pair (rest_of_pair g)) e) i)
stored_once (above c s) (merged m l r) e = absurd (other_kind 1 2 e (omega arith))
stored_once (merged m l r) (bare q) e = absurd (other_kind 2 0 e (omega arith))
stored_once (merged m l r) (above d t) e = absurd (other_kind 2 1 e (omega arith))
stored_once (merged m l r) (merged n k s) e =
    λ i. merged (merging.the_row.coded.inj m n (ap (λ g. first_of_pair (rest_of_pair g)) e) i)
    (stored_once l k (ap (λ g. first_of_pair (rest_of_pair (rest_of_pair g))) e) i)
    (stored_once r s (ap (λ g. rest_of_pair (rest_of_pair (rest_of_pair g))) e) i)

abbrev pub records_code : Coded Records
records_code = record { code = stored; inj = stored_once }
