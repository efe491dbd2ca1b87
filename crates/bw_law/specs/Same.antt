-- Tests of equality that compute.
use Rattle.std.specs.Prelude.{ℕ, Bool, true, false, ◌&&◌, ◌==◌, List, [], ◌∷◌, Option, Some, None}
use Rattle.bw_keys.specs.declared.range.Fence.{Fence}
use Rattle.bw_keys.specs.declared.range.Fence.TheVariants.{Key, Top}
use Rattle.bw_keys.specs.declared.page.Pid.{Pid}
use Rattle.bw_delta.specs.Pages.{Page, Listed, pairs_of, routes_of}

abbrev pub is_same_number : ℕ → ℕ → Bool
is_same_number m n = m == n

abbrev pub is_same_pid : Pid → Pid → Bool
is_same_pid p q = p.0 == q.0

abbrev pub is_same_fence : Fence → Fence → Bool
is_same_fence (Key a) (Key b) = a == b
is_same_fence (Key a) Top = false
is_same_fence Top (Key b) = false
is_same_fence Top Top = true

abbrev pub is_same_link : Option Pid → Option Pid → Bool
is_same_link None None = true
is_same_link None (Some q) = false
is_same_link (Some p) None = false
is_same_link (Some p) (Some q) = p.0 == q.0

abbrev pub are_same_entries : {X : Type 0} → (X → X → Bool) → List (ℕ × X) → List (ℕ × X) → Bool
are_same_entries is_same [] [] = true
are_same_entries is_same [] (f ∷ fs) = false
are_same_entries is_same (e ∷ es) [] = false
are_same_entries is_same (e ∷ es) (f ∷ fs) =
    e.0 == f.0 && is_same e.1 f.1 && are_same_entries is_same es fs

abbrev pub is_same_listed : Listed → Listed → Bool
is_same_listed (pairs_of es) (pairs_of fs) = are_same_entries is_same_number es fs
is_same_listed (pairs_of es) (routes_of fs) = false
is_same_listed (routes_of es) (pairs_of fs) = false
is_same_listed (routes_of es) (routes_of fs) = are_same_entries is_same_pid es fs

abbrev pub is_same_page : Page → Page → Bool
is_same_page p q =
    p.low == q.low && is_same_fence p.high q.high && is_same_link p.right q.right
    && is_same_listed p.listed q.listed
