-- How far a search for the greatest entry has come, and what it finds.
use Rattle.std.specs.Prelude.{◌≡◌, ℕ, ◌+◌, ◌≤◌, Bool, true, ◌&&◌, nat_lt, nat_le, List, Option, Some, None}
use Rattle.std.proofs.Common.{◌⊎◌}
use Rattle.bw_delta.specs.Entries.{at}
use Rattle.bw_chain.specs.declared.search.reach.Reach.{Reach}

-- whether the key is greater than that of the entry, if there is one
abbrev pub is_past : {X : Type 0} → Option (ℕ × X) → ℕ → Bool
is_past None q = true
is_past (Some e) q = nat_lt e.0 q

-- whether an entry at the key would be greater than the best one that was found, and not too great
abbrev pub is_open : {X : Type 0} → ℕ → Option (ℕ × X) → ℕ → Bool
is_open upto best q = nat_le q upto && is_past best q

-- nothing stands at the open keys from a number on
abbrev pub IsClear : {X : Type 0} → ℕ → ℕ → Option (ℕ × X) → List (ℕ × X) → Type 0
IsClear low upto best es = (q : ℕ) → low ≤ q → is_open upto best q ≡ true → at q es ≡ None

-- the entry is the best one that was found, or stands at an open key
abbrev pub IsHeld : {X : Type 0} → ℕ → Option (ℕ × X) → List (ℕ × X) → ℕ × X → Type 0
IsHeld upto best es e = (best ≡ Some e) ⊎ ((is_open upto best e.0 ≡ true) × (at e.0 es ≡ Some e.1))

-- the greatest of the entries at open keys, or the best one that was found where there are none
abbrev pub IsGreatest : {X : Type 0} → ℕ → Option (ℕ × X) → List (ℕ × X) → Option (ℕ × X) → Type 0
IsGreatest upto best es None = (best ≡ None) × IsClear 0 upto best es
IsGreatest upto best es (Some e) = IsHeld upto best es e × IsClear (e.0 + 1) upto best es

-- a search goes on from the upper entries to the lower ones: the greatest that it finds there is the one that it looked for
abbrev pub GoesOn : {X : Type 0} → Reach X → List (ℕ × X) → Reach X → List (ℕ × X) → Type 0
GoesOn {X} old upper new lower = (answer : Option (ℕ × X)) → IsGreatest new.upto new.best lower answer → IsGreatest old.upto old.best upper answer
