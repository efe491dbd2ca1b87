-- The page that a chain stands for shows what the chain shows.
use Rattle.std.proofs.Common.{◌≡◌, ℕ, Bool, true, false, List, refl, sym, subst}
use Rattle.bw_delta.specs.Pages.{Page}
use Rattle.bw_delta.specs.Records.{Records, bare}
use Rattle.bw_delta.specs.Fence.{fences, is_leaf}
use Rattle.bw_delta.specs.Sound.{page_for, page_with, listed_for}
use Rattle.bw_procedures.specs.Facts.{ShowsCopy, IsLeafAround}

-- by the kind of the chain
shows_by : (shows : ℕ → ℕ → List (ℕ × ℕ) → Type 0) (chain : Records) (leaf : Bool) → is_leaf chain ≡ leaf → ShowsCopy shows chain → ShowsCopy shows (bare (page_with (fences chain) (listed_for leaf chain)))
shows_by shows chain true is shown = λ leaf. shown is
shows_by shows chain false is shown = λ leaf. absurd (cc (leaf))

pub page_shows : (shows : ℕ → ℕ → List (ℕ × ℕ) → Type 0) (chain : Records) (base : Page) → base ≡ page_for chain → ShowsCopy shows chain → ShowsCopy shows (bare base)
page_shows shows chain base is shown = subst (λ page. ShowsCopy shows (bare page)) (sym is) (shows_by shows chain (is_leaf chain) refl shown)

around_by : (key : ℕ) (chain : Records) (leaf : Bool) → is_leaf chain ≡ leaf → IsLeafAround key chain → IsLeafAround key (bare (page_with (fences chain) (listed_for leaf chain)))
around_by key chain true is around = record { leaf = refl; from_low = around.from_low; below_high = around.below_high }
around_by key chain false is around = absurd (cc (is, around.leaf))

pub page_around : (key : ℕ) (chain : Records) (base : Page) → base ≡ page_for chain → IsLeafAround key chain → IsLeafAround key (bare base)
page_around key chain base is around = subst (λ page. IsLeafAround key (bare page)) (sym is) (around_by key chain (is_leaf chain) refl around)
