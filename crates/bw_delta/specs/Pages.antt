-- A base page as contracts see it: its fence and its entries, whatever the allocator.
use Rattle.std.specs.Prelude.{◌≡◌, ℕ, Bool, true, false, ◌&&◌, List, length, Option, nat_lt, nat_le}
use Rattle.bw_keys.specs.declared.range.Fence.{Fence}
use Rattle.bw_keys.specs.declared.page.Pid.{Pid}
use Rattle.bw_keys.specs.Ranges.{key_count, end_of}
use Rattle.bw_delta.specs.Entries.{rises, from}

-- what a page lists: the pairs of a leaf, or the routes of an inner page
pub data Listed : Type 0 where
  pairs_of : List (ℕ × ℕ) → Listed
  routes_of : List (ℕ × Pid) → Listed

pub record Page : Type 0 where
  pub low : ℕ
  pub high : Fence
  pub right : Option Pid
  pub listed : Listed

-- a leaf with these pairs
abbrev pub leaf_page : ℕ → Fence → Option Pid → List (ℕ × ℕ) → Page
leaf_page low high right pairs = record { low = low; high = high; right = right; listed = pairs_of pairs }

-- an inner page with these routes
abbrev pub inner_page : ℕ → Fence → Option Pid → List (ℕ × Pid) → Page
inner_page low high right routes = record { low = low; high = high; right = right; listed = routes_of routes }

abbrev pub listed_rises : ℕ → ℕ → Listed → Bool
listed_rises low end (pairs_of es) = rises low end es
listed_rises low end (routes_of es) = rises low end es

abbrev pub listed_length : Listed → ℕ
listed_length (pairs_of es) = length es
listed_length (routes_of es) = length es

-- whether the entries are those of a leaf
abbrev pub lists_pairs : Listed → Bool
lists_pairs (pairs_of es) = true
lists_pairs (routes_of es) = false

-- the range isn't empty and ends among the keys, and the entries rise strictly inside it
abbrev pub is_page : Page → Bool
is_page page = nat_le (end_of page.high) key_count && nat_lt page.low (end_of page.high) && listed_rises page.low (end_of page.high) page.listed

abbrev pub IsPage : Page → Type 0
IsPage page = is_page page ≡ true

abbrev pub listed_from : ℕ → Listed → Listed
listed_from key (pairs_of es) = pairs_of (from key es)
listed_from key (routes_of es) = routes_of (from key es)

-- the part of a page from the separator on
abbrev pub upper_part : ℕ → Page → Page
upper_part separator page = record page { low = separator; listed = listed_from separator page.listed }
