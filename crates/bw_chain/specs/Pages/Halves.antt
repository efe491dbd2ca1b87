-- The parts of a base page's entries from one of them on.
use Rattle.std.specs.Prelude.{ℕ, ◌/◌, List, Option, option_map, drop, slice_get}
use Rattle.bw_delta.specs.Pages.{Listed, pairs_of, routes_of, listed_length}

-- the key of the entry with the number, counted from 0
abbrev pub key_at : {X : Type 0} → ℕ → List (ℕ × X) → Option ℕ
key_at n es = option_map (λ e. e.0) (slice_get es n)

abbrev pub listed_key_at : ℕ → Listed → Option ℕ
listed_key_at n (pairs_of es) = key_at n es
listed_key_at n (routes_of es) = key_at n es

-- the entries from the one with the number on
abbrev pub listed_behind : ℕ → Listed → Listed
listed_behind n (pairs_of es) = pairs_of (drop n es)
listed_behind n (routes_of es) = routes_of (drop n es)

-- the key of the middle entry: of n entries, the one with number n / 2
abbrev pub listed_middle_key : Listed → Option ℕ
listed_middle_key listed = listed_key_at (listed_length listed / 2) listed
