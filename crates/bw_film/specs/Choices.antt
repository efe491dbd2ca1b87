-- Which moments are drawn.
use Rattle.std.specs.Prelude.{ℕ, ◌+◌, ◌-◌, ◌^◌, min}

-- how many of the moments from the first up to the last are drawn, where there are so many in all, and a film has room for some
abbrev pub drawn_count : ℕ → ℕ → ℕ → ℕ → ℕ
drawn_count room from to moments = min room (min (to + 1) moments - from)

-- one moment more, of as many as are counted
abbrev pub one_more : ℕ → ℕ
one_more moments = min (moments + 1) (2 ^ 64 - 1)
