-- How many pages a tree may have that was made by insertions alone.
use Rattle.std.specs.Prelude.{◌≡◌, ℕ, ◌+◌, ◌-◌, ◌*◌, ◌<◌, ◌≤◌, List, [], ◌∷◌, sum}
use Rattle.bw_keys.specs.declared.config.Config.{Config}

-- the least that a split leaves to either page, if pages may have 64 entries
abbrev pub half : ℕ
half = 32

-- The number of pages of a level, and those of the levels above it up to the root, where on each level above all pages but
-- one have half of their entries, and that one has some.
abbrev pub AreLevels : ℕ → List ℕ → Type 0
AreLevels below [] = below ≡ 1
AreLevels below (pages ∷ above) = (1 < below) × (half * (pages - 1) < below) × AreLevels pages above

-- there are pages enough for each tree with that number of pairs in which all leaves but one have half of their pairs
abbrev pub HasRoomFor : ℕ → Config → Type 0
HasRoomFor pairs config = (leaves : ℕ) (above : List ℕ) → half * (leaves - 1) ≤ pairs → AreLevels leaves above → leaves + sum above ≤ config.pages

-- the most pairs for which that can be so
abbrev pub most_pairs : ℕ
most_pairs = 2031491
