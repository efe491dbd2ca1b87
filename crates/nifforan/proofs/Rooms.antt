-- How many pages a map wants for its pairs.
use Rattle.std.proofs.Common.{◌≡◌, refl, ℕ, ◌+◌, ◌-◌, ◌*◌, ◌/◌, ◌^◌, ◌<◌, ◌≤◌, List, [], ◌∷◌, Option, Some, None, ap, arith}
use Rattle.std.specs.Option.{option_or}
use Rattle.std.specs.Prelude.{sum, min}
use Rattle.std.proofs.lemmas.List.Sums.{sum_by-cons}
use Rattle.bw_keys.specs.declared.config.Config.{Config}
use Rattle.bw_keys.specs.Rooms.{half, AreLevels}
use Rattle.bw_procedures.specs.declared.fault.Fault.{Fault}
use Rattle.bw_procedures.specs.declared.fault.Fault.TheVariants.{TableFull}
use Rattle.nifforan.specs.Growing.{AreWantedAbove, AreWantedFor, HasAllPages, HasPagesFor, MayBeTooMany}
use Rattle.nifforan.specs.Maps.{MapValue}

-- above a level that has no more than one page there is none
pub none_above : (pages below : ℕ) (above : List ℕ) → pages ≤ 1 → below ≤ pages → AreLevels below above → sum above ≤ 2
none_above pages below [] one few levels = omega arith
none_above pages below (next ∷ above) one few levels = absurd (omega (arith, one, few, levels.0))

-- the pages of the next level, and those above it
pub all_above : (pages rest below : ℕ) (above : List ℕ) → ((b : ℕ) (a : List ℕ) → b ≤ (pages - 1) / 32 + 1 → AreLevels b a → sum a ≤ rest)
    → below ≤ pages → AreLevels below above → sum above ≤ ((pages - 1) / 32 + 1) + rest
all_above pages rest below [] higher few levels = omega arith
all_above pages rest below (next ∷ above) higher few levels =
    let is_next : next ≤ (pages - 1) / 32 + 1 = omega (arith, few, levels.1) in
    let all : sum (next ∷ above) ≡ next + sum above = sum_by-cons (λ (n : ℕ). n) next above in
    omega (arith, all, is_next, higher next above is_next levels.2)

-- pages enough for so many pairs
pub enough : (pairs asked wanted most : ℕ) (map : MapValue) → asked ≡ min pairs (2 ^ 64 - 1)
    → ((leaves : ℕ) (above : List ℕ) → half * (leaves - 1) ≤ asked → AreLevels leaves above → leaves + sum above ≤ wanted)
    → asked < half * wanted → wanted ≤ most → most < 2 ^ 32 → min wanted most ≤ map.pages → HasPagesFor pairs map
enough pairs asked wanted most map asks room many less few has leaves above fits levels =
    let same : asked ≡ pairs = omega (arith, asks, many, less, few) in
    omega (arith, room leaves above (omega (arith, same, fits)) levels, has, less)

-- so many pairs don't fill half of each page
pub not_so_many : (pairs asked wanted most : ℕ) → asked ≡ min pairs (2 ^ 64 - 1) → asked < half * wanted → wanted ≤ most → most < 2 ^ 32
    → half * most ≤ pairs → ⊥
not_so_many pairs asked wanted most asks many less few fill = omega (arith, asks, many, less, few, fill)

-- as many pages are wanted for more pairs, or more
pub too_many : (pairs asked wanted : ℕ) (map : MapValue) → asked ≡ min pairs (2 ^ 64 - 1) → AreWantedFor asked wanted
    → map.config.pages < wanted → MayBeTooMany pairs map
too_many pairs asked wanted map asks (leaves, above, fits, levels, is) more =
    (wanted, (leaves, above, omega (arith, asks, fits), levels, is), more)

-- one level that is the root
pub wanted_at_root : (pages : ℕ) → pages ≤ 1 → 1 ≤ pages → AreWantedAbove pages 2
wanted_at_root pages few some = ([], omega arith, refl)

-- the next level, and those above it
pub wanted_above : (pages rest : ℕ) → 1 < pages → AreWantedAbove ((pages - 1) / 32 + 1) rest
    → AreWantedAbove pages ((pages - 1) / 32 + 1 + 1 + rest)
wanted_above pages rest many (above, levels, is) =
    let next : ℕ = (pages - 1) / 32 + 1 in
    let all : sum (next ∷ above) ≡ next + sum above = sum_by-cons (λ (n : ℕ). n) next above in
    (next ∷ above, (many, omega arith, levels), omega (arith, all, is))

-- a map that had all its pages when a fault was reported has them still
pub full_still : (one other : Option Fault) (old new : MapValue) → (one ≡ Some TableFull → HasAllPages old) → (other ≡ Some TableFull → HasAllPages new)
    → old.pages ≤ new.pages → new.config ≡ old.config → option_or one other ≡ Some TableFull → HasAllPages new
full_still None other old new first then more same is = then is
full_still (Some fault) other old new first then more same is = omega (arith, first is, more, ap (λ (c : Config). c.pages) same)
