-- A list while its items move by one place.
use Rattle.std.specs.Prelude.{ℕ, suc, ◌-◌, List, ◌++◌, length, take, drop}
use Rattle.std.specs.List.{remove}

-- the items from the place on stand one place further up, where the last one is lost
abbrev pub raised : {T : Type 0} → ℕ → List T → List T
raised place items = take (suc place) items ++ drop place (take (length items - 1) items)

-- the items after the place, up to the end, stand one place further down
abbrev pub lowered : {T : Type 0} → ℕ → ℕ → List T → List T
lowered place end items = take end (remove items place) ++ drop end items
