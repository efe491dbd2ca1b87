-- Lists that begin or end with others.
use Rattle.std.specs.Prelude.{◌≡◌, ◌++◌, List, length, take}

-- the list begins with the front
abbrev pub BeginsWith : {Y : Type 0} → List Y → List Y → Type 0
BeginsWith list front = take (length front) list ≡ front

-- the list ends with the tail
abbrev pub EndsWith : {Y : Type 0} → List Y → List Y → Type 0
EndsWith {Y} list tail = (front : List Y) × (list ≡ front ++ tail)
