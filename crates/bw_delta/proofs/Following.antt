-- Where the next key may stand.
use Rattle.std.proofs.Common.{ℕ, ◌+◌, Option, Some, None}

-- after the last key seen, or at the low where none was
abbrev pub next_from : ℕ → Option ℕ → ℕ
next_from low None = low
next_from low (Some last) = last + 1
