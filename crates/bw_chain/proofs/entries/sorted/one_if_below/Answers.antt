use Rattle.std.proofs.Common.{◌≡◌, ◌<◌, ◌-◌, min, ℕ, Bool, arith}
use Rattle.std.specs.Prelude.{IsTrue, ◌↔◌}
use mir.Val.{bool_byte}
use Rattle.bw_chain.proofs.entries.sorted.one_if_below.Goals as goal

counts : (b : Bool) (one place count : ℕ) → one ≡ bool_byte b → (IsTrue b ↔ (place < count)) → one ≡ min (count - place) 1
counts b one place count is tells = grind arith

pub returns : goal.returns
returns g c = counts _ _ _ _ c.from.ensures c.is_below.ensures
