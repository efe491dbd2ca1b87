-- What a handle owns.
use Rattle.std.specs.Prelude.{◌≡◌, Bool, true, false}
use base.Fml.{Fml, ftrue, fex}
use base.Stored.{Coded}
use denote.RattleType.{RattleType}
use denote.RawPtr.{Ptr, null_ptr}
use Rattle.std.specs.declared.alloc.Global.{Global}
use Rattle.std.specs.contracts.impls.GlobalAllocator.TheImpl.{ghosts}
use Rattle.std_alloc.specs.Box.Ownership.{box_owns}
use Rattle.nifforan_handle.specs.contracts.held.Held as held
use Rattle.nifforan_handle.specs.declared.held.Held.TheVariants.{Closed}

-- what a box of the machine's memory owns: the value x of the type R at p, and the right to free its block
abbrev pub boxed : (R : RattleType) → Ptr → R.Denot → Fml
boxed R p x = fex Global (λ alloc. box_owns (ghosts.dealloc_token alloc) R p x)

-- null stands for the value `none`; otherwise the value lies in a box
abbrev pub null_or_boxed : (R : RattleType) → R.Denot → Ptr → R.Denot → Bool → Fml
null_or_boxed R none p x true = fex (p ≡ null_ptr) (λ _. fex (x ≡ none) (λ _. ftrue))
null_or_boxed R none p x false = boxed R p x

-- what a handle holds, as a type
abbrev pub held_row : RattleType
held_row = held.the_row

abbrev pub held_code : Coded held_row.Denot
held_code = held_row.coded

abbrev pub held_at : Ptr → held_row.Denot → Fml
held_at p x = fex Bool (null_or_boxed held_row Closed p x)
