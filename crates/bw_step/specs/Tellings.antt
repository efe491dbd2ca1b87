-- What a receipt reports. Trails, shares, histories and runs go by it.
use Rattle.std.specs.Prelude.{ℕ, List, [], ◌∷◌, ◌++◌, Option, Some, None}
use Rattle.bw_step.specs.declared.receipt.Receipt.{Receipt}
use Rattle.bw_step.specs.declared.receipt.Receipt.TheVariants.{Inserted, Deleted, Modified, Looked, Shaped}

-- A receipt reports the change of a key, with its number and with what the key had before it
-- and has after it; or a look, with the number of the changes that it saw and with what it
-- found; or a step of the tree's shape.
pub data Telling : Type 0 where
  change : (number key : ℕ) (before after : Option ℕ) → Telling
  look : (at key : ℕ) (found : Option ℕ) → Telling
  shape : Telling

abbrev pub telling_of : Receipt → Telling
telling_of (Inserted number key value) = change number key None (Some value)
telling_of (Deleted number key value) = change number key (Some value) None
telling_of (Modified number key old value) = change number key (Some old) (Some value)
telling_of (Looked at key found) = look at key found
telling_of (Shaped kind page other) = shape

-- what is reported to a caller: how a key changed, or what it was found to have
pub data Reported : Type 0 where
  changed : (key : ℕ) (before after : Option ℕ) → Reported
  looked : (key : ℕ) (value : Option ℕ) → Reported

-- a change of the shape is reported to no caller
abbrev pub reported_by : Telling → List Reported
reported_by (change number key before after) = changed key before after ∷ []
reported_by (look at key found) = looked key found ∷ []
reported_by shape = []

-- what the receipts report to callers, in their order
abbrev pub reported_in : List Receipt → List Reported
reported_in [] = []
reported_in (receipt ∷ rest) = reported_by (telling_of receipt) ++ reported_in rest

-- the receipt, unless it is of a change of the shape
abbrev pub unless_shape : Receipt → Telling → List Receipt
unless_shape receipt (change number key before after) = receipt ∷ []
unless_shape receipt (look at key found) = receipt ∷ []
unless_shape receipt shape = []

-- the receipts that report more than the tree's shape, in their order
abbrev pub without_shapes : List Receipt → List Receipt
without_shapes [] = []
without_shapes (receipt ∷ rest) = unless_shape receipt (telling_of receipt) ++ without_shapes rest
