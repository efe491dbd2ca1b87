-- The first of several reasons, in the order in which they are written.
use Rattle.std.specs.Prelude.{Bool, List, [], ◌∷◌, Option, Some, None, if◌then◌else◌}

-- the reason, where the test is true
abbrev pub when : {R : Type 0} → Bool → R → Option R
when test reason = if test then Some reason else None

-- the first of the reasons that there is
abbrev pub first_reason : {R : Type 0} → List (Option R) → Option R
first_reason [] = None
first_reason (None ∷ reasons) = first_reason reasons
first_reason (Some reason ∷ reasons) = Some reason
