-- What the table answers to a step, and to a configuration.
use Rattle.std.specs.Prelude.{◌≡◌, List, Option, Some, None, Result, Ok, Err}
use Rattle.bw_keys.specs.declared.config.Config.{Config}
use Rattle.bw_keys.specs.Limits.{first_bad_field}
use Rattle.bw_keys.specs.Reasons.{first_reason}
use Rattle.bw_step.specs.declared.fault.Denied.{Denied}
use Rattle.bw_step.specs.declared.fault.Denied.TheVariants as denials
use Rattle.bw_step.specs.declared.refused.Refused.{Refused}
use Rattle.bw_table.specs.declared.fault.NewFault.{NewFault}
use Rattle.bw_table.specs.declared.fault.NewFault.TheVariants.{BadConfig, NoMemory}

-- fine, or the reason
abbrev pub fine_unless : Option Refused → Result (Unit {0}) Refused
fine_unless None = Ok tt
fine_unless (Some reason) = Err reason

-- the first of the reasons, or fine where there is none
abbrev pub AnswersFirst : List (Option Refused) → Result (Unit {0}) Refused → Type 0
AnswersFirst reasons result = result ≡ fine_unless (first_reason reasons)

-- the reason to refuse a step, or want of memory where there is none
abbrev pub IsDenialFor : Option Refused → Denied → Type 0
IsDenialFor reason (denials.Refused refused) = reason ≡ Some refused
IsDenialFor reason denials.NoMemory = reason ≡ None

-- the first bad field, or want of memory where there is none
abbrev pub IsNewFault : Config → NewFault → Type 0
IsNewFault config (BadConfig bad) = first_bad_field config ≡ Some bad.0
IsNewFault config NoMemory = first_bad_field config ≡ None
