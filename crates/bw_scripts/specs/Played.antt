-- Tables to which a script leads.
use Rattle.std.specs.Prelude.{◌≡◌, ℕ, List, None, ◌+◌, ◌^◌, ◌-◌, min}
use Rattle.bw_keys.specs.declared.config.Config.{Config}
use Rattle.bw_keys.specs.Limits.{first_bad_field}
use Rattle.bw_step.specs.Proposals.{Proposal}
use Rattle.bw_law.specs.Runs.{run}
use Rattle.bw_law.specs.Tables.{TableValue, new_table}

-- a table that proposed steps have made of a new one
abbrev pub IsPlayed : TableValue → Type 0
IsPlayed table = (config : Config) × (steps : List Proposal) × (first_bad_field config ≡ None) × (run (new_table config) steps ≡ table)

-- one line more, of as many as are counted
abbrev pub one_more : ℕ → ℕ
one_more lines = min (lines + 1) (2 ^ 64 - 1)
