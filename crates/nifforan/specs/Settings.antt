-- What a map may be made by.
use Rattle.std.specs.Prelude.{◌≡◌, ℕ, Option, None, Some, if◌then◌else◌, min, nat_le, [], ◌∷◌}
use Rattle.bw_keys.specs.declared.config.Config.{Config}
use Rattle.bw_keys.specs.declared.config.Field.{Field}
use Rattle.bw_keys.specs.declared.config.Field.TheVariants.{Fanout, Chain, Pages, Tries}
use Rattle.bw_keys.specs.Limits.{is_out_of}
use Rattle.bw_keys.specs.Reasons.{when, first_reason}
use Rattle.bw_law.specs.declared.pages.TheConstants.{MAX_PAGES}
use Rattle.bw_table.specs.declared.fault.NewFault.{NewFault}
use Rattle.bw_table.specs.declared.fault.NewFault.TheVariants.{BadConfig, NoMemory}

-- the first field that is out of its range: a table's ranges, but that a map may have
-- as many pages as a table may come to have
abbrev pub first_bad_setting : Config → Option Field
first_bad_setting config =
    first_reason (
    when (is_out_of 4 64 config.fanout) Fanout
    ∷ when (is_out_of 1 32 config.chain) Chain
    ∷ when (is_out_of 8 MAX_PAGES config.pages) Pages
    ∷ when (is_out_of 1 1000 config.tries) Tries
    ∷ []
    )

-- the first bad field, or want of memory where there is none
abbrev pub IsMapFault : Config → NewFault → Type 0
IsMapFault config (BadConfig bad) = first_bad_setting config ≡ Some bad.0
IsMapFault config NoMemory = first_bad_setting config ≡ None

-- how many pages the table of a new map has that may have so many: none where they are too many
abbrev pub first_pages : ℕ → ℕ
first_pages most = if nat_le most MAX_PAGES then min most 8 else 0
