-- The ranges of a configuration.
use Rattle.std.specs.Prelude.{ℕ, Bool, ◌&&◌, not, nat_le, List, [], ◌∷◌, Option}
use Rattle.bw_keys.specs.Reasons.{when, first_reason}
use Rattle.bw_keys.specs.declared.config.Config.{Config}
use Rattle.bw_keys.specs.declared.config.Field.{Field}
use Rattle.bw_keys.specs.declared.config.Field.TheVariants.{Fanout, Chain, Pages, Tries}

-- outside the numbers from low to high, both included
abbrev pub is_out_of : ℕ → ℕ → ℕ → Bool
is_out_of low high n = not (nat_le low n && nat_le n high)

-- a reason for each field that is out of its range, in the order of the fields
abbrev pub field_reasons : Config → List (Option Field)
field_reasons config =
    when (is_out_of 4 64 config.fanout) Fanout
    ∷ when (is_out_of 1 32 config.chain) Chain
    ∷ when (is_out_of 8 65536 config.pages) Pages
    ∷ when (is_out_of 1 1000 config.tries) Tries
    ∷ []

abbrev pub first_bad_field : Config → Option Field
first_bad_field config = first_reason (field_reasons config)

abbrev pub usual_config : Config
usual_config = record { fanout = 64; chain = 1; pages = 16384; tries = 1000; first_version = 0 }

-- the usual configuration, but for that number of pages
abbrev pub usual_with : ℕ → Config
usual_with pages = record usual_config { pages = pages }
