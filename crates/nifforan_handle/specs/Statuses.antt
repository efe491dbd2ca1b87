-- What settings mean, and the status of each fault.
use Rattle.std.specs.Prelude.{◌≡◌, ◌≢◌, ℕ, ◌-◌, ◌≤◌, Option, Some, None, slice_index}
use Rattle.bw_keys.specs.declared.config.Config.{Config}
use Rattle.bw_keys.specs.declared.config.Field.{Field}
use Rattle.bw_keys.specs.declared.config.Field.TheVariants.{Fanout, Chain, Pages, Tries}
use Rattle.bw_procedures.specs.declared.fault.Fault.{Fault}
use Rattle.bw_procedures.specs.declared.fault.Fault.TheVariants.{NoMemory, TableFull, TooTall, Worn, Contended}
use Rattle.nifforan_handle.specs.declared.settings.Settings.{Settings}
use Rattle.nifforan_handle.specs.declared.text.StatusText.{StatusText}
use Rattle.nifforan_handle.specs.declared.text.TheConstants.{TEXT_SIZE}
use Rattle.nifforan_handle.specs.declared.status.TheConstants.{BAD_FANOUT, BAD_CHAIN, BAD_PAGES, BAD_TRIES, NO_MEMORY, TABLE_FULL, TOO_TALL, WORN, CONTENDED, CLOSED, FROZEN, OK}

-- the configuration that C's settings are
abbrev pub config_of : Settings → Config
config_of s = record { fanout = s.fanout; chain = s.chain; pages = s.pages; tries = s.tries; first_version = s.first_version }

abbrev pub status_of_field : Field → ℕ
status_of_field Fanout = BAD_FANOUT
status_of_field Chain = BAD_CHAIN
status_of_field Pages = BAD_PAGES
status_of_field Tries = BAD_TRIES

abbrev pub status_of_fault : Fault → ℕ
status_of_fault NoMemory = NO_MEMORY
status_of_fault TableFull = TABLE_FULL
status_of_fault TooTall = TOO_TALL
status_of_fault Worn = WORN
status_of_fault Contended = CONTENDED

-- OK, or that of the fault
abbrev pub status_of : Option Fault → ℕ
status_of None = OK
status_of (Some fault) = status_of_fault fault

-- the statuses of faults are those from NO_MEMORY to CONTENDED
abbrev pub TellsFault : ℕ → Type 0
TellsFault status = (NO_MEMORY ≤ status) × (status ≤ CONTENDED)

-- what a call that changes a map answers: OK, CLOSED, FROZEN, or a fault
abbrev pub IsStatus : ℕ → Type 0
IsStatus status = status ≢ OK → status ≢ CLOSED → status ≢ FROZEN → TellsFault status

-- the last byte of the text's room is 0, so that each text ends in it
abbrev pub EndsWithZero : StatusText → Type 0
EndsWithZero it = slice_index it.text (TEXT_SIZE - 1) ≡ 0
