-- What fields of a slot tell: which page an id leads to, and whether a chain is there.
use Rattle.std.specs.Prelude.{◌≡◌, ℕ, ◌==◌, if◌then◌else◌, Option, Some, None}
use Rattle.std.proofs.Common.{arith}
use Rattle.bw_keys.specs.declared.page.Pid.{Pid}
use Rattle.bw_delta.specs.Records.{Records}
use Rattle.bw_step.specs.declared.view.Stage.{Stage}
use Rattle.bw_step.specs.Stages.{is_in_row}

-- the id of no page: a table has fewer
abbrev pub no_page : ℕ
no_page = 4294967295

abbrev pub link_in : ℕ → Option Pid
link_in id = if id == no_page then None else Some (record { 0 = id })

abbrev pub id_for : Option Pid → ℕ
id_for None = no_page
id_for (Some page) = page.0

-- the link by an id gives the id back
pub id_for-link_in : (id : ℕ) → id_for (link_in id) ≡ id
id_for-link_in id = grind arith

-- a page in a row has the chain, and any other slot has none
abbrev pub chain_there : Stage → Records → Option Records
chain_there stage chain = if is_in_row stage then Some chain else None
