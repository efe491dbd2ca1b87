-- What readers, stamps and the writing end have seen of the published list, and the rule over it.
use Rattle.std.specs.Prelude.{◌≡◌, ℕ, List, fold}
use mathlib.Core.Option.{some}
use lib.ListN.{get_elem?}
use Rattle.logbook.specs.Pages.{Book}
use Rattle.bw_keys.specs.declared.config.Config.{Config}
use Rattle.bw_step.specs.Proposals.{Proposal}
use Rattle.bw_law.specs.Tables.{TableValue}
use Rattle.bw_snap.specs.declared.note.Note.{Note}
use Rattle.bw_snap.specs.Fronts.{Announced}
use Rattle.bw_snap.specs.Notes.{noted}
use Rattle.bw_snap.specs.Snapshots.{IsSnapshot, BeginsWith}

-- each view is a beginning of the list
abbrev pub AllBegin : List Proposal → List (List Proposal) → Type 0
AllBegin steps views =
    (seat : ℕ) (seen : List Proposal) → get_elem? views seat ≡ some seen → BeginsWith steps seen

-- the table is where its list leads, the list was announced,
-- and each view is a beginning of the list
abbrev pub Backs : Config → Book → TableValue → Announced → List (List Proposal) → Type 0
Backs config announcements table front views =
    IsSnapshot config front.list table × (front.announcements ≡ announcements)
    × AllBegin front.list views

-- whoever had seen the first list sees such a table: its list begins with that
-- one, and is what is seen from then on
abbrev pub SeesOn : Config → Book → List Proposal → TableValue → Announced → List Proposal → Type 0
SeesOn config announcements seen table front now =
    IsSnapshot config front.list table × (front.announcements ≡ announcements)
    × BeginsWith front.list seen × (now ≡ front.list)

-- the notes lead to a table that is where its list leads, and that list
-- was announced and begins with this one
abbrev pub Land : Config → Book → TableValue → Announced → List Note → Type 0
Land config announcements table front notes =
    let end = fold noted (table, front) notes in
    IsSnapshot config end.1.list end.0 × (end.1.announcements ≡ announcements)
    × BeginsWith end.1.list front.list
