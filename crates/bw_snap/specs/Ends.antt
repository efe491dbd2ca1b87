-- What a clause reads of the writing end of the published pair.
use Rattle.std.specs.Prelude.{◌≡◌, Bool, List, [], ◌∷◌, ◌++◌, drop, fold, Option, Result, MatchBool, MatchResult}
use Rattle.left_right.specs.Sides.{view}
use Rattle.left_right.specs.declared.Absorb.{Ghosts}
use Rattle.left_right.specs.declared.writer.Writer.{Writer}
use Rattle.logbook.specs.Pages.{Book}
use Rattle.bw_keys.specs.declared.config.Config.{Config}
use Rattle.bw_step.specs.Proposals.{Proposal}
use Rattle.bw_law.specs.Tables.{TableValue}
use Rattle.bw_keys.specs.declared.page.Pid.{Pid}
use Rattle.bw_step.specs.declared.action.Action.{Action}
use Rattle.bw_snap.specs.declared.note.Note.{Note}
use Rattle.bw_snap.specs.declared.shown.Shown.{Shown}
use Rattle.bw_snap.specs.Fronts.{Announced}
use Rattle.bw_snap.specs.Notes.{noted, steps_of, held_notes}
use Rattle.bw_snap.specs.Snapshots.{LeadTo, IsSnapshot, BeginsWith}
use Rattle.bw_snap.specs.Trees.{PublishedValue}
use Rattle.bw_snap.specs.Views.{Land}

-- the front became this one where the test holds, and stayed as it was where not
abbrev pub Becomes : Bool → Announced → Announced → Announced → Type 0
Becomes test old new front = MatchBool test (new ≡ front) (new ≡ old)

-- the note was put after the others, or nothing was
abbrev pub Appends : {E : Type 0} → Note → List Note → List Note → Result (Unit {0}) E → Type 0
Appends note old new result = MatchResult result (λ _. new ≡ old ++ note ∷ []) (λ _. new ≡ old)

-- the notes lead from the published table to the locked one, the published list to the published
-- table, and the list that was announced is a beginning of both together
pub record IsBehind (config : Config) (announcements : Book) (published : TableValue)
    (front : Announced) (seen : List Proposal) (notes : List Note) (table : TableValue)
    (announced : Announced) : Type 0 where
  pub leads : LeadTo published (steps_of published notes) table
  pub snapshot : IsSnapshot config front.list published
  pub begins : BeginsWith (front.list ++ steps_of published notes) announced.list
  pub front_named : front.announcements ≡ announcements
  pub named : announced.announcements ≡ announcements
  pub seen_all : seen ≡ front.list

module _ {P A S : Type 0} {g : Ghosts Shown Note S} where
  -- the notes that the published table hasn't absorbed
  abbrev pub unpublished : Writer Shown Note (List Proposal) P A S g → List Note
  unpublished w = drop w.behind w.log.items

  -- the steps that these notes stand for, and the list that shows them:
  -- the published one with them after it
  abbrev pub steps_behind : Writer Shown Note (List Proposal) P A S g → List Note → List Proposal
  steps_behind w notes = steps_of w.desk.shown.value.table notes

  abbrev pub list_behind : Writer Shown Note (List Proposal) P A S g → List Note → List Proposal
  list_behind w notes = w.desk.shown.value.front.list ++ steps_behind w notes

  -- the list that the next publication shows
  abbrev pub next_list : Writer Shown Note (List Proposal) P A S g → List Proposal
  next_list w = list_behind w (unpublished w)

  -- the notes that the published table hasn't absorbed, with the one that is held back
  abbrev pub noted_since : Writer Shown Note (List Proposal) P A S g → Option (Pid × Action) → List Note
  noted_since w held = unpublished w ++ held_notes held

  -- the front of that list, once it is announced here
  abbrev pub next_front : Book → Writer Shown Note (List Proposal) P A S g → Announced
  next_front announcements w = record { list = next_list w; announcements = announcements }

  -- the published pair shows what the unpublished notes lead to, and the writing end has seen it
  abbrev pub Publishes : Writer Shown Note (List Proposal) P A S g
      → Writer Shown Note (List Proposal) P A S g → Type 0
  Publishes old new =
      let end =
      fold noted (old.desk.shown.value.table, old.desk.shown.value.front) (unpublished old) in
      (new.desk.shown.value.table ≡ end.0) × (new.desk.shown.value.front ≡ end.1)
      × (unpublished new ≡ []) × (view new.desk.place ≡ end.1.list)

  -- the published pair and the notes are as they were, and the writing end has seen no more
  abbrev pub IsUnpublished : Writer Shown Note (List Proposal) P A S g
      → Writer Shown Note (List Proposal) P A S g → Type 0
  IsUnpublished old new =
      (new.desk.shown.value ≡ old.desk.shown.value) × (unpublished new ≡ unpublished old)
      × (view new.desk.place ≡ view old.desk.place)

  -- the unpublished notes lead to a table that is where its list leads
  abbrev pub MayPublish : Config → Book → Writer Shown Note (List Proposal) P A S g → Type 0
  MayPublish config announcements w =
      Land config announcements w.desk.shown.value.table w.desk.shown.value.front (unpublished w)

  -- the published copies are behind the table by the notes
  abbrev pub LagsBehind : Config → Book → Writer Shown Note (List Proposal) P A S g
      → Option (Pid × Action) → TableValue → Announced → Type 0
  LagsBehind config announcements w held table announced =
      let shown = w.desk.shown.value in
      IsBehind config announcements shown.table shown.front (view w.desk.place) (noted_since w held)
      table announced

  -- a table beside the writing end that publishes it
  abbrev pub published_value : TableValue → Writer Shown Note (List Proposal) P A S g
      → Option (Pid × Action) → PublishedValue
  published_value table w held =
      record {
        table = table;
        published = w.desk.shown.value.table;
        pending = steps_behind w (noted_since w held);
        list = w.desk.shown.value.front.list;
      }
