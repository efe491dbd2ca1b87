-- Steps one after the other, and what the published copies absorb.
use Rattle.std.proofs.Common.{◌≡◌, List, [], ◌∷◌, ◌++◌, refl, ap, sym, ◌∙◌, subst, append_assoc, append-nil, None, fold, Option}
use Rattle.std.specs.Prelude.{is_none, if◌then◌else◌}
use Rattle.logbook.specs.Pages.{Book}
use Rattle.bw_keys.specs.declared.config.Config.{Config}
use Rattle.bw_step.specs.declared.refused.Refused.{Refused}
use Rattle.bw_step.specs.Proposals.{Proposal}
use Rattle.bw_step.specs.ProposalView.{proposal_of}
use Rattle.bw_law.specs.Refusals.{refusal}
use Rattle.bw_law.specs.Effects.{after}
use Rattle.bw_law.specs.Runs.{next_table, run}
use Rattle.bw_law.specs.Tables.{TableValue, new_table}
use Rattle.bw_keys.specs.declared.page.Pid.{Pid}
use Rattle.bw_step.specs.declared.action.Action.{Action as Held}
use Rattle.bw_snap.specs.declared.note.Note.{Note}
use Rattle.bw_snap.specs.declared.note.Note.TheVariants.{Step, Action, Mark}
use Rattle.bw_snap.specs.Ends.{IsBehind}
use Rattle.bw_snap.specs.Fronts.{Announced}
use Rattle.bw_snap.specs.Snapshots.{LeadTo, IsSnapshot, BeginsWith}
use Rattle.bw_table.specs.Actions.{steps_for}
use Rattle.bw_snap.specs.Notes.{noted, noted_steps, steps_of, table_with, held_notes}
use Rattle.bw_snap.proofs.Beginnings.{begins_and_goes_on, begins_itself}

pub leads_on : (a b c : TableValue) (xs ys : List Proposal) → LeadTo a xs b → LeadTo b ys c → LeadTo a (xs ++ ys) c
leads_on a b c [] ys r s = subst (λ (table : TableValue). LeadTo table ys c) r s
leads_on a b c (x ∷ xs) ys r s = (r.0, leads_on (after a x) b c xs ys r.1 s)

-- an accepted step is taken
is_taken : (table : TableValue) (step : Proposal) → refusal table step ≡ None → next_table table step ≡ after table step
is_taken table step accepted = ap (λ (o : Option Refused). if is_none o then after table step else table) accepted

-- steps that are each accepted are all taken
pub runs_to : (a b : TableValue) (xs : List Proposal) → LeadTo a xs b → run a xs ≡ b
runs_to a b [] r = sym r
runs_to a b (x ∷ xs) r = subst (λ (t : TableValue). run t xs ≡ b) (sym (is_taken a x r.0)) (runs_to (after a x) b xs r.1)

-- and the others lead on from where the first ones led
pub leads_from : (a c : TableValue) (xs ys : List Proposal) → LeadTo a (xs ++ ys) c → LeadTo (run a xs) ys c
leads_from a c [] ys r = r
leads_from a c (x ∷ xs) ys r = subst (λ (t : TableValue). LeadTo (run t xs) ys c) (sym (is_taken a x r.0)) (leads_from (after a x) c xs ys r.1)

-- where the first notes lead, the others go on
pub steps_of-append : (a b : TableValue) (notes more : List Note) → LeadTo a (steps_of a notes) b → steps_of a (notes ++ more) ≡ steps_of a notes ++ steps_of b more
steps_of-append a b [] more r = ap (λ (t : TableValue). steps_of t more) (sym r)
steps_of-append a b (note ∷ notes) more r =
    let steps = noted_steps a note in
    let rest = steps_of (run a steps) notes in
    ap (λ (l : List Proposal). steps ++ l) (steps_of-append (run a steps) b notes more (leads_from a b steps rest r)) ∙ sym (append_assoc steps rest (steps_of b more))

-- one more note stands after all, where nothing is held back
pub noted_behind : (log next since : List Note) (held : Option (Pid × Held)) (note : Note) → log ≡ since → held ≡ None → next ≡ log ++ note ∷ [] → next ++ held_notes held ≡ since ++ note ∷ []
noted_behind log next since held note all none is =
    ap (λ (h : Option (Pid × Held)). next ++ held_notes h) none ∙ (append-nil next ∙ (is ∙ ap (λ (l : List Note). l ++ note ∷ []) all))

-- a mark is no step
pub steps_of-mark : (a b : TableValue) (notes : List Note) (front : Announced) → LeadTo a (steps_of a notes) b → steps_of a (notes ++ Mark front ∷ []) ≡ steps_of a notes
steps_of-mark a b notes front r = steps_of-append a b notes (Mark front ∷ []) r ∙ append-nil (steps_of a notes)

-- steps that are each accepted are all taken, and the last mark stands
pub marked : (table end : TableValue) (from front : Announced) (notes : List Note) → LeadTo table (steps_of table notes) end → fold noted (table, from) (notes ++ Mark front ∷ []) ≡ (end, front)
marked table end from front [] r = ap (λ (t : TableValue). (t, front)) (sym r)
marked table end from front (Step step ∷ notes) r =
    let next = next_table table (proposal_of step) in
    marked next end from front notes (leads_from table end (proposal_of step ∷ []) (steps_of next notes) r)
marked table end from front (Action page action ∷ notes) r =
    let next = table_with table page action in
    marked next end from front notes (leads_from table end (steps_for table page.0 action) (steps_of next notes) r)
marked table end from front (Mark other ∷ notes) r = marked table end other front notes r

-- where what is pending ends with a mark of all of it, the copies end as the table where their list leads
pub lands : (config : Config) (table end : TableValue) (from front : Announced) (notes : List Note) (announcements : Book)
    → LeadTo table (steps_of table notes) end → IsSnapshot config from.list table → front ≡ record { list = from.list ++ steps_of table notes; announcements = announcements }
    → IsSnapshot config (fold noted (table, from) (notes ++ Mark front ∷ [])).1.list (fold noted (table, from) (notes ++ Mark front ∷ [])).0
    × ((fold noted (table, from) (notes ++ Mark front ∷ [])).1.announcements ≡ announcements)
    × BeginsWith (fold noted (table, from) (notes ++ Mark front ∷ [])).1.list from.list
lands config table end from front notes announcements leads snapshot is =
    subst (λ (shown : TableValue × Announced). IsSnapshot config shown.1.list shown.0 × (shown.1.announcements ≡ announcements) × BeginsWith shown.1.list from.list) (sym (marked table end from front notes leads))
    (subst (λ (f : Announced). IsSnapshot config f.list end × (f.announcements ≡ announcements) × BeginsWith f.list from.list) (sym is) (leads_on (new_table config) table end from.list (steps_of table notes) snapshot leads, refl, (steps_of table notes, refl)))

pub begins_with_more : (xs ys more : List Proposal) (seen : List Proposal) → BeginsWith (xs ++ ys) seen → BeginsWith (xs ++ (ys ++ more)) seen
begins_with_more xs ys more seen s = subst (λ (steps : List Proposal). BeginsWith steps seen) (append_assoc xs ys more) (begins_and_goes_on (xs ++ ys) more seen s)

module _ {config : Config} {announcements : Book} {published table : TableValue} {front announced : Announced} {seen : List Proposal} {notes : List Note} (behind : IsBehind config announcements published front seen notes table announced) where
  -- where more notes stand for these steps, these are pending after the others
  pub pending_on : (more : List Note) (steps : List Proposal) → steps_of table more ≡ steps → steps_of published (notes ++ more) ≡ steps_of published notes ++ steps
  pending_on more steps stand = steps_of-append published table notes more behind.leads ∙ ap (λ (l : List Proposal). steps_of published notes ++ l) stand

  -- and the copies lag behind the table to which the steps lead
  pub lags_on : (more : List Note) (steps : List Proposal) → steps_of table more ≡ steps → (new : TableValue) → LeadTo table steps new → IsBehind config announcements published front seen (notes ++ more) new announced
  lags_on more steps stand new leads =
      let pending = pending_on more steps stand in record {
        leads = rw pending (leads_on published table new (steps_of published notes) steps behind.leads leads);
        snapshot = behind.snapshot;
        begins = rw pending (begins_with_more front.list (steps_of published notes) steps announced.list behind.begins);
        front_named = behind.front_named;
        named = behind.named;
        seen_all = behind.seen_all;
      }

  module _ (now : Announced) (whole : now ≡ record { list = front.list ++ steps_of published notes; announcements = announcements }) where
    -- the whole list may be announced
    pub announced_whole : IsBehind config announcements published front seen notes table now
    announced_whole = record {
      leads = behind.leads;
      snapshot = behind.snapshot;
      begins = rw whole (begins_itself (front.list ++ steps_of published notes));
      front_named = behind.front_named;
      named = ap (λ (f : Announced). f.announcements) whole;
      seen_all = behind.seen_all;
    }

    -- once the table is published with it, nothing is pending
    pub published_whole : IsBehind config announcements table now (front.list ++ steps_of published notes) [] table now
    published_whole =
        rw whole (record {
          leads = refl;
          snapshot = leads_on (new_table config) published table front.list (steps_of published notes) behind.snapshot behind.leads;
          begins = ([], refl);
          front_named = refl;
          named = refl;
          seen_all = refl;
        })
