-- Every interleaving explains its table, so its trails and its map are a legal history.
use Rattle.std.proofs.Common.{◌≡◌, ◌<◌, ◌^◌, ℕ, zero, suc, true, List, [], ◌∷◌, length, Some, None, refl, arith, sym, ◌∙◌, ap, subst}
use Rattle.std.specs.Prelude.{replicate}
use Rattle.std.specs.List.{AllByRecursion}
use Rattle.bw_keys.specs.declared.config.Config.{Config}
use Rattle.bw_keys.specs.Limits.{first_bad_field}
use Rattle.bw_delta.specs.Entries.{at}
use Rattle.bw_step.specs.declared.receipt.Receipt.{Receipt}
use Rattle.bw_step.specs.Proposals.{Proposal}
use Rattle.bw_law.specs.Tables.{TableValue, Lawful}
use Rattle.bw_law.specs.Laws.{IsTheMap}
use Rattle.bw_law.specs.Refusals.{refusal}
use Rattle.bw_law.specs.Effects.{after, receipt_of, TakesStep}
use Rattle.bw_step.specs.declared.refused.Refused.{Refused}
use Rattle.bw_law.proofs.NewTable.{new_law}
use Rattle.std.specs.Prelude.{nat_le, nat_lt, ◌==◌}
use Rattle.std.proofs.lemmas.Bool.Decides.{nat_tests}
use Rattle.bw_keys.specs.Ranges.{end_of}
use Rattle.bw_step.specs.declared.receipt.Receipt.TheVariants.{Looked}
use Rattle.bw_step.specs.declared.view.Look.{Look}
use Rattle.bw_law.specs.Slots.{pairs_in}
use Rattle.bw_law.specs.Tables.{slot_at, number_of}
use Rattle.bw_law.specs.Laws.{IsLeafOf}
use Rattle.bw_law.proofs.Facts.{leaf_decides}
use Rattle.bw_table.specs.Views.{look_at}
use Rattle.bw_audit.specs.Replays.{IsLookAt}
use Rattle.bw_audit.specs.Changes.{all_changes}
use Rattle.bw_audit.specs.Legal.{AllRise, IsLegal, IsTrueReply}
use Rattle.bw_audit.specs.Replays.{World, DeedValue, proposes, looks, Turn, Does, add_receipts, LeadsTo, IsInterleaving, first_world, IsTurnOf, InterleavingLaw}
use Rattle.bw_audit.proofs.Adding.{all-map, added_length, none_added}
use Rattle.bw_audit.specs.Explained.{Explains, IsFine, IsFineTrail}
use Rattle.bw_audit.proofs.Explained.{same_options, step_keeps, look_keeps}

abbrev pub IsExplained : World → Type 0
IsExplained world = Explains world.table world.trails

-- the new table, with empty trails
no_changes : (workers : ℕ) → all_changes (replicate workers []) ≡ []
no_changes zero = refl
no_changes (suc workers) = no_changes workers

empty_fine : (workers : ℕ) → AllByRecursion (IsFineTrail []) (replicate workers [])
empty_fine zero = tt
empty_fine (suc workers) = ((tt, tt), empty_fine workers)

pub first_is_explained : (config : Config) (workers : ℕ) → first_bad_field config ≡ None → config.first_version < 2 ^ 64 → IsExplained (first_world config workers)
first_is_explained config workers good version =
    let new = new_law config good version in
    let e = no_changes workers in
    record {
      lawful = new.lawful;
      booked = new.booked;
      counted = ap length (sym e);
      numbers = λ m above within. absurd (omega (arith, above, within, ap length e));
      no_others = λ m above. rw e refl;
      fine = subst (λ cs. AllByRecursion (IsFineTrail cs) (replicate workers [])) (sym e) (empty_fine workers);
      left = λ key value. ((λ found. cc (found, e)), (λ maps. absurd (new.no_pairs key value maps)));
    }

-- an accepted step leads on, and so does a refused one
pub accepted_leads : (table : TableValue) (step : Proposal) (receipt : Receipt) (next : TableValue) (trails : List (List Receipt)) (worker : ℕ) → refusal table step ≡ None → TakesStep table step receipt next
    → LeadsTo (record { table = table; trails = trails }) (record { worker = worker; deed = proposes step }) (record { table = next; trails = add_receipts trails worker (receipt ∷ []) })
accepted_leads table step receipt next trails worker accepted takes = record {
  receipts = receipt ∷ [];
  does = (takes.leads ∙ rw accepted refl, ap (λ r. r ∷ []) takes.reported ∙ rw accepted refl);
  trails = refl;
}

pub refused_leads : (table : TableValue) (step : Proposal) (reason : Refused) (next : TableValue) (trails : List (List Receipt)) (worker : ℕ) → refusal table step ≡ Some reason → next ≡ table
    → LeadsTo (record { table = table; trails = trails }) (record { worker = worker; deed = proposes step }) (record { table = next; trails = trails })
refused_leads table step reason next trails worker refused same = record {
  receipts = [];
  does = (same ∙ rw refused refl, rw refused refl);
  trails = sym (none_added trails worker);
}

pub look_leads : (table : TableValue) (key : ℕ) (receipt : Receipt) (trails : List (List Receipt)) (worker : ℕ) → IsLookAt table key receipt
    → LeadsTo (record { table = table; trails = trails }) (record { worker = worker; deed = looks key }) (record { table = table; trails = add_receipts trails worker (receipt ∷ []) })
look_leads table key receipt trails worker look = record { receipts = receipt ∷ []; does = (refl, (receipt, refl, look)); trails = refl }

-- a turn of one of the workers
module _ (table : TableValue) (trails : List (List Receipt)) (is : Explains table trails) (worker : ℕ) (inside : worker < length trails) where
  pub step_turn_keeps : (step : Proposal) (next : TableValue) (receipts : List Receipt) → Does table (proposes step) next receipts → Explains next (add_receipts trails worker receipts)
  step_turn_keeps step next receipts does =
      elim (refusal table step) as (λ o. refusal table step ≡ o → Explains next (add_receipts trails worker receipts)) [
        | None ↦ λ accepted.
            let n : next ≡ after table step = does.0 ∙ rw accepted refl in
            let rs : receipts ≡ receipt_of table step ∷ [] = does.1 ∙ rw accepted refl in
            rw (n, rs) (step_keeps table trails is worker inside step accepted)
        | Some reason ↦ λ refused.
            let n : next ≡ table = does.0 ∙ rw refused refl in
            let rs : receipts ≡ [] = does.1 ∙ rw refused refl in
            rw (n, rs, none_added trails worker) is
      ] refl

  pub look_turn_keeps : (key : ℕ) (next : TableValue) (receipts : List Receipt) → Does table (looks key) next receipts → Explains next (add_receipts trails worker receipts)
  look_turn_keeps key next receipts does = rw (does.0, does.1.1) (look_keeps table trails is worker inside key does.1.0 does.1.2)

  pub turn_keeps : (deed : DeedValue) (next : TableValue) (receipts : List Receipt) → Does table deed next receipts → Explains next (add_receipts trails worker receipts)
  turn_keeps (proposes step) next receipts does = step_turn_keeps step next receipts does
  turn_keeps (looks key) next receipts does = look_turn_keeps key next receipts does

pub leads_keeps : (world : World) (turn : Turn) (next : World) → IsExplained world → turn.worker < length world.trails → LeadsTo world turn next → IsExplained next
leads_keeps world turn next is inside leads =
    subst (Explains next.table) (sym leads.trails) (turn_keeps world.table world.trails is turn.worker inside turn.deed next.table leads.receipts leads.does)

pub leads_length : (world : World) (turn : Turn) (next : World) → LeadsTo world turn next → length next.trails ≡ length world.trails
leads_length world turn next leads = ap length leads.trails ∙ added_length world.trails turn.worker leads.receipts

pub turns_keep : (workers : ℕ) (world : World) (turns : List Turn) (last : World) → IsExplained world → length world.trails ≡ workers → AllByRecursion (IsTurnOf workers) turns
    → IsInterleaving world turns last → IsExplained last
turns_keep workers world [] last is count all path = subst IsExplained (sym path) is
turns_keep workers world (turn ∷ turns) last is count all path =
    let next = path.0 in
    turns_keep workers next turns last (leads_keeps world turn next is (omega (arith, count, all.0)) path.1) (leads_length world turn next path.1 ∙ count) all.1 path.2

-- what explains a table is a legal history
pub explained_is_legal : (table : TableValue) (trails : List (List Receipt)) (pairs : List (ℕ × ℕ)) → Explains table trails → IsTheMap table pairs → IsLegal trails pairs
explained_is_legal table trails pairs is map =
    let cs = all_changes trails in
    record {
      numbers = is.numbers;
      replies = all-map (IsFineTrail cs) (AllByRecursion (IsTrueReply cs)) trails (λ t fine. all-map (IsFine cs) (IsTrueReply cs) t (λ r one. one.1) fine.0) is.fine;
      in_order = all-map (IsFineTrail cs) (AllRise 0) trails (λ t fine. fine.1) is.fine;
      left = λ key. same_options _ _ (λ value. ((λ found. (map.same key value).1 ((is.left key value).0 found)), (λ found. (is.left key value).1 ((map.same key value).0 found))));
    }

trails_length : (workers : ℕ) → length (replicate {A = List Receipt} workers []) ≡ workers
trails_length zero = refl
trails_length (suc workers) = ap suc (trails_length workers)

pub interleaving_law : InterleavingLaw
interleaving_law config workers turns last good version all path pairs map =
    explained_is_legal last.table last.trails pairs
    (turns_keep workers (first_world config workers) turns last (first_is_explained config workers good version) (trails_length workers) all path) map

look_open : (table : TableValue) (key page : ℕ) → IsLeafOf table key page → look_at table page key ≡ Some (record { found = at key (pairs_in (slot_at table page)); at = number_of table.book })
look_open table key page leaf =
    let level : ((slot_at table page).level == 0) ≡ true = rw leaf.is_leaf refl in
    let low : nat_le (slot_at table page).low key ≡ true = grind (arith, nat_tests, leaf.spans.0) in
    let high : nat_lt key (end_of (slot_at table page).high) ≡ true = grind (arith, nat_tests, leaf.spans.1) in
    rw (leaf.in_row, level, low, high) refl

-- the leaf whose range holds the key shows what the map has there
pub look_is : (table : TableValue) (key page : ℕ) (look : Look) → Lawful table → IsLeafOf table key page → look_at table page key ≡ Some look → IsLookAt table key (Looked look.at key look.found)
look_is table key page look lawful leaf seen =
    let answers : look_at table page key ≡ Some (record { found = at key (pairs_in (slot_at table page)); at = number_of table.book }) = look_open table key page leaf in
    let same : look ≡ record { found = at key (pairs_in (slot_at table page)); at = number_of table.book } = cc (seen, answers) in
    record {
      found = look.found;
      reported = ap (λ l. Looked l.at key look.found) same;
      is_there = λ value.
          let decides = leaf_decides table lawful page key value leaf.in_row leaf.is_leaf leaf.spans in
          let there : look.found ≡ at key (pairs_in (slot_at table page)) = ap (λ l. l.found) same in
          ((λ found. decides.1 (sym there ∙ found)), (λ maps. there ∙ decides.0 maps));
    }
