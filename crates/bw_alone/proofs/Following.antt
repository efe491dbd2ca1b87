-- Each step that a table takes leads by its receipt from the map before it to the map after it, and so does each look.
use Rattle.std.proofs.Common.{◌≡◌, ℕ, true, false, if◌then◌else◌, List, [], ◌∷◌, ◌++◌, Option, Some, None, refl, sym, ◌∙◌, ap, subst, arith}
use Rattle.std.specs.Prelude.{◌&&◌, Bool}
use Rattle.std.proofs.lemmas.Bool.Decides.{nat_tests}
use Rattle.bw_keys.specs.Ranges.{is_within}
use Rattle.bw_delta.specs.Entries.{at}
use Rattle.bw_step.specs.declared.receipt.Receipt.{Receipt}
use Rattle.bw_step.specs.declared.receipt.Receipt.TheVariants.{Looked}
use Rattle.bw_step.specs.declared.view.Look.{Look}
use Rattle.bw_step.specs.declared.survey.Book.{Book}
use Rattle.bw_step.specs.Stages.{is_in_row}
use Rattle.bw_step.specs.Proposals.{Proposal}
use Rattle.bw_step.specs.Tellings.{Telling, change, look as looked, shape, telling_of}
use Rattle.bw_law.specs.Slots.{pairs_in}
use Rattle.bw_law.specs.Tables.{TableValue, slot_at, number_of, book_with, Lawful, Booked, is_leaf_in_row}
use Rattle.bw_law.specs.Laws.{KeptBy}
use Rattle.bw_law.specs.Refusals.{refusal}
use Rattle.bw_law.specs.Effects.{after, receipt_of, TakesStep}
use Rattle.bw_law.proofs.AllSteps.{step_law, IsNext, step_is_next}
use Rattle.bw_law.proofs.Accepted.{Holds}
use Rattle.bw_law.proofs.Facts.{leaf_decides}
use Rattle.bw_table.specs.Views.{look_at}
use Rattle.bw_procedures.specs.declared.steps.Keep.{Keep}
use Rattle.bw_procedures.specs.Seen.{is_kept, trail_after_look}
use Rattle.bw_alone.specs.Leading.{BearsNumber, Tells, Leads, leads_stay}

-- the next change bears the number that the book has with it
bears_number : (book : Book) (reported : Telling) → IsNext book reported → BearsNumber reported (book_with book reported)
bears_number book (change number key before after) next = sym next.1
bears_number book (looked at key found) next = absurd next
bears_number book shape next = tt

-- what an accepted step makes of the table is what its receipt reports
step_tells : (table : TableValue) (step : Proposal) → KeptBy table step → Tells (receipt_of table step) table (after table step)
step_tells table step kept = record { map = kept.map; book = refl; number = bears_number table.book (telling_of (receipt_of table step)) (step_is_next table step) }

-- a receipt that reports what the one table became leads from the one to the other
pub leads_by : (old new : TableValue) (trail : List Receipt) (receipt : Receipt) → Tells receipt old new → Leads old trail new (trail ++ receipt ∷ [])
leads_by old new trail receipt tells = (receipt ∷ [], refl, (new, tells, refl))

pub step_leads : (old : TableValue) (step : Proposal) (receipt : Receipt) (new : TableValue) (trail : List Receipt) → Lawful old → Booked old → refusal old step ≡ None → TakesStep old step receipt new
    → Leads old trail new (trail ++ receipt ∷ [])
step_leads old step receipt new trail law booked accepted takes =
    leads_by old new trail receipt
    (subst (λ r. Tells r old new) (sym takes.reported)
    (subst (λ t. Tells (receipt_of old step) old t) (sym takes.leads) (step_tells old step (step_law old step law booked accepted))))

-- a look is answered where the page is a leaf in its row whose range holds the key
pub record IsOpen (table : TableValue) (page key : ℕ) (look : Look) : Type 0 where
  pub in_row : is_in_row (slot_at table page).stage ≡ true
  pub is_leaf : (slot_at table page).level ≡ 0
  pub holds : Holds (slot_at table page) key
  pub found : look.found ≡ at key (pairs_in (slot_at table page))
  pub number : look.at ≡ number_of table.book

look_opens : (table : TableValue) (page key : ℕ) (look : Look) → look_at table page key ≡ Some look → IsOpen table page key look
look_opens table page key look seen = by_test (is_leaf_in_row (slot_at table page) && is_within (slot_at table page).low (slot_at table page).high key) refl
  where
    by_test : (test : Bool) → (is_leaf_in_row (slot_at table page) && is_within (slot_at table page).low (slot_at table page).high key) ≡ test → IsOpen table page key look
    by_test true opened = record {
      in_row = grind (arith, nat_tests, opened);
      is_leaf = grind (arith, nat_tests, opened);
      holds = (grind (arith, nat_tests, opened), grind (arith, nat_tests, opened));
      found = ap (λ (l : Look). l.found) answer;
      number = ap (λ (l : Look). l.at) answer;
    }
      where
        reported : Look
        reported = record { found = at key (pairs_in (slot_at table page)); at = number_of table.book }

        opens : look_at table page key ≡ Some reported
        opens = rw opened refl

        answer : look ≡ reported
        answer = cc (seen, opens)
    by_test false shut = let answer : look_at table page key ≡ None = rw shut refl in absurd (cc (seen, answer))

-- what is found in the leaf is what the map has
pub look_leads : (table : TableValue) (page key : ℕ) (look : Look) (trail : List Receipt) → Lawful table → look_at table page key ≡ Some look
    → Leads table trail table (trail ++ Looked look.at key look.found ∷ [])
look_leads table page key look trail law seen =
    let opened = look_opens table page key look seen in
    leads_by table table trail (Looked look.at key look.found) (record {
      map = (
        λ value.
            let decides = leaf_decides table law page key value opened.in_row opened.is_leaf opened.holds in
            ((λ found. decides.1 (sym opened.found ∙ found)), (λ maps. opened.found ∙ decides.0 maps)),
        λ k v. ((λ maps. maps), (λ maps. maps)),
      );
      book = refl;
      number = opened.number;
    })

kept_leads : (kept : Bool) (table : TableValue) (page key : ℕ) (look : Look) (trail : List Receipt) → Lawful table → look_at table page key ≡ Some look
    → Leads table trail table (if kept then trail ++ Looked look.at key look.found ∷ [] else trail)
kept_leads true table page key look trail law seen = look_leads table page key look trail law seen
kept_leads false table page key look trail law seen = leads_stay table trail

-- the trail after a look leads there, whether or not the look is kept
pub looks_lead : (table : TableValue) (page key : ℕ) (keep : Keep) (look : Option Look) (trail : List Receipt) → Lawful table → look_at table page key ≡ look
    → Leads table trail table (trail_after_look keep key look trail)
looks_lead table page key keep None trail law seen = leads_stay table trail
looks_lead table page key keep (Some look) trail law seen = kept_leads (is_kept keep look.found) table page key look trail law seen
