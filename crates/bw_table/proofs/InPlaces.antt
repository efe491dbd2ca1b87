-- A change made in place is a step and the consolidation after it.
use Rattle.std.proofs.Common.{◌≡◌, ◌≢◌, ℕ, suc, ◌+◌, ◌<◌, ◌≤◌, ◌^◌, Bool, true, false, eqb, cond, List, [], ◌∷◌, length, set, refl, ap, sym, subst, ◌∙◌, arith}
use Rattle.std.specs.Prelude.{Option, Some, None, Result, Ok, Err, OnOk, OnErr, is_ok, unwrap_or, nat_lt, nat_le}
use Rattle.std.proofs.lemmas.Bool.{eq-eqb}
use Rattle.std.proofs.lemmas.Bool.Decides.{nat_tests}
use Rattle.std.proofs.lemmas.List.{set-set, set-get_or}
use Rattle.bw_keys.specs.declared.page.TheConstants.{MAX_DEPTH}
use Rattle.bw_keys.specs.Reasons.{first_reason}
use Rattle.bw_keys.specs.declared.page.Pid.{Pid}
use Rattle.bw_delta.specs.declared.chain.Delta.{Delta}
use Rattle.bw_delta.specs.declared.chain.Delta.TheVariants as deltas
use Rattle.bw_delta.specs.declared.fences.Fences.{Fences}
use Rattle.bw_delta.specs.Entries.{at}
use Rattle.bw_delta.specs.Fence.{fences, is_leaf}
use Rattle.bw_delta.specs.Pages.{Page, Listed, pairs_of, routes_of, listed_from, listed_length, lists_pairs, upper_part}
use Rattle.bw_delta.specs.Records.{Records, bare, above, depth}
use Rattle.bw_delta.specs.Sound.{LiesIn, page_for, listed_for}
use Rattle.bw_keys.specs.declared.wished.Wished.{Wished}
use Rattle.bw_keys.specs.declared.wished.Wished.TheVariants as wishes
use Rattle.bw_chain.specs.InPlaces.{delta_for}
use Rattle.bw_step.specs.declared.action.Unperformed.{Unperformed}
use Rattle.bw_step.specs.declared.action.Unperformed.TheVariants.{Denied, StepByStep}
use Rattle.bw_step.specs.declared.fault.Denied.TheVariants as denials
use Rattle.bw_step.specs.declared.receipt.Receipt.{Receipt}
use Rattle.bw_step.specs.declared.receipt.Receipt.TheVariants.{Deleted, Modified, Looked, Shaped}
use Rattle.bw_step.specs.declared.receipt.Kind.TheVariants as kinds
use Rattle.bw_step.specs.declared.view.Stage.TheVariants.{Free, Posted}
use Rattle.bw_step.specs.Proposals.{Proposal, insert, delete, modify, consolidate, split, term_add}
use Rattle.bw_step.specs.Stages.{is_in_row}
use Rattle.bw_step.specs.Tellings.{Telling, change, look, shape, telling_of}
use Rattle.bw_law.specs.Effects.{TakesStep, lower_half, upper_half, with_record, with_stage, pid, consolidated, after, receipt_of}
use Rattle.bw_law.specs.Refusals.{last_id, all_but_last, new_id, is_other_kind, split_reasons, refusal, term_add_reasons, insert_reasons, found_reasons, consolidate_reasons}
use Rattle.bw_law.specs.Laws.{IsLeafOf}
use Rattle.bw_law.specs.Runs.{TakesInTurn}
use Rattle.bw_law.specs.Slots.{SlotValue, slot_in, chain_in, pairs_in, routes_in, empty_page, free_slot, last_number}
use Rattle.bw_law.specs.Tables.{TableValue, TellsMap, SameMap, slot_at, slot_fences, number_of, book_with, IsPageOf}
use Rattle.bw_law.proofs.Facts.{last_id_is_free, here_is_inside, leaf_count_fits, inner_count_fits, slots_are_few}
use Rattle.bw_law.proofs.SameTests.{same_page_tells}
use Rattle.bw_law.proofs.Slots.{slot_written, slot_kept}
use Rattle.bw_table.specs.InPlaces.{IsPostedLeaf, IsWhyUndone, HasNoTerm, MayChangeAtOnce, MayPost, MayPostAtOnce, MayCut, MaySplitAtOnce, TakesCut, slot_cut, TakesInPlace, TakesBoth, both_steps, LooksOrTakes, IsDoneAtOnce, IsPosted, count_after, slot_with, receipt_for, slots_posted_at_once, step_for}
use Rattle.bw_table.specs.Whole.{IsWhole}
use Rattle.bw_law.proofs.AllSteps.{step_law}
use Rattle.bw_table.proofs.Writes.{set-swap}
use Rattle.bw_table.proofs.Whole.{whole_after, found_is_mapped}

-- a step and the consolidation after it, with the table between
pub record TakesTwo (old : TableValue) (step : Proposal) (receipt : Receipt) (page : ℕ) (new : TableValue) : Type 0 where
  pub between : TableValue
  pub seen : ℕ
  pub base : Page
  pub accepted : refusal old step ≡ None
  pub changed : TakesStep old step receipt between
  pub still_accepted : refusal between (consolidate page seen base) ≡ None
  pub consolidated : TakesStep between (consolidate page seen base) (Shaped kinds.Consolidate (pid page) None) new

closed : (old : TableValue) (step : Proposal) (receipt : Receipt) (page : ℕ) (new : TableValue) → TakesTwo old step receipt page new → TakesBoth old step receipt page new
closed old step receipt page new two = record { seen = two.seen; base = two.base; takes = (two.between, two.accepted, two.changed, (new, two.still_accepted, two.consolidated, refl)) }

-- the first of steps that were taken in turn
record TakesFirst (old : TableValue) (step : Proposal) (receipt : Receipt) (rest : List (Proposal × Receipt)) (new : TableValue) : Type 0 where
  next : TableValue
  accepted : refusal old step ≡ None
  taken : TakesStep old step receipt next
  others : TakesInTurn next rest new

first_of : (old : TableValue) (step : Proposal) (receipt : Receipt) (rest : List (Proposal × Receipt)) (new : TableValue) → TakesInTurn old ((step, receipt) ∷ rest) new → TakesFirst old step receipt rest new
first_of old step receipt rest new turn = record { next = turn.0; accepted = turn.1; taken = turn.2; others = turn.3 }

opened : (old : TableValue) (step : Proposal) (receipt : Receipt) (page : ℕ) (new : TableValue) → TakesBoth old step receipt page new → TakesTwo old step receipt page new
opened old step receipt page new both =
    let consolidation : Proposal = consolidate page both.seen both.base in
    let reported : Receipt = Shaped kinds.Consolidate (pid page) None in
    let first = first_of old step receipt ((consolidation, reported) ∷ []) new both.takes in
    let second = first_of first.next consolidation reported [] new first.others in
    record {
      between = first.next;
      seen = both.seen;
      base = both.base;
      accepted = first.accepted;
      changed = first.taken;
      still_accepted = second.accepted;
      consolidated = subst (TakesStep first.next consolidation reported) (sym second.others) second.taken;
    }

not_full : (depth : ℕ) → depth ≤ 1 → nat_le MAX_DEPTH depth ≡ false
not_full depth shallow = grind (arith, nat_tests)

pub not_last : (n : ℕ) → n + 1 < 2 ^ 64 → eqb n last_number ≡ false
not_last n fits = grind (arith, nat_tests)

-- nothing speaks against the insertion of a key that a leaf with one record at most hasn't
insert_is_accepted : (slot : SlotValue) (number key : ℕ) → IsPostedLeaf slot key → slot.version + 2 < 2 ^ 64 → slot.depth ≤ 1 → number + 1 < 2 ^ 64 → at key (pairs_in slot) ≡ None
    → first_reason (insert_reasons slot number slot.version key) ≡ None
insert_is_accepted slot number key page version shallow fits none =
    rw (page.posted, eq-eqb slot.version slot.version refl, page.leaf, page.within, none, not_full slot.depth shallow, not_last slot.version (omega (arith, version)), not_last number fits) refl

-- nor against the change of one that it has
found_is_accepted : (slot : SlotValue) (number key had : ℕ) → IsPostedLeaf slot key → slot.version + 2 < 2 ^ 64 → slot.depth ≤ 1 → number + 1 < 2 ^ 64 → at key (pairs_in slot) ≡ Some had
    → first_reason (found_reasons slot number slot.version key) ≡ None
found_is_accepted slot number key had page version shallow fits found =
    rw (page.posted, eq-eqb slot.version slot.version refl, page.leaf, page.within, found, not_full slot.depth shallow, not_last slot.version (omega (arith, version)), not_last number fits) refl

-- nor against the consolidation of a posted page
pub consolidate_is_accepted : (slot : SlotValue) (base : Page) → slot.stage ≡ Posted → is_other_kind base slot ≡ false → slot.version + 1 < 2 ^ 64 → base ≡ page_for (chain_in slot) → first_reason (consolidate_reasons slot slot.version base) ≡ None
consolidate_is_accepted slot base posted kind fits same =
    rw (posted, eq-eqb slot.version slot.version refl, kind, same_page_tells base (page_for (chain_in slot)) same, not_last slot.version fits) refl

pub may_change : (table : TableValue) (page key : ℕ) → IsPostedLeaf (slot_at table page) key → (slot_at table page).version + 2 < 2 ^ 64 → number_of table.book + 1 < 2 ^ 64 → MayChangeAtOnce table page key
may_change table page key leaf version number = record { leaf = leaf; version = version; number = number }

-- a posted leaf whose range holds the key is the key's leaf
pub posted_leaf_is_its : (table : TableValue) (page key : ℕ) → IsPostedLeaf (slot_at table page) key → IsLeafOf table key page
posted_leaf_is_its table page key it =
    let within = it.within in
    record { in_row = ap is_in_row it.posted; is_leaf = it.leaf; spans = (grind (arith, nat_tests), grind (arith, nat_tests)) }

module _ {table : TableValue} {room : ℕ} (whole : IsWhole table room) {page key : ℕ} (may : MayChangeAtOnce table page key) where
  here : is_in_row (slot_at table page).stage ≡ true
  here = ap is_in_row may.leaf.posted

  pub leaf_is_inside : page < length table.slots
  leaf_is_inside = here_is_inside table whole.lawful page here

  chain_of : (chain : Records) × IsPageOf (slot_at table page) chain
  chain_of = whole.lawful.pages page here

  chain_is : chain_in (slot_at table page) ≡ chain_of.0
  chain_is = ap (λ (c : Option Records). unwrap_or c (bare empty_page)) chain_of.1.its_chain

  own_range_holds : LiesIn key (slot_fences (slot_at table page))
  own_range_holds = let within = may.leaf.within in record { from_low = grind (arith, nat_tests); below_high = grind (arith, nat_tests) }

  pub leaf_takes : TakesInPlace (slot_at table page) key
  leaf_takes =
      let Lies : Fences → Type 0 = λ f. LiesIn key f in record {
        version = may.version;
        count = omega (arith, leaf_count_fits table whole.lawful page whole.booked here may.leaf.leaf, may.number);
        within = subst Lies (chain_of.1.fence ∙ ap fences (sym chain_is)) own_range_holds;
      }

  -- the slot counts the records of its chain
  own_depth : depth (chain_in (slot_at table page)) ≤ 1 → (slot_at table page).depth ≤ 1
  own_depth shallow = let same = chain_of.1.depth ∙ ap depth (sym chain_is) in omega (arith, same, shallow)

  -- the slot with the record on top
  abbrev raised : Delta → SlotValue
  raised delta = with_record delta (count_after delta (slot_at table page).count) (slot_at table page)

  -- the base with the record taken in
  abbrev base_with : Delta → Page
  base_with delta = page_for (above delta (chain_in (slot_at table page)))

  -- the table with the slots and the receipt
  abbrev noted : List SlotValue → Receipt → TableValue
  noted slots receipt = record { slots = slots; free = table.free; root = table.root; book = book_with table.book (telling_of receipt); config = table.config }

  chain_raised : (delta : Delta) → chain_in (raised delta) ≡ above delta (chain_in (slot_at table page))
  chain_raised delta = rw chain_of.1.its_chain refl

  pub leaf_here : is_leaf (chain_in (slot_at table page)) ≡ true
  leaf_here = ap is_leaf chain_is ∙ chain_of.1.kind ∙ rw may.leaf.leaf refl

  is_leaf_still : (delta : Delta) → lists_pairs (base_with delta).listed ≡ true
  is_leaf_still delta = rw leaf_here refl

  -- a step that puts the record on the page, and the consolidation after it
  both : (step : Proposal) (delta : Delta) (receipt : Receipt) → refusal table step ≡ None → receipt ≡ receipt_of table step → after table step ≡ noted (set table.slots page (raised delta)) receipt
      → TakesBoth table step receipt page (noted (set table.slots page (slot_with (Some delta) (slot_at table page))) receipt)
  both step delta receipt accepted reported goes =
      let written : slot_in (set table.slots page (raised delta)) page ≡ raised delta = slot_written table.slots page (raised delta) leaf_is_inside in
      let base : Page = base_with delta in
      let seen : ℕ = suc (slot_at table page).version in
      let rises : seen + 1 < 2 ^ 64 = omega (arith, may.version) in
      let Accepts : SlotValue → Type 0 = λ s. first_reason (consolidate_reasons s seen base) ≡ None in
      let Fine : TableValue → Type 0 = λ t. refusal t (consolidate page seen base) ≡ None in
      let accepts : Accepts (raised delta) =
      consolidate_is_accepted (raised delta) base may.leaf.posted (rw (is_leaf_still delta, may.leaf.leaf) refl) rises (ap page_for (sym (chain_raised delta)))
      in
      closed table step receipt page (noted (set table.slots page (slot_with (Some delta) (slot_at table page))) receipt)
      (record {
        between = after table step;
        seen = seen;
        base = base;
        accepted = accepted;
        changed = record { leads = refl; reported = reported };
        still_accepted = subst Fine (sym goes) (subst Accepts (sym written) accepts);
        consolidated = record {
          leads =
              ap (λ (slots : List SlotValue). noted slots receipt)
              (sym (ap (λ (s : SlotValue). set (set table.slots page (raised delta)) page (consolidated base s)) written ∙ set-set table.slots page (raised delta) (consolidated base (raised delta))))
              ∙ ap (λ (t : TableValue). after t (consolidate page seen base)) (sym goes);
          reported = refl;
        };
      })

  -- what is noted where nothing is to be done is the table as it was
  nothing_noted : (number : ℕ) (had : Option ℕ) → noted (set table.slots page (slot_at table page)) (Looked number key had) ≡ table
  nothing_noted number had = ap (λ (slots : List SlotValue). noted slots (Looked number key had)) (set-get_or table.slots page (free_slot 0))

  abbrev reported : Option ℕ → Option Delta → Receipt
  reported had delta = receipt_for (number_of table.book) key had delta

  abbrev ComesTrue : Wished → Option ℕ → Option Delta → Type 0
  ComesTrue wished had delta =
      LooksOrTakes table page (Looked (number_of table.book) key had) (reported had delta) (noted (set table.slots page (slot_with delta (slot_at table page))) (reported had delta))
      (step_for page (slot_at table page).version key wished had)

  pub inserts : (value : ℕ) → (slot_at table page).depth ≤ 1 → None ≡ at key (pairs_in (slot_at table page)) → TakesBoth table (insert page (slot_at table page).version key value) (reported None (Some (deltas.Insert key value))) page (noted (set table.slots page (slot_with (Some (deltas.Insert key value)) (slot_at table page))) (reported None (Some (deltas.Insert key value))))
  inserts value shallow none =
      both (insert page (slot_at table page).version key value) (deltas.Insert key value) (reported None (Some (deltas.Insert key value)))
      (insert_is_accepted (slot_at table page) (number_of table.book) key may.leaf may.version shallow may.number (sym none)) refl refl

  comes_true : (wished : Wished) (had : Option ℕ) → (slot_at table page).depth ≤ 1 → had ≡ at key (pairs_in (slot_at table page)) → ComesTrue wished had (delta_for wished key had)
  comes_true (wishes.Put value) None shallow found = inserts value shallow found
  comes_true (wishes.Put value) (Some had) shallow found = (refl, nothing_noted (number_of table.book) (Some had))
  comes_true (wishes.Set value) None shallow found = inserts value shallow found
  comes_true (wishes.Set value) (Some had) shallow found =
      both (modify page (slot_at table page).version key value) (deltas.Modify key value) (reported (Some had) (Some (deltas.Modify key value)))
      (found_is_accepted (slot_at table page) (number_of table.book) key had may.leaf may.version shallow may.number (sym found))
      (ap (λ (o : Option ℕ). Modified (suc (number_of table.book)) key (unwrap_or o 0) value) found) refl
  comes_true wishes.Delete None shallow found = (refl, nothing_noted (number_of table.book) None)
  comes_true wishes.Delete (Some had) shallow found =
      both (delete page (slot_at table page).version key) (deltas.Delete key) (reported (Some had) (Some (deltas.Delete key)))
      (found_is_accepted (slot_at table page) (number_of table.book) key had may.leaf may.version shallow may.number (sym found))
      (ap (λ (o : Option ℕ). Deleted (suc (number_of table.book)) key (unwrap_or o 0)) found) refl

  -- what the code did is what was wished
  pub done_at_once : (wished : Wished) {had : Option ℕ} {delta : Option Delta} {slots : List SlotValue} {receipt : Receipt}
      → depth (chain_in (slot_at table page)) ≤ 1 → had ≡ at key (pairs_in (slot_at table page)) → delta ≡ delta_for wished key had → slots ≡ set table.slots page (slot_with delta (slot_at table page)) → receipt ≡ reported had delta
      → IsDoneAtOnce table page key wished receipt (noted slots receipt)
  done_at_once wished {had} {delta} {slots} {receipt} shallow found is slots_are receipt_is =
      let ByDelta : Option Delta → Type 0 = λ d. ComesTrue wished had d in
      let start : ComesTrue wished had delta = subst ByDelta (sym is) (comes_true wished had (own_depth shallow) found) in
      let ByReceipt : Receipt → Type 0 = λ r. LooksOrTakes table page (Looked (number_of table.book) key had) r (noted (set table.slots page (slot_with delta (slot_at table page))) r) (step_for page (slot_at table page).version key wished had) in
      let next : ByReceipt receipt = subst ByReceipt (sym receipt_is) start in
      let BySlots : List SlotValue → Type 0 = λ s. LooksOrTakes table page (Looked (number_of table.book) key had) receipt (noted s receipt) (step_for page (slot_at table page).version key wished had) in
      let third : BySlots slots = subst BySlots (sym slots_are) next in
      let ByHad : Option ℕ → Type 0 = λ o. LooksOrTakes table page (Looked (number_of table.book) key o) receipt (noted slots receipt) (step_for page (slot_at table page).version key wished o) in
      subst ByHad found third

-- the table is whole after steps that it took in turn
pub whole_in_turn : (table : TableValue) (room : ℕ) (steps : List (Proposal × Receipt)) (new : TableValue) → IsWhole table room → TakesInTurn table steps new → IsWhole new room
whole_in_turn table room [] new whole turn = let Whole : TableValue → Type 0 = λ t. IsWhole t room in subst Whole (sym turn) whole
whole_in_turn table room (taken ∷ rest) new whole turn =
    let Whole : TableValue → Type 0 = λ t. IsWhole t room in
    whole_in_turn turn.0 room rest new (subst Whole (sym turn.2.leads) (whole_after table taken.0 room whole turn.1)) turn.3

pub whole_both : (table : TableValue) (room page : ℕ) (receipt : Receipt) (new : TableValue) (step : Proposal) → IsWhole table room → TakesBoth table step receipt page new → IsWhole new room
whole_both table room page receipt new step whole both = whole_in_turn table room (both_steps step receipt page both.seen both.base) new whole both.takes

pub whole_at_once : (table : TableValue) (room page : ℕ) (seen receipt : Receipt) (new : TableValue) (step : Option Proposal) → IsWhole table room → LooksOrTakes table page seen receipt new step → IsWhole new room
whole_at_once table room page seen receipt new None whole looks = let Whole : TableValue → Type 0 = λ t. IsWhole t room in subst Whole (sym looks.1) whole
whole_at_once table room page seen receipt new (Some step) whole takes = whole_both table room page receipt new step whole takes

-- what is reported of two maps holds of the second's like
tells_then_same : (reported : Telling) (old between new : List SlotValue) → TellsMap reported old between → SameMap between new → TellsMap reported old new
tells_then_same (change number key before after) old between new tells same = record {
  had = tells.had;
  has = λ value. (λ is. (same key value).1 ((tells.has value).0 is), λ maps. (tells.has value).1 ((same key value).0 maps));
  others = λ k value other. (λ maps. (tells.others k value other).0 ((same k value).0 maps), λ maps. (same k value).1 ((tells.others k value other).1 maps));
}
tells_then_same (look number key found) old between new tells same =
    (tells.0, λ k value. (λ maps. (tells.1 k value).0 ((same k value).0 maps), λ maps. (same k value).1 ((tells.1 k value).1 maps)))
tells_then_same shape old between new tells same = λ k value. (λ maps. (tells k value).0 ((same k value).0 maps), λ maps. (same k value).1 ((tells k value).1 maps))

-- what is reported of a step is what it and the consolidation after it make of the map
pub tells_both : (table : TableValue) (room page : ℕ) (receipt : Receipt) (new : TableValue) (step : Proposal) → IsWhole table room
    → TakesBoth table step receipt page new → TellsMap (telling_of receipt) table.slots new.slots
tells_both table room page receipt new step whole both =
    let takes = opened table step receipt page new both in
    let first = step_law table step whole.lawful whole.booked takes.accepted in
    let Whole : TableValue → Type 0 = λ t. IsWhole t room in
    let between : IsWhole takes.between room = subst Whole (sym takes.changed.leads) (whole_after table step room whole takes.accepted) in
    let second = step_law takes.between (consolidate page takes.seen takes.base) between.lawful between.booked takes.still_accepted in
    let First : Receipt → TableValue → Type 0 = λ r t. TellsMap (telling_of r) table.slots t.slots in
    let reported : First receipt takes.between = subst (λ (r : Receipt). First r takes.between) (sym takes.changed.reported) (subst (λ (t : TableValue). First (receipt_of table step) t) (sym takes.changed.leads) first.map) in
    let same : SameMap takes.between.slots new.slots = subst (λ (t : TableValue). SameMap takes.between.slots t.slots) (sym takes.consolidated.leads) second.map in
    tells_then_same (telling_of receipt) table.slots takes.between.slots new.slots reported same

-- what is reported of it is what it makes of the map
pub tells_at_once : (table : TableValue) (room page key number : ℕ) (receipt : Receipt) (new : TableValue) (step : Option Proposal) → IsWhole table room → IsPostedLeaf (slot_at table page) key
    → LooksOrTakes table page (Looked number key (at key (pairs_in (slot_at table page)))) receipt new step → TellsMap (telling_of receipt) table.slots new.slots
tells_at_once table room page key number receipt new None whole leaf looks =
    let Tells : Receipt → TableValue → Type 0 = λ r t. TellsMap (telling_of r) table.slots t.slots in
    let maps : Tells (Looked number key (at key (pairs_in (slot_at table page)))) table =
    (found_is_mapped table page key whole.lawful (rw (leaf.posted, leaf.leaf) refl) leaf.within, λ k value. (λ maps. maps, λ maps. maps))
    in
    subst (λ (t : TableValue). Tells receipt t) (sym looks.1) (subst (λ (r : Receipt). Tells r table) (sym looks.0) maps)
tells_at_once table room page key number receipt new (Some step) whole leaf both = tells_both table room page receipt new step whole both

-- a step, and the consolidation of a page that it raised
two_steps : (table mid new : TableValue) (step : Proposal) (receipt : Receipt) (page : ℕ) (raised : SlotValue) (base : Page)
    → refusal table step ≡ None → receipt ≡ receipt_of table step → after table step ≡ mid → slot_at mid page ≡ raised → first_reason (consolidate_reasons raised raised.version base) ≡ None
    → new ≡ record mid { slots = set mid.slots page (consolidated base raised) } → TakesBoth table step receipt page new
two_steps table mid new step receipt page raised base accepted reported goes written accepts new_is =
    let Accepts : SlotValue → Type 0 = λ s. first_reason (consolidate_reasons s raised.version base) ≡ None in
    closed table step receipt page new (record {
      between = mid;
      seen = raised.version;
      base = base;
      accepted = accepted;
      changed = record { leads = sym goes; reported = reported };
      still_accepted = subst Accepts (sym written) accepts;
      consolidated = record { leads = new_is ∙ ap (λ (s : SlotValue). record mid { slots = set mid.slots page (consolidated base s) }) (sym written); reported = refl };
    })

-- nothing speaks against the term that a bare page takes
term_add_is_accepted : (over under : SlotValue) → MayPostAtOnce over under → at under.low (routes_in over) ≡ None → first_reason (term_add_reasons over under over.version under.version) ≡ None
term_add_is_accepted over under may absent =
    rw (
      may.over_posted,
      may.unposted,
      eq-eqb over.version over.version refl,
      eq-eqb under.version under.version refl,
      may.above,
      eq-eqb (under.level + 1) (under.level + 1) refl,
      may.within,
      absent,
      may.no_records,
      not_last over.version (omega (arith, may.version)),
      not_last under.version may.under_version,
    ) refl

module _ {table : TableValue} {room : ℕ} (whole : IsWhole table room) (parent child : ℕ) (may : MayPostAtOnce (slot_at table parent) (slot_at table child)) where
  over_here : is_in_row (slot_at table parent).stage ≡ true
  over_here = ap is_in_row may.over_posted

  pub parent_is_inside : parent < length table.slots
  parent_is_inside = here_is_inside table whole.lawful parent over_here

  pub child_is_inside : child < length table.slots
  child_is_inside = here_is_inside table whole.lawful child (ap is_in_row may.unposted)

  pub child_is_apart : child ≢ parent
  child_is_apart same = omega (arith, ap (λ (x : ℕ). (slot_at table x).level) same, may.above)

  over_chain : (chain : Records) × IsPageOf (slot_at table parent) chain
  over_chain = whole.lawful.pages parent over_here

  over_chain_is : chain_in (slot_at table parent) ≡ over_chain.0
  over_chain_is = ap (λ (c : Option Records). unwrap_or c (bare empty_page)) over_chain.1.its_chain

  low_in_range : LiesIn (slot_at table child).low (slot_fences (slot_at table parent))
  low_in_range = let within = may.within in record { from_low = grind (arith, nat_tests); below_high = grind (arith, nat_tests) }

  pub parent_takes : TakesInPlace (slot_at table parent) (slot_at table child).low
  parent_takes =
      let Lies : Fences → Type 0 = λ f. LiesIn (slot_at table child).low f in record {
        version = may.version;
        count = omega (arith, inner_count_fits table whole.lawful parent (slot_at table child).level over_here may.above, slots_are_few table whole.lawful);
        within = subst Lies (over_chain.1.fence ∙ ap fences (sym over_chain_is)) low_in_range;
      }

  abbrev term : Delta
  term = deltas.TermAdd (slot_at table child).low (pid child)

  abbrev over_raised : SlotValue
  over_raised = with_record term (suc (slot_at table parent).count) (slot_at table parent)

  abbrev over_base : Page
  over_base = page_for (above term (chain_in (slot_at table parent)))

  abbrev posting : TableValue
  posting = record table { slots = set (set table.slots parent over_raised) child (with_stage Posted (slot_at table child)) }

  pub posted_at_once : (slots : List SlotValue) → at (slot_at table child).low (routes_in (slot_at table parent)) ≡ None → is_leaf (chain_in (slot_at table parent)) ≡ false
      → slots ≡ set (set table.slots parent (slot_with (Some term) (slot_at table parent))) child (with_stage Posted (slot_at table child))
      → TakesBoth table (term_add parent (slot_at table parent).version child (slot_at table child).version) (receipt_of table (term_add parent (slot_at table parent).version child (slot_at table child).version)) parent (record table { slots = slots })
  posted_at_once slots absent inner slots_are =
      let step = term_add parent (slot_at table parent).version child (slot_at table child).version in
      let other : parent ≢ child = λ same. child_is_apart (sym same) in
      let written : slot_at posting parent ≡ over_raised =
      slot_kept (set table.slots parent over_raised) child (with_stage Posted (slot_at table child)) parent other ∙ slot_written table.slots parent over_raised parent_is_inside
      in
      let lists : lists_pairs over_base.listed ≡ false = rw inner refl in
      let chain_raised_is : chain_in over_raised ≡ above term (chain_in (slot_at table parent)) = rw over_chain.1.its_chain refl in
      let not_a_leaf : eqb (slot_at table parent).level 0 ≡ false = let up = may.above in grind (arith, nat_tests) in
      let rises : over_raised.version + 1 < 2 ^ 64 = omega (arith, may.version) in
      let accepts : first_reason (consolidate_reasons over_raised over_raised.version over_base) ≡ None =
      consolidate_is_accepted over_raised over_base may.over_posted (rw (lists, not_a_leaf) refl) rises (ap page_for (sym chain_raised_is))
      in
      let in_order : set posting.slots parent (consolidated over_base over_raised) ≡ set (set table.slots parent (slot_with (Some term) (slot_at table parent))) child (with_stage Posted (slot_at table child)) =
      set-swap (set table.slots parent over_raised) parent child (consolidated over_base over_raised) (with_stage Posted (slot_at table child)) child_is_apart
      ∙ ap (λ (s : List SlotValue). set s child (with_stage Posted (slot_at table child))) (set-set table.slots parent over_raised (consolidated over_base over_raised))
      in
      two_steps table posting (record table { slots = slots }) step (receipt_of table step) parent over_raised over_base
      (term_add_is_accepted (slot_at table parent) (slot_at table child) may absent) refl refl written accepts
      (ap (λ (s : List SlotValue). record table { slots = s }) (slots_are ∙ sym in_order))

  -- what the test of the parent's list decided
  pub posted_or_not : (done : Result (Unit {0}) Unperformed) (slots : List SlotValue)
      → OnOk done (HasNoTerm table.slots parent child) → OnOk done (is_leaf (chain_in (slot_at table parent)) ≡ false)
      → OnOk done (slots ≡ slots_posted_at_once parent (pid child) table.slots) → OnErr done (slots ≡ table.slots)
      → IsPosted table parent (pid child) (is_ok done) (record table { slots = slots })
  posted_or_not (Ok done) slots absent inner posted same = posted_at_once slots absent inner posted
  posted_or_not (Err why) slots absent inner posted same = ap (λ (s : List SlotValue). record table { slots = s }) same

  -- why it wasn't posted
  pub unposted_why : (why : Unperformed)
      → IsWhyUndone (HasNoTerm table.slots parent child) why → IsWhyUndone (MayPost table.slots parent child) why
  unposted_why StepByStep there = λ may. there may.absent
  unposted_why (Denied denials.NoMemory) absent = record { takes = may; absent = absent }
  unposted_why (Denied (denials.Refused reason)) never = never

pub whole_if_posted : (table : TableValue) (room parent : ℕ) (child : Pid) (done : Bool) (new : TableValue) → IsWhole table room → IsPosted table parent child done new → IsWhole new room
whole_if_posted table room parent child true new whole posted =
    whole_both table room parent (Shaped kinds.TermAdd (pid parent) (Some child)) new (term_add parent (slot_at table parent).version child.0 (slot_at table child.0).version) whole posted
whole_if_posted table room parent child false new whole posted = let Whole : TableValue → Type 0 = λ t. IsWhole t room in subst Whole (sym posted) whole

-- what a level's pages list
pub kind_fits : (leaf : Bool) (level : ℕ) → leaf ≡ eqb level 0 → cond leaf (nat_lt 0 level) (eqb level 0) ≡ false
kind_fits true level is = grind (arith, nat_tests)
kind_fits false level is = sym is

pub lists_as_the_chain : (chain : Records) → lists_pairs (page_for chain).listed ≡ is_leaf chain
lists_as_the_chain chain = by_kind (is_leaf chain)
  where
    by_kind : (leaf : Bool) → lists_pairs (listed_for leaf chain) ≡ leaf
    by_kind true = refl
    by_kind false = refl

-- a part of a page lists what the page does
pub upper_lists_alike : (separator : ℕ) (l : Listed) → lists_pairs (listed_from separator l) ≡ lists_pairs l
upper_lists_alike separator (pairs_of es) = refl
upper_lists_alike separator (routes_of es) = refl

split_is_accepted : (slot new : SlotValue) (leaving no_room : Bool) (separator : ℕ) (base : Page) → MayCut slot separator → leaving ≡ false → no_room ≡ false → new.version + 1 < 2 ^ 64
    → is_other_kind base slot ≡ false → base ≡ upper_part separator (page_for (chain_in slot)) → first_reason (split_reasons slot new leaving no_room slot.version separator base) ≡ None
split_is_accepted slot new leaving no_room separator base may staying room fits kind same =
    rw (
      may.posted,
      eq-eqb slot.version slot.version refl,
      kind,
      may.within,
      may.no_records,
      staying,
      may.good,
      same_page_tells base (upper_part separator (page_for (chain_in slot))) same,
      room,
      not_last slot.version (omega (arith, may.version)),
      not_last new.version fits,
    ) refl

module _ {table : TableValue} {room : ℕ} (whole : IsWhole table room) {page separator : ℕ} (may : MaySplitAtOnce table page separator) where
  split_here : is_in_row (slot_at table page).stage ≡ true
  split_here = ap is_in_row may.cut.posted

  pub split_is_inside : page < length table.slots
  split_is_inside = here_is_inside table whole.lawful page split_here

  new_is_free : (new_id table < length table.slots) × ((slot_at table (new_id table)).stage ≡ Free)
  new_is_free = last_id_is_free table whole.lawful (new_id table) may.room

  new_is_apart : new_id table ≢ page
  new_is_apart same = cc (ap (λ (x : ℕ). is_in_row (slot_at table x).stage) same, ap is_in_row new_is_free.1, split_here)

  id_is : (new : ℕ) → Some new ≡ last_id table.free → new_id table ≡ new
  id_is new is = sym (ap (λ (o : Option ℕ). unwrap_or o 0) is)

  pub new_is_inside : {new : ℕ} → Some new ≡ last_id table.free → new < length table.slots
  new_is_inside {new} is = let Inside : ℕ → Type 0 = λ n. n < length table.slots in subst Inside (id_is new is) new_is_free.0

  pub new_is_other : {new : ℕ} → Some new ≡ last_id table.free → new ≢ page
  new_is_other {new} is = let Other : ℕ → Type 0 = λ n. n ≢ page in subst Other (id_is new is) new_is_apart

  pub new_rises : {new : ℕ} → Some new ≡ last_id table.free → (slot_at table new).version + 1 < 2 ^ 64
  new_rises {new} is = let Rises : ℕ → Type 0 = λ n. (slot_at table n).version + 1 < 2 ^ 64 in subst Rises (id_is new is) may.new_version

  split_chain : (chain : Records) × IsPageOf (slot_at table page) chain
  split_chain = whole.lawful.pages page split_here

  split_chain_is : chain_in (slot_at table page) ≡ split_chain.0
  split_chain_is = ap (λ (c : Option Records). unwrap_or c (bare empty_page)) split_chain.1.its_chain

  separator_in_range : LiesIn separator (slot_fences (slot_at table page))
  separator_in_range = let within = may.cut.within in record { from_low = grind (arith, nat_tests); below_high = grind (arith, nat_tests) }

  pub split_takes : TakesCut (slot_at table page) separator
  split_takes =
      let Lies : Fences → Type 0 = λ f. LiesIn separator f in
      let Begins : Fences → Type 0 = λ f. f.low < separator in
      let same = split_chain.1.fence ∙ ap fences (sym split_chain_is) in
      record {
        version = may.cut.version;
        chain = rw split_chain.1.its_chain refl;
        no_records = omega (arith, may.cut.no_records, split_chain.1.depth, ap depth split_chain_is);
        within = subst Lies same separator_in_range;
        after_low = subst Begins same may.cut.after_low;
      }

  own_kind : is_leaf (chain_in (slot_at table page)) ≡ eqb (slot_at table page).level 0
  own_kind = ap is_leaf split_chain_is ∙ split_chain.1.kind

  module _ {base : Page} (same : base ≡ upper_part separator (page_for (chain_in (slot_at table page)))) where
    abbrev splitting : Proposal
    splitting = split page (slot_at table page).version separator base

    abbrev cut_off : Delta
    cut_off = deltas.Split separator (pid (new_id table))

    abbrev lower : SlotValue
    lower = lower_half separator (pid (new_id table)) base (slot_at table page)

    abbrev lower_base : Page
    lower_base = page_for (above cut_off (chain_in (slot_at table page)))

    abbrev upper : SlotValue
    upper = upper_half (slot_at table (new_id table)).version separator base (slot_at table page)

    abbrev halved : TableValue
    halved = record table { slots = set (set table.slots page lower) (new_id table) upper; free = all_but_last table.free }

    splits : (slots : List SlotValue) → slots ≡ set (set table.slots page (slot_cut separator (pid (new_id table)) (listed_length base.listed) (slot_at table page))) (new_id table) upper
        → TakesBoth table splitting (receipt_of table splitting) page (record table { slots = slots; free = all_but_last table.free })
    splits slots slots_are =
        let other : page ≢ new_id table = λ equal. new_is_apart (sym equal) in
        let kind : is_other_kind base (slot_at table page) ≡ false =
        kind_fits (lists_pairs base.listed) (slot_at table page).level
        (ap (λ (p : Page). lists_pairs p.listed) same ∙ upper_lists_alike separator (page_for (chain_in (slot_at table page))).listed ∙ lists_as_the_chain (chain_in (slot_at table page)) ∙ own_kind)
        in
        let accepted : refusal table splitting ≡ None =
        split_is_accepted (slot_at table page) (slot_at table (new_id table)) _ _ separator base may.cut may.staying (rw may.room refl) may.new_version kind same
        in
        let written : slot_at halved page ≡ lower = slot_kept (set table.slots page lower) (new_id table) upper page other ∙ slot_written table.slots page lower split_is_inside in
        let lower_kind : is_other_kind lower_base lower ≡ false =
        kind_fits (lists_pairs lower_base.listed) (slot_at table page).level (lists_as_the_chain (above cut_off (chain_in (slot_at table page))) ∙ own_kind)
        in
        let lower_chain : chain_in lower ≡ above cut_off (chain_in (slot_at table page)) = rw split_chain.1.its_chain refl in
        let rises : lower.version + 1 < 2 ^ 64 = omega (arith, may.cut.version) in
        let accepts : first_reason (consolidate_reasons lower lower.version lower_base) ≡ None =
        consolidate_is_accepted lower lower_base may.cut.posted lower_kind rises (ap page_for (sym lower_chain))
        in
        let in_order : set halved.slots page (consolidated lower_base lower) ≡ set (set table.slots page (consolidated lower_base lower)) (new_id table) upper =
        set-swap (set table.slots page lower) page (new_id table) (consolidated lower_base lower) upper new_is_apart
        ∙ ap (λ (s : List SlotValue). set s (new_id table) upper) (set-set table.slots page lower (consolidated lower_base lower))
        in
        two_steps table halved (record table { slots = slots; free = all_but_last table.free }) splitting (receipt_of table splitting) page lower lower_base accepted refl refl written accepts
        (ap (λ (s : List SlotValue). record table { slots = s; free = all_but_last table.free }) (slots_are ∙ sym in_order))

    pub splits_at_once : {new : ℕ} → Some new ≡ last_id table.free → {slots : List SlotValue}
        → slots ≡ set (set table.slots page (slot_cut separator (pid new) (listed_length base.listed) (slot_at table page))) new (upper_half (slot_at table new).version separator base (slot_at table page))
        → TakesBoth table splitting (Shaped kinds.Split (pid page) (Some (pid new))) page (record table { slots = slots; free = all_but_last table.free })
    splits_at_once {new} is {slots} slots_are =
        let Claim : ℕ → Type 0 = λ n.
        slots ≡ set (set table.slots page (slot_cut separator (pid n) (listed_length base.listed) (slot_at table page))) n (upper_half (slot_at table n).version separator base (slot_at table page))
        → TakesBoth table splitting (Shaped kinds.Split (pid page) (Some (pid n))) page (record table { slots = slots; free = all_but_last table.free })
        in
        let start : Claim (new_id table) = splits slots in
        subst Claim (id_is new is) start slots_are
