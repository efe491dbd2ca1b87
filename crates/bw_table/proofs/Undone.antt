-- Why an action isn't done in one hold.
use Rattle.std.proofs.Common.{◌≡◌, ◌⊎◌, ℕ, ◌/◌, ◌<◌, Bool, true, false, cond, Option, Some, None, refl, sym, ◌∙◌, ap, subst, inl, inr, arith}
use Rattle.std.specs.Prelude.{◌==◌, nat_lt, [], Result, Ok, Err, IfErr, IfNone, is_ok, option_map, unwrap_or}
use Rattle.std.proofs.lemmas.Bool.Decides.{nat_tests}
use Rattle.bw_keys.specs.declared.page.Pid.{Pid}
use Rattle.bw_keys.specs.declared.page.Version.{Version}
use Rattle.bw_keys.specs.declared.wished.Wished.{Wished}
use Rattle.bw_keys.specs.Reasons.{first_reason}
use Rattle.bw_chain.specs.InPlaces.{WantsMemory, inserts, is_flat}
use Rattle.bw_chain.specs.Pages.Halves.{listed_key_at, listed_middle_key}
use Rattle.bw_delta.specs.Entries.{at}
use Rattle.bw_delta.specs.Fence.{is_leaf}
use Rattle.bw_delta.specs.Pairs.{pairs}
use Rattle.bw_delta.specs.Pages.{Listed, listed_length}
use Rattle.bw_delta.specs.Records.{Records, bare, depth}
use Rattle.bw_delta.specs.Sound.{page_for}
use Rattle.bw_step.specs.declared.action.Action.TheVariants as actions
use Rattle.bw_step.specs.declared.action.Unperformed.{Unperformed}
use Rattle.bw_step.specs.declared.action.Unperformed.TheVariants.{Denied, StepByStep}
use Rattle.bw_step.specs.declared.fault.Denied.TheVariants as denials
use Rattle.bw_step.specs.declared.refused.Refused.{Refused}
use Rattle.bw_step.specs.declared.view.View.{View}
use Rattle.bw_step.specs.Proposals.{Proposal, term_add}
use Rattle.bw_law.specs.Laws.{IsLeafOf}
use Rattle.bw_law.specs.Refusals.{refusal}
use Rattle.bw_law.specs.Slots.{SlotValue, chain_in, pairs_in, empty_page, free_slot, is_free}
use Rattle.bw_law.specs.Tables.{TableValue, slot_at, Lawful, IsPageOf}
use Rattle.bw_step.specs.Stages.{is_in_row}
use Rattle.bw_law.proofs.Accepted.{all_none, not_when}
use Rattle.bw_table.specs.Actions.{IsAbove, IsRefused, IsUnfit, IsWhyNot, MayCutInHalf, TakesNoTerm, had_at, middle_of}
use Rattle.bw_table.specs.InPlaces.{IsPosted, IsPostedLeaf, IsWhyUndone, MayMergeLeft, MayMergeUnder, MayPost, MaySplitAtOnce, MaySplitBefore, half_reasons, left_under}
use Rattle.bw_table.specs.Views.{view_of, view_at, look_at}

-- the leaf of a key can be looked at
pub leaf_is_looked_at : (table : TableValue) (key page : ℕ) → IsLeafOf table key page → look_at table page key ≡ None → ⊥
leaf_is_looked_at table key page leaf none =
    let here = leaf.in_row in
    let level = leaf.is_leaf in
    let low = leaf.spans.0 in
    let high = leaf.spans.1 in
    grind (arith, nat_tests, here, level, low, high, none)

-- a step that the table refuses
pub refused_so : (table : TableValue) (step : Option Proposal) (its : Proposal) (reason : Refused) → step ≡ Some its
    → refusal table its ≡ Some reason → IsRefused table step
refused_so table step its reason is why = rw (is, why) refl

-- what was seen of a page is in its slot
shown : (view its : View) (free : Bool) → Some view ≡ cond free None (Some its) → view ≡ its
shown view its true is = cc
shown view its false is = cc

pub seen_is_there : (table : TableValue) (pid : Pid) (view : View) → Some view ≡ view_at table pid
    → view ≡ view_of pid (slot_at table pid.0)
seen_is_there table pid view is = shown view (view_of pid (slot_at table pid.0)) (is_free (slot_at table pid.0).stage) is

-- a term that is refused in the page above
pub term_refused : (table : TableValue) (child : Pid) (under parent : View) (reason : Refused)
    → under ≡ view_of child (slot_at table child.0) → parent ≡ view_of parent.pid (slot_at table parent.pid.0)
    → IsAbove table under.low under.level parent.pid.0
    → refusal table (term_add parent.pid.0 parent.version.0 child.0 under.version.0) ≡ Some reason → TakesNoTerm table child.0
term_refused table child under parent reason under_is parent_is above why =
    let over_seen : parent.version.0 ≡ (slot_at table parent.pid.0).version = ap (λ (v : View). v.version.0) parent_is in
    let seen : under.version.0 ≡ (slot_at table child.0).version = ap (λ (v : View). v.version.0) under_is in
    let above_it : IsAbove table (slot_at table child.0).low (slot_at table child.0).level parent.pid.0 =
    subst (λ (v : View). IsAbove table v.low v.level parent.pid.0) under_is above in
    let one = subst (λ n. refusal table (term_add parent.pid.0 n child.0 under.version.0) ≡ Some reason) over_seen why in
    let both = subst (λ n. refusal table (term_add parent.pid.0 (slot_at table parent.pid.0).version child.0 n) ≡ Some reason) seen one in
    let term = term_add parent.pid.0 (slot_at table parent.pid.0).version child.0 (slot_at table child.0).version in
    inr (inr (parent.pid.0, above_it, refused_so table (Some term) _ reason refl both))

-- a posted leaf that isn't changed in place is unfit for that, or a new pair wanted memory
pub leaf_unchanged : (table : TableValue) (page key : ℕ) (wished : Wished) → Lawful table → IsPostedLeaf (slot_at table page) key
    → ((chain : Records) → (slot_at table page).chain ≡ Some chain → WantsMemory chain key wished)
    → IsUnfit table page ⊎ (inserts wished (had_at table page key) ≡ true)
leaf_unchanged table page key wished law leaf wants = by_records (is_flat own.0) refl
  where
    own : (chain : Records) × IsPageOf (slot_at table page) chain
    own = law.pages page (ap is_in_row leaf.posted)

    kind : is_leaf own.0 ≡ true
    kind = own.1.kind ∙ ap (λ (n : ℕ). n == 0) leaf.leaf

    its_pairs : pairs_in (slot_at table page) ≡ pairs own.0
    its_pairs = ap (λ (c : Option Records). unwrap_or (option_map pairs c) []) own.1.its_chain

    its_chain : chain_in (slot_at table page) ≡ own.0
    its_chain = ap (λ (c : Option Records). unwrap_or c (bare empty_page)) own.1.its_chain

    by_records : (flat : Bool) → is_flat own.0 ≡ flat → IsUnfit table page ⊎ (inserts wished (had_at table page key) ≡ true)
    by_records true flat = inr (ap (λ es. inserts wished (at key es)) its_pairs ∙ wants own.0 own.1.its_chain own.1.sound kind flat)
    by_records false thick = inl (inl (ap is_flat its_chain ∙ thick))

-- what is so where there is nothing
pub none_unless : {X A B : Type 0} (answer : Option X) → (A → B) → IfNone answer A → IfNone answer B
none_unless None so here = so here
none_unless (Some it) so here = tt

-- a page that isn't there is no leaf
pub no_leaf_is_changed : (table : TableValue) (page key : ℕ) → slot_at table page ≡ free_slot 0 → IsPostedLeaf (slot_at table page) key → ⊥
no_leaf_is_changed table page key nowhere leaf = cc (ap (λ (s : SlotValue). s.stage) nowhere, leaf.posted)

pub one_key : {found : Option ℕ} {key other : ℕ} → found ≡ Some key → found ≡ Some other → key ≡ other
one_key is its = cc

-- a page is split before an entry that it has
module _ (table : TableValue) (page number : ℕ) where
  abbrev its_slot : SlotValue
  its_slot = slot_at table page

  -- not where it isn't there
  pub no_page_is_split : its_slot ≡ free_slot 0 → MaySplitBefore table page number → ⊥
  no_page_is_split nowhere may = cc (ap (λ (s : SlotValue). s.stage) nowhere, may.splits.cut.posted)

  -- nor where it has records or no such entry
  pub none_is_split : Lawful table
      → ((chain : Records) → its_slot.chain ≡ Some chain → depth chain ≡ 0 → listed_key_at number (page_for (chain_in its_slot)).listed ≡ None)
      → MaySplitBefore table page number → ⊥
  none_is_split law missing may =
      let own = law.pages page (ap is_in_row may.splits.cut.posted) in
      let none = missing own.0 own.1.its_chain (sym own.1.depth ∙ may.splits.cut.no_records) in
      cc (none, may.its_key)

  module _ (separator : ℕ) (its_key : listed_key_at number (page_for (chain_in its_slot)).listed ≡ Some separator) where
    abbrev Splits : ℕ → Type 0
    Splits key = MaySplitAtOnce table page key

    -- nor where it may not be split at the key of that
    pub not_split_there : (Splits separator → ⊥) → MaySplitBefore table page number → ⊥
    not_split_there unfit may =
        unfit (subst Splits (one_key may.its_key its_key) may.splits)

    pub may_split_there : Splits separator → MaySplitBefore table page number
    may_split_there splits = record { separator = separator; its_key = its_key; splits = splits }

-- why a page isn't split in half
module _ (table : TableValue) (page : Pid) (seen : Version) where
  abbrev its_listed : Listed
  its_listed = (page_for (chain_in (slot_at table page.0))).listed

  pub refused_is_uncut : (reason : Refused)
      → first_reason (half_reasons table page.0 seen.0) ≡ Some reason → MayCutInHalf table page.0 seen.0 → ⊥
  refused_is_uncut reason is may = cc (is, may.accepted)

  pub too_small_to_cut : listed_length its_listed < 2 → MayCutInHalf table page.0 seen.0 → ⊥
  too_small_to_cut few may =
      let (absent, (stale, (frozen, (deep, (small, _))))) = all_none (half_reasons table page.0 seen.0) may.accepted in
      let enough : nat_lt (listed_length its_listed) 2 ≡ false = not_when _ _ small in
      grind (arith, nat_tests)

  pub uncut_why : (number middle : ℕ) → first_reason (half_reasons table page.0 seen.0) ≡ None
      → number ≡ listed_length its_listed / 2 → listed_middle_key its_listed ≡ Some middle
      → (why : Unperformed) → IsWhyUndone (MaySplitBefore table page.0 number) why → IsWhyNot table (actions.Cut page seen) why
  uncut_why number middle fine number_is key StepByStep never =
      let middle_is : middle_of table page.0 ≡ middle = ap (λ (o : Option ℕ). unwrap_or o 0) key in
      let its_key : listed_key_at number its_listed ≡ Some (middle_of table page.0) =
      ap (λ (n : ℕ). listed_key_at n its_listed) number_is ∙ key ∙ ap Some (sym middle_is)
      in
      λ may. never (may_split_there table page.0 number (middle_of table page.0) its_key may.splits)
  uncut_why number middle fine number_is key (Denied denials.NoMemory) may =
      let found : listed_middle_key its_listed ≡ Some may.separator =
      ap (λ (n : ℕ). listed_key_at n its_listed) (sym number_is) ∙ may.its_key
      in
      let same : may.separator ≡ middle_of table page.0 = sym (ap (λ (o : Option ℕ). unwrap_or o 0) found) in
      record { accepted = fine; splits = subst (λ (key : ℕ). MaySplitAtOnce table page.0 key) same may.splits }
  uncut_why number middle fine number_is key (Denied (denials.Refused reason)) never = never

-- why a page isn't named in its parent
module _ (table : TableValue) (child : Pid) (under parent : View) (under_is : under ≡ view_of child (slot_at table child.0))
    (above : IsAbove table under.low under.level parent.pid.0) where
  above_child : IsAbove table (slot_at table child.0).low (slot_at table child.0).level parent.pid.0
  above_child = subst (λ (v : View). IsAbove table v.low v.level parent.pid.0) under_is above

  pub unposted_why : (why : Unperformed) → IsWhyUndone (MayPost table.slots parent.pid.0 child.0) why
      → IsWhyNot table (actions.Post child) why
  unposted_why StepByStep never = inr (inr (parent.pid.0, above_child, never))
  unposted_why (Denied denials.NoMemory) may = (parent.pid.0, above_child, may)
  unposted_why (Denied (denials.Refused reason)) never = never

-- why a page isn't merged into the one on its left
module _ (table : TableValue) (parent page : ℕ) where
  pub not_merged_left : (left : Pid) → left_under table parent page ≡ Some left
      → (MayMergeUnder table parent left.0 page → ⊥) → MayMergeLeft table parent page → ⊥
  not_merged_left left its unfit may =
      let same : may.left ≡ left = cc (may.before, its) in
      unfit (subst (λ (p : Pid). MayMergeUnder table parent p.0 page) same may.merges)

  pub no_page_merges : slot_at table page ≡ free_slot 0 → MayMergeLeft table parent page → ⊥
  no_page_merges nowhere may = cc (ap (λ (s : SlotValue). s.stage) nowhere, may.merges.bare.posted)

  pub none_is_over : is_in_row (slot_at table parent).stage ≡ false → MayMergeLeft table parent page → ⊥
  none_is_over out may = cc (out, ap is_in_row may.merges.over_bare.posted)

  pub no_parent_merges : slot_at table parent ≡ free_slot 0 → MayMergeLeft table parent page → ⊥
  no_parent_merges nowhere = none_is_over (ap (λ (s : SlotValue). is_in_row s.stage) nowhere)

-- a page that isn't posted may or may not be in the table that is left, too
pub still_unposted : (old new : TableValue) (parent : ℕ) (child : Pid) (posted : Result (Unit {0}) Unperformed)
    → IsPosted old parent child (is_ok posted) new → IfErr posted (IsWhyUndone (MayPost old.slots parent child.0)) → IfErr posted (IsWhyUndone (MayPost new.slots parent child.0))
still_unposted old new parent child (Ok done) is why = tt
still_unposted old new parent child (Err fault) is why =
    subst (λ (t : TableValue). IsWhyUndone (MayPost t.slots parent child.0) fault) (sym is) why
