-- A copy of a leaf's chain shows the map in the leaf's range.
use Rattle.std.proofs.Common.{◌≡◌, ℕ, Bool, true, false, Some, Result, Ok, Err, refl, sym, ◌∙◌, ap, subst, arith}
use Rattle.std.specs.Prelude.{◌↔◌, ◌≢◌, IfOk, IfSome}
use Rattle.std.proofs.lemmas.Bool.Decides.{nat_tests}
use Rattle.bw_keys.specs.Ranges.{end_of}
use Rattle.bw_delta.specs.Entries.{at}
use Rattle.bw_delta.specs.Pages.{Page}
use Rattle.bw_delta.specs.Records.{Records, bare}
use Rattle.bw_delta.specs.Fence.{fences, is_leaf}
use Rattle.bw_delta.specs.Pairs.{pairs}
use Rattle.bw_delta.specs.Sound.{page_for}
use Rattle.bw_delta.proofs.Stands.{pairs_rise}
use Rattle.bw_step.specs.declared.fault.CopyFault.{CopyFault}
use Rattle.bw_step.specs.declared.fault.CopyFault.TheVariants.{Absent, Stale, NoMemory}
use Rattle.bw_step.specs.Stages.{is_in_row}
use Rattle.bw_law.specs.Tables.{TableValue, slot_at, Lawful, IsPageOf}
use Rattle.bw_law.proofs.Accepted.{Holds}
use Rattle.bw_law.proofs.Chains.{low_is, high_is, pairs_are, leaf_chain}
use Rattle.bw_law.proofs.Facts.{leaf_decides}
use Rattle.bw_procedures.specs.Facts.{IsLeafAround, IsCopied, IsMadeAnew, ShowsCopy}
use Rattle.bw_procedures.proofs.Anew.{page_shows, page_around}
use Rattle.bw_alone.specs.Calm.{HoldsKey}
use Rattle.bw_alone.specs.Showing.{Shows}

module _ (table : TableValue) (law : Lawful table) (page : ℕ) (chain : Records) (in_row : is_in_row (slot_at table page).stage ≡ true) (its_chain : (slot_at table page).chain ≡ Some chain) where
  -- the copy is the chain that the law speaks of
  pub copied_page : IsPageOf (slot_at table page) chain
  copied_page =
      let own = law.pages page in_row in
      let same : own.0 ≡ chain = cc (own.1.its_chain, its_chain) in
      subst (IsPageOf (slot_at table page)) same own.1

  pub copy_shows : is_leaf chain ≡ true → Shows table (fences chain).low (end_of (fences chain).high) (pairs chain)
  copy_shows leaf =
      let is = copied_page in
      let level : (slot_at table page).level ≡ 0 = grind (arith, nat_tests, is.kind, leaf) in
      record {
        rise = pairs_rise chain is.sound.built;
        all = λ key value above below.
            let holds : Holds (slot_at table page) key = (omega (arith, above, low_is (slot_at table page) chain is), omega (arith, below, ap end_of (high_is (slot_at table page) chain is))) in
            let decides = leaf_decides table law page key value in_row level holds in
            let same = ap (at key) (pairs_are (slot_at table page) chain is) in
            ((λ found. decides.1 (same ∙ found)), (λ maps. sym same ∙ decides.0 maps));
      }

  -- the copy of a page that holds a key has a range that holds it too
  pub copy_is_around : (key : ℕ) → HoldsKey table key 0 page → IsLeafAround key chain
  copy_is_around key has =
      let is = copied_page in
      record {
        leaf = leaf_chain (slot_at table page) chain is has.on_level;
        from_low = omega (arith, has.from_low, low_is (slot_at table page) chain is);
        below_high = omega (arith, has.below_high, ap end_of (high_is (slot_at table page) chain is));
      }

-- a page that was copied is in a row
not_outside : (here : Bool) → (here ≡ false → ⊥) → here ≡ true
not_outside true never = refl
not_outside false never = absurd (never refl)

-- what is copied shows the map
pub copies_show : (table : TableValue) (page : ℕ) (copy : Result Records CopyFault) → Lawful table → ((copy ≡ Err Absent) ↔ (is_in_row (slot_at table page).stage ≡ false))
    → IfOk copy (λ chain. (slot_at table page).chain ≡ Some chain) → IfOk copy (ShowsCopy (Shows table))
copies_show table page (Ok chain) law absent copied =
    let here : is_in_row (slot_at table page).stage ≡ true = not_outside _ (λ outside. cc (absent.1 outside)) in
    λ leaf. copy_shows table law page chain here copied leaf
copies_show table page (Err fault) law absent copied = tt

-- the leaf that holds a key is copied, unless it has changed or memory is wanting
pub copy_is_calm : (table : TableValue) (page version : ℕ) (copy : Result Records CopyFault) → Lawful table → ((copy ≡ Err Absent) ↔ (is_in_row (slot_at table page).stage ≡ false))
    → ((copy ≡ Err Stale) ↔ ((is_in_row (slot_at table page).stage ≡ true) × ((slot_at table page).version ≢ version))) → IfOk copy (λ chain. (slot_at table page).chain ≡ Some chain)
    → (key : ℕ) → HoldsKey table key 0 page → (slot_at table page).version ≡ version → IsCopied key copy
copy_is_calm table page version (Ok chain) law absent stale copied key has fresh = copy_is_around table law page chain has.in_row copied key has
copy_is_calm table page version (Err Absent) law absent stale copied key has fresh = absurd (cc (absent.0 refl, has.in_row))
copy_is_calm table page version (Err Stale) law absent stale copied key has fresh = absurd ((stale.0 refl).1 fresh)
copy_is_calm table page version (Err NoMemory) law absent stale copied key has fresh = refl

-- a page that is made anew shows the map too
pub pages_show : (table : TableValue) (page : ℕ) (made : Result Page CopyFault) → Lawful table → ((made ≡ Err Absent) ↔ (is_in_row (slot_at table page).stage ≡ false))
    → IfOk made (λ base. IfSome (slot_at table page).chain (λ chain. base ≡ page_for chain)) → IfOk made (λ base. ShowsCopy (Shows table) (bare base))
pages_show table page (Ok base) law absent made =
    let here : is_in_row (slot_at table page).stage ≡ true = not_outside _ (λ outside. cc (absent.1 outside)) in
    let own = law.pages page here in
    let is : base ≡ page_for own.0 = rw own.1.its_chain at made in
    page_shows (Shows table) own.0 base is (copy_shows table law page own.0 here own.1.its_chain)
pages_show table page (Err fault) law absent made = tt

-- the leaf that holds a key is made anew, unless it has changed or memory is wanting
pub anew_is_calm : (table : TableValue) (page version : ℕ) (made : Result Page CopyFault) → Lawful table → ((made ≡ Err Absent) ↔ (is_in_row (slot_at table page).stage ≡ false))
    → ((made ≡ Err Stale) ↔ ((is_in_row (slot_at table page).stage ≡ true) × ((slot_at table page).version ≢ version))) → IfOk made (λ base. IfSome (slot_at table page).chain (λ chain. base ≡ page_for chain))
    → (key : ℕ) → HoldsKey table key 0 page → (slot_at table page).version ≡ version → IsMadeAnew key made
anew_is_calm table page version (Ok base) law absent stale made key has fresh =
    let own = law.pages page has.in_row in
    let is : base ≡ page_for own.0 = rw own.1.its_chain at made in
    page_around key own.0 base is (copy_is_around table law page own.0 has.in_row own.1.its_chain key has)
anew_is_calm table page version (Err Absent) law absent stale made key has fresh = absurd (cc (absent.0 refl, has.in_row))
anew_is_calm table page version (Err Stale) law absent stale made key has fresh = absurd ((stale.0 refl).1 fresh)
anew_is_calm table page version (Err NoMemory) law absent stale made key has fresh = refl
