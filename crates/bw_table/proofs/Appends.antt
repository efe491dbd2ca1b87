-- Pairs that are put behind all others of a leaf: each step of it is accepted, and what comes of all of them is written at once.
use Rattle.std.proofs.Common.{◌≡◌, ℕ, suc, ◌+◌, ◌*◌, ◌<◌, ◌≤◌, Bool, true, false, List, [], ◌∷◌, ◌++◌, length, set, refl, ap, sym, subst, ◌∙◌, arith}
use Rattle.std.specs.Prelude.{Option, Some, None, unwrap_or, cond, option_map, slice_get, ◌-◌}
use Rattle.std.proofs.lemmas.Bool.Decides.{nat_tests}
use Rattle.std.proofs.lemmas.List.{set-set, set-get_or, length-set}
use Rattle.bw_keys.specs.declared.range.Fence.{Fence}
use Rattle.bw_keys.specs.Ranges.{end_of, is_within, key_count}
use Rattle.bw_delta.specs.declared.chain.Delta.TheVariants.{Insert}
use Rattle.bw_delta.specs.declared.fences.Fences.{Fences}
use Rattle.bw_delta.specs.Entries.{first_from, put, rises}
use Rattle.bw_delta.specs.Fence.{fences}
use Rattle.bw_delta.specs.Pages.{pairs_of, routes_of}
use Rattle.bw_delta.specs.Pairs.{pairs, pairs_listed, routes}
use Rattle.bw_delta.specs.Records.{Records, bare, above}
use Rattle.bw_delta.specs.Sound.{page_for}
use Rattle.bw_delta.proofs.Rises.{rises-append, rises-lower}
use Rattle.bw_chain.specs.Ascends.{IsAscending}
use Rattle.bw_chain.proofs.Ascending.{pairs_ascend}
use Rattle.bw_chain.specs.InPlaces.{chain_with_each}
use Rattle.bw_chain.proofs.Appends.{put_next, absent_before, lies_inside, still_ascends, ascends_before_none}
use Rattle.bw_step.specs.declared.action.Unperformed.{Unperformed}
use Rattle.bw_step.specs.declared.action.Unperformed.TheVariants.{Denied, StepByStep}
use Rattle.bw_step.specs.declared.fault.Denied.TheVariants as denials
use Rattle.bw_step.specs.declared.receipt.Receipt.TheVariants.{Inserted}
use Rattle.bw_step.specs.Proposals.{insert}
use Rattle.bw_step.specs.Stages.{is_in_row}
use Rattle.bw_step.specs.Tellings.{telling_of}
use Rattle.bw_law.specs.Slots.{SlotValue, chain_in, pairs_in, empty_page, free_slot}
use Rattle.bw_law.specs.Tables.{TableValue, slot_at, number_of, book_with, IsPageOf}
use Rattle.bw_law.proofs.Facts.{here_is_inside, leaf_count_fits}
use Rattle.bw_law.proofs.Slots.{slot_written}
use Rattle.bw_table.specs.Appends.{AppendsInTurn, MayAppend, MayAppendBehind, TakesPairs, TakesEach, slot_with_each, slots_with_each}
use Rattle.bw_table.specs.InPlaces.{IsWhyUndone, MayChangeAtOnce, TakesBoth, slot_with}
use Rattle.bw_table.specs.SlotFacts.{HasSoundChain}
use Rattle.bw_table.specs.Whole.{IsWhole}
use Rattle.bw_table.proofs.InPlaces.{leaf_is_inside, leaf_here, inserts, whole_both}

-- whether pairs come behind a list shows by what it has from the first of them on
rises_upto : (key low past : ℕ) (es : List (ℕ × ℕ)) → rises low past es ≡ true → first_from key es ≡ None → rises low key es ≡ true
rises_upto key low past [] rise none = refl
rises_upto key low past (e ∷ es) rise none = grind (arith, nat_tests, rises_upto key (e.0 + 1) past es)

pub comes_behind : (f : ℕ × ℕ) (es fs : List (ℕ × ℕ)) → IsAscending es → IsAscending (f ∷ fs) → first_from f.0 es ≡ None
    → IsAscending (es ++ f ∷ fs)
comes_behind f es fs rise more none =
    let few : f.0 < key_count = grind (arith, nat_tests, more) in
    let later : rises f.0 key_count (f ∷ fs) ≡ true = grind (arith, nat_tests, more) in
    rises-append key_count 0 f.0 es (f ∷ fs) (omega arith) few (rises_upto f.0 0 key_count es rise none) later

pub none_from_next : (low end : ℕ) (f : ℕ × ℕ) (es fs : List (ℕ × ℕ)) → rises low end (es ++ f ∷ fs) ≡ true
    → (low ≤ f.0) × (first_from f.0 es ≡ None)
none_from_next low end f [] fs rise = (grind (arith, nat_tests), refl)
none_from_next low end f (e ∷ es) fs rise =
    let from : low ≤ e.0 = grind (arith, nat_tests) in
    let rest : rises (e.0 + 1) end (es ++ f ∷ fs) ≡ true = grind (arith, nat_tests) in
    let more = none_from_next (e.0 + 1) end f es fs rest in
    let above : e.0 + 1 ≤ f.0 = more.0 in
    let none = more.1 in
    (omega (arith, from, above), grind (arith, nat_tests, above, none))

-- the keys of a list that rises in a range lie there, the first and the last
last_inside : (low end : ℕ) (last e : ℕ × ℕ) (es : List (ℕ × ℕ)) → rises low end (e ∷ es) ≡ true
    → slice_get (e ∷ es) (length es) ≡ Some last → (low ≤ last.0) × (last.0 < end)
last_inside low end last e [] rise is =
    let same : e ≡ last = cc in
    let here : (low ≤ e.0) × (e.0 < end) = ((grind (arith, nat_tests)), (grind (arith, nat_tests))) in
    rw (← same) here
last_inside low end last e (d ∷ es) rise is =
    let from : low ≤ e.0 = grind (arith, nat_tests) in
    let rest : rises (e.0 + 1) end (d ∷ es) ≡ true = grind (arith, nat_tests) in
    let it = last_inside (e.0 + 1) end last d es rest is in
    (omega (arith, from, it.0), it.1)

-- so its first and its last tell whether it lies in the range of a page
module _ (low : ℕ) (high : Fence) where
  abbrev is_inside : List (ℕ × ℕ) → Bool
  is_inside es = rises low (end_of high) es

  -- no pairs do
  pub inside_if_no_first : (es : List (ℕ × ℕ)) → None ≡ slice_get es 0 → true ≡ is_inside es
  inside_if_no_first [] none = refl
  inside_if_no_first (e ∷ es) none = cc

  last_is_there : (e : ℕ × ℕ) (es : List (ℕ × ℕ)) → slice_get (e ∷ es) (length es) ≡ None → ⊥
  last_is_there e [] none = cc
  last_is_there e (d ∷ es) none = last_is_there d es none

  pub inside_if_no_last : (es : List (ℕ × ℕ)) → None ≡ slice_get es (length es - 1) → true ≡ is_inside es
  inside_if_no_last [] none = refl
  inside_if_no_last (e ∷ es) none =
      let n : length (e ∷ es) - 1 ≡ length es = omega arith in
      absurd (last_is_there e es (rw n at (sym none)))

  pub outside_if_first : (first : ℕ × ℕ) (es : List (ℕ × ℕ)) → Some first ≡ slice_get es 0 → is_within low high first.0 ≡ false
      → is_inside es ≡ false
  outside_if_first first [] is_first out = cc
  outside_if_first first (e ∷ es) is_first out =
      let same : first ≡ e = cc in
      let outside : is_within low high e.0 ≡ false = subst (λ (x : ℕ × ℕ). is_within low high x.0 ≡ false) same out in
      grind (arith, nat_tests, outside)

  pub inside_if_ends : (first last : ℕ × ℕ) (es : List (ℕ × ℕ)) → IsAscending es → Some first ≡ slice_get es 0
      → Some last ≡ slice_get es (length es - 1) → is_within low high first.0 ≡ true → is_within low high last.0 ≡ is_inside es
  inside_if_ends first last es rise is_first is_last from_low = by_last (is_within low high last.0) refl
    where
      above : low ≤ first.0
      above = grind (arith, nat_tests, from_low)

      by_last : (inside : Bool) → is_within low high last.0 ≡ inside → is_within low high last.0 ≡ is_inside es
      by_last true below =
          let less : last.0 < end_of high = grind (arith, nat_tests, below) in
          below ∙ sym (lies_inside low (end_of high) first last es rise is_first is_last above less)
      by_last false past = past ∙ sym (not_all es is_first is_last)
        where
          not_all : (es : List (ℕ × ℕ)) → Some first ≡ slice_get es 0 → Some last ≡ slice_get es (length es - 1) → is_inside es ≡ false
          not_all [] none some = cc
          not_all (e ∷ es) one other =
              by_test (is_inside (e ∷ es)) refl
            where
              by_test : (inside : Bool) → is_inside (e ∷ es) ≡ inside → is_inside (e ∷ es) ≡ false
              by_test false out = out
              by_test true all =
                  let n : length (e ∷ es) - 1 ≡ length es = omega arith in
                  let it = last_inside low (end_of high) last e es all (rw n at (sym other)) in
                  let from : low ≤ last.0 = it.0 in
                  let upto : last.0 < end_of high = it.1 in
                  absurd (grind (arith, nat_tests, past, from, upto))

abbrev Pairs : Type 0
Pairs = List (ℕ × ℕ)

abbrev slot_with_one : ℕ × ℕ → SlotValue → SlotValue
slot_with_one p slot = slot_with (Some (Insert p.0 p.1)) slot

pairs_by_chain : (s : SlotValue) (c : Records) → s.chain ≡ Some c → pairs (chain_in s) ≡ pairs_in s
pairs_by_chain s c is = rw is refl

-- the slot with these numbers and this chain, and no records
abbrev rewritten : SlotValue → ℕ → ℕ → Option Records → SlotValue
rewritten s version count chain = record s { version = version; count = count; depth = 0; chain = chain }

rewritten_same : (s : SlotValue) (version count : ℕ) (chain : Option Records) → version ≡ s.version → count ≡ s.count → chain ≡ s.chain
    → s.depth ≡ 0 → rewritten s version count chain ≡ s
rewritten_same s version count chain v c ch d = rw (v, c, ch) (ap (λ (n : ℕ). record s { depth = n }) (sym d))

rewritten_alike : (s : SlotValue) (v w c d : ℕ) (x y : Option Records) → v ≡ w → c ≡ d → x ≡ y → rewritten s v c x ≡ rewritten s w d y
rewritten_alike s v w c d x y first second third = rw (first, second, third) refl

-- the slot with all pairs is written at once
pub slot_each : (ps : Pairs) (s : SlotValue) (c : Records) → s.chain ≡ Some c → s.depth ≡ 0
    → rewritten s (s.version + 2 * length ps) (s.count + length ps) (Some (chain_with_each ps c)) ≡ slot_with_each ps s
slot_each [] s c is d = rewritten_same s (s.version + 2 * 0) (s.count + 0) (Some c) (omega arith) (omega arith) (sym is) d
slot_each (p ∷ ps) s c is d =
    let chain_is : chain_in s ≡ c = ap (λ (o : Option Records). unwrap_or o (bare empty_page)) is in
    let one : Records → Records = λ x. bare (page_for (above (Insert p.0 p.1) x)) in
    let rest = slot_each ps (slot_with_one p s) (one (chain_in s)) refl refl in
    rewritten_alike s _ (suc (suc s.version) + 2 * length ps) _ (suc s.count + length ps) _ (Some (chain_with_each ps (one (chain_in s))))
    (omega arith) (omega arith)
    (ap (λ (x : Records). Some (chain_with_each ps (one x))) (sym chain_is))
    ∙ rest

pub slot_appended : (ps : Pairs) (s : SlotValue) (c new : Records) (count : ℕ) → s.chain ≡ Some c → s.depth ≡ 0
    → new ≡ chain_with_each ps c → count ≡ length ps
    → record s { version = s.version + 2 * count; count = s.count + count; chain = Some new } ≡ slot_with_each ps s
slot_appended ps s c new count is d new_is count_is =
    let With : Records → ℕ → ℕ → SlotValue = λ x n deep. record s
    { version = s.version + 2 * n; count = s.count + n; depth = deep; chain = Some x } in
    ap (λ (x : Records). With x count s.depth) new_is
    ∙ (ap (λ (n : ℕ). With (chain_with_each ps c) n s.depth) count_is
    ∙ (ap (λ (deep : ℕ). With (chain_with_each ps c) (length ps) deep) d ∙ slot_each ps s c is d))

module _ (page : ℕ) where
  -- the table with the pair put on the page
  abbrev pub with_one : TableValue → ℕ × ℕ → TableValue
  with_one t p = record {
    slots = set t.slots page (slot_with_one p (slot_at t page));
    free = t.free;
    root = t.root;
    book = book_with t.book (telling_of (Inserted (suc (number_of t.book)) p.0 p.1));
    config = t.config;
  }

  abbrev pub with_each : TableValue → Pairs → TableValue
  with_each t [] = t
  with_each t (p ∷ ps) = with_each (with_one t p) ps

  -- the table with more slots and changes
  abbrev written : TableValue → List SlotValue → ℕ → TableValue
  written t slots inserted = record t { slots = slots; book = record t.book { inserted = inserted } }

  written_alike : (t : TableValue) (a b : List SlotValue) (n m : ℕ) → a ≡ b → n ≡ m → written t a n ≡ written t b m
  written_alike t a b n m first second = rw (first, second) refl

  slots_next : (t : TableValue) (p : ℕ × ℕ) (ps : Pairs) → page < length t.slots
      → slots_with_each page ps (with_one t p).slots ≡ slots_with_each page (p ∷ ps) t.slots
  slots_next t p ps inside =
      let one = slot_with_one p (slot_at t page) in
      ap (λ (s : SlotValue). set (set t.slots page one) page (slot_with_each ps s)) (slot_written t.slots page one inside)
      ∙ set-set t.slots page one (slot_with_each ps one)

  pub table_each : (ps : Pairs) (t : TableValue) → page < length t.slots
      → written t (slots_with_each page ps t.slots) (t.book.inserted + length ps) ≡ with_each t ps
  table_each [] t inside = written_alike t _ t.slots _ t.book.inserted (set-get_or t.slots page (free_slot 0)) (omega arith)
  table_each (p ∷ ps) t inside =
      let still : page < length (with_one t p).slots = rw (length-set t.slots page (slot_with_one p (slot_at t page))) inside in
      written_alike t _ (slots_with_each page ps (with_one t p).slots) _ (t.book.inserted + 1 + length ps)
      (sym (slots_next t p ps inside)) (omega arith)
      ∙ table_each ps (with_one t p) still

  -- one pair more
  module _ (t : TableValue) (room : ℕ) (p : ℕ × ℕ) (ps : Pairs) (whole : IsWhole t room) (may : MayAppend t page (p ∷ ps))
      (behind : IsAscending (pairs_in (slot_at t page) ++ p ∷ ps)) where
    may_change : MayChangeAtOnce t page p.0
    may_change =
        let inside = may.inside in
        record {
          leaf = record { posted = may.posted; leaf = may.leaf; within = grind (arith, nat_tests, inside) };
          version = omega (arith, may.version);
          number = omega (arith, may.number_fits);
        }

    taken : TakesBoth t (insert page (slot_at t page).version p.0 p.1) (Inserted (suc (number_of t.book)) p.0 p.1) page (with_one t p)
    taken = inserts whole may_change p.1 (omega (arith, may.no_records)) (sym (absent_before 0 _ p (pairs_in (slot_at t page)) ps behind))

    next_is : slot_at (with_one t p) page ≡ slot_with_one p (slot_at t page)
    next_is = slot_written t.slots page (slot_with_one p (slot_at t page)) (leaf_is_inside whole may_change)

    next_whole : IsWhole (with_one t p) room
    next_whole = whole_both t room page (Inserted (suc (number_of t.book)) p.0 p.1) (with_one t p)
        (insert page (slot_at t page).version p.0 p.1) whole taken

    next_may : MayAppend (with_one t p) page ps
    next_may =
        let inside = may.inside in
        let more : rises (p.0 + 1) (end_of (slot_at t page).high) ps ≡ true = grind (arith, nat_tests, inside) in
        let May : SlotValue → Type 0 = λ s. TakesPairs s (number_of (with_one t p).book) ps in
        subst May (sym next_is) (record {
          posted = may.posted;
          leaf = may.leaf;
          no_records = refl;
          inside = grind (arith, nat_tests, inside, rises-lower (end_of (slot_at t page).high) (slot_at t page).low (p.0 + 1) ps, more);
          version = omega (arith, may.version);
          number_fits = omega (arith, may.number_fits);
        })

    pairs_are : pairs_in (slot_with_one p (slot_at t page)) ≡ pairs_in (slot_at t page) ++ p ∷ []
    pairs_are =
        let chain = above (Insert p.0 p.1) (chain_in (slot_at t page)) in
        let own = whole.lawful.pages page (ap is_in_row may.posted) in
        ap (λ (leaf : Bool). pairs_listed
        (cond leaf (pairs_of (put p.0 p.1 (pairs (chain_in (slot_at t page))))) (routes_of (routes chain))))
        (leaf_here whole may_change)
        ∙ (ap (put p.0 p.1) (pairs_by_chain (slot_at t page) own.0 own.1.its_chain) ∙ put_next 0 _ p (pairs_in (slot_at t page)) ps behind)

    next_behind : IsAscending (pairs_in (slot_at (with_one t p) page) ++ ps)
    next_behind =
        let Behind : Pairs → Type 0 = λ es. IsAscending (es ++ ps) in
        subst Behind (sym (ap pairs_in next_is ∙ pairs_are)) (still_ascends p (pairs_in (slot_at t page)) ps behind)

  pub appends : (room : ℕ) (ps : Pairs) (t : TableValue) → IsWhole t room → MayAppend t page ps
      → IsAscending (pairs_in (slot_at t page) ++ ps) → AppendsInTurn t page ps (with_each t ps)
  appends room [] t whole may behind = refl
  appends room (p ∷ ps) t whole may behind = (
    with_one t p,
    taken t room p ps whole may behind,
    appends room ps (with_one t p) (next_whole t room p ps whole may behind)
        (next_may t room p ps whole may behind) (next_behind t room p ps whole may behind),
  )

  pub whole_each : (room : ℕ) (ps : Pairs) (t new : TableValue) → IsWhole t room → AppendsInTurn t page ps new → IsWhole new room
  whole_each room [] t new whole turn = let Whole : TableValue → Type 0 = λ x. IsWhole x room in subst Whole (sym turn) whole
  whole_each room (p ∷ ps) t new whole turn =
      whole_each room ps turn.0 new
      (whole_both t room page (Inserted (suc (number_of t.book)) p.0 p.1) turn.0 (insert page (slot_at t page).version p.0 p.1) whole
      turn.1) turn.2

  -- what the code asks for, and what it did
  module _ {t : TableValue} {room : ℕ} (whole : IsWhole t room) {ps : Pairs} (may : MayAppend t page ps) where
    here : is_in_row (slot_at t page).stage ≡ true
    here = ap is_in_row may.posted

    pub append_is_inside : page < length t.slots
    append_is_inside = here_is_inside t whole.lawful page here

    chain_of : (chain : Records) × IsPageOf (slot_at t page) chain
    chain_of = whole.lawful.pages page here

    pub takes_each : TakesEach (slot_at t page) ps
    takes_each =
        let chain_is : chain_in (slot_at t page) ≡ chain_of.0 = ap (λ (c : Option Records). unwrap_or c (bare empty_page))
        chain_of.1.its_chain in
        let Inside : Fences → Type 0 = λ f. rises f.low (end_of f.high) ps ≡ true in record {
          no_records = may.no_records;
          version = may.version;
          count = omega (arith, leaf_count_fits t whole.lawful page whole.booked here may.leaf, may.number_fits);
          inside = subst Inside (chain_of.1.fence ∙ ap fences (sym chain_is)) may.inside;
        }

    pub appended_at_once : {slots : List SlotValue} → IsAscending (pairs_in (slot_at t page) ++ ps)
        → slots ≡ slots_with_each page ps t.slots → AppendsInTurn t page ps (written t slots (t.book.inserted + length ps))
    appended_at_once {slots} behind is =
        subst (AppendsInTurn t page ps)
        (sym (ap (λ (s : List SlotValue). written t s (t.book.inserted + length ps)) is ∙ table_each ps t append_is_inside))
        (appends room ps t whole may behind)

-- a page has its pairs in rising order, so pairs come behind them if it has none from the first of those on
module _ (slot : SlotValue) where
  own_rise : is_in_row slot.stage ≡ true → HasSoundChain slot → IsAscending (pairs_in slot)
  own_rise in_row sound =
      let own = sound in_row in
      let its : pairs own.0 ≡ pairs_in slot = sym (ap (λ (c : Option Records). unwrap_or (option_map pairs c) []) own.1) in
      subst IsAscending its (pairs_ascend own.0 own.2.built)

  pub none_behind : (ps : Pairs) → is_in_row slot.stage ≡ true → HasSoundChain slot → None ≡ slice_get ps 0
      → IsAscending (pairs_in slot ++ ps)
  none_behind ps here sound none = ascends_before_none (pairs_in slot) ps (own_rise here sound) none

  pub all_behind : (first : ℕ × ℕ) (ps : Pairs) → is_in_row slot.stage ≡ true → HasSoundChain slot → IsAscending ps
      → Some first ≡ slice_get ps 0 → first_from first.0 (pairs_in slot) ≡ None → IsAscending (pairs_in slot ++ ps)
  all_behind first [] here sound rise is none = cc
  all_behind first (p ∷ ps) here sound rise is none =
      let same : first ≡ p = cc in
      comes_behind p (pairs_in slot) ps (own_rise here sound) rise
      (subst (λ (x : ℕ × ℕ). first_from x.0 (pairs_in slot) ≡ None) same none)

pub not_behind : (first next : ℕ × ℕ) (es ps : Pairs) → Some first ≡ slice_get ps 0 → first_from first.0 es ≡ Some next
    → IsAscending (es ++ ps) → ⊥
not_behind first next es [] is some rise = cc
not_behind first next es (p ∷ ps) is some rise =
    let same : first ≡ p = cc in
    let none : first_from p.0 es ≡ None = (none_from_next 0 key_count p es ps rise).1 in
    cc (none, subst (λ (x : ℕ × ℕ). first_from x.0 es ≡ Some next) same some)

-- why they aren't appended
module _ (table : TableValue) (page : ℕ) (pairs : Pairs) where
  pub unappended_why : MayAppend table page pairs → (why : Unperformed)
      → IsWhyUndone (IsAscending (pairs_in (slot_at table page) ++ pairs)) why → IsWhyUndone (MayAppendBehind table page pairs) why
  unappended_why may StepByStep not = λ all. not all.behind
  unappended_why may (Denied denials.NoMemory) behind = record { takes = may; behind = behind }
  unappended_why may (Denied (denials.Refused reason)) never = never
