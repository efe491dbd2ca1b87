-- The trails of every interleaving explain its table: that holds of the new one, and each turn keeps it.
use Rattle.std.proofs.Common.{◌≡◌, ◌≢◌, ◌↔◌, ◌-◌, ◌<◌, ◌≤◌, ◌==◌, ◌++◌, ℕ, suc, true, false, cond, List, [], ◌∷◌, length, Option, Some, None, refl, arith, sym, ◌∙◌, ap, subst}
use Rattle.std.specs.Prelude.{nat_lt}
use Rattle.std.proofs.lemmas.Bool.Decides.{nat_tests}
use Rattle.std.specs.List.{AllByRecursion}
use Rattle.bw_step.specs.declared.receipt.Receipt.{Receipt}
use Rattle.bw_step.specs.declared.receipt.Receipt.TheVariants.{Looked}
use Rattle.bw_step.specs.Proposals.{Proposal}
use Rattle.bw_step.specs.Tellings.{Telling, change, look, shape, telling_of}
use Rattle.bw_law.specs.Tables.{TableValue, number_of, book_with, Lawful, Booked, Maps, SameMap, ChangesKey, TellsMap}
use Rattle.bw_law.specs.Laws.{KeptBy}
use Rattle.bw_law.specs.Refusals.{refusal}
use Rattle.bw_law.specs.Effects.{after, slots_after, receipt_of}
use Rattle.bw_law.proofs.AllSteps.{step_law, IsNext, step_is_next}
use Rattle.bw_audit.specs.declared.change.Change.{Change}
use Rattle.bw_audit.specs.Changes.{all_changes, bearer, change_of, change_reported, changed_by, value_at}
use Rattle.bw_audit.specs.Legal.{AllRise, IsTrueOf, position_after, rises_from, times_borne}
use Rattle.bw_audit.specs.Explained.{IsWithin, IsFine, IsFineTrail, Explains}
use Rattle.bw_audit.specs.Replays.{IsLookAt, add_receipts}
use Rattle.bw_audit.proofs.Adding.{all-map, all-snoc, all_added, silent_changes, unborne, one_more, value_before}

pub same_options : (o p : Option ℕ) → ((v : ℕ) → (o ≡ Some v) ↔ (p ≡ Some v)) → o ≡ p
same_options None None h = refl
same_options None (Some v) h = (h v).1 refl
same_options (Some v) p h = sym ((h v).0 refl)

-- a receipt of a place not below any before it may stand at the end of a trail
within_after : (n last : ℕ) (reported : Telling) → last ≤ n → IsWithin n reported → position_after last reported ≤ n
within_after n last (change number key had has) below within = within
within_after n last (look seen key found) below within = within
within_after n last shape below within = below

rise-snoc : (cs : List Change) (last : ℕ) (t : List Receipt) (r : Receipt) → last ≤ length cs → AllByRecursion (IsFine cs) t → AllRise last t
    → ((l : ℕ) → l ≤ length cs → rises_from l (telling_of r) ≡ true) → AllRise last (t ++ r ∷ [])
rise-snoc cs last [] r below fine rise up = (up last below, tt)
rise-snoc cs last (q ∷ t) r below fine rise up =
    (rise.0, rise-snoc cs (position_after last (telling_of q)) t r (within_after (length cs) last (telling_of q) below fine.0.0) fine.1 rise.1 up)

-- replies stay true where the map that they tell of stays
module _ (old new : List Change) (more : length old ≤ length new) (same : (m key : ℕ) → m ≤ length old → value_at new m key ≡ value_at old m key) where
  true_later : (reported : Telling) → IsWithin (length old) reported × IsTrueOf old reported → IsWithin (length new) reported × IsTrueOf new reported
  true_later (change number key had has) fine = (omega (arith, fine.0), same (number - 1) key (omega (arith, fine.0)) ∙ fine.1)
  true_later (look seen key found) fine = (omega (arith, fine.0), (omega (arith, fine.0), same seen key fine.0 ∙ fine.1.1))
  true_later shape fine = (tt, tt)

  fine_later : (r : Receipt) → IsFine old r → IsFine new r
  fine_later r fine = true_later (telling_of r) fine

  trail_later : (t : List Receipt) → IsFineTrail old t → IsFineTrail new t
  trail_later t fine = (all-map (IsFine old) (IsFine new) t fine_later fine.0, fine.1)

  -- with one receipt more
  trail_longer : (r : Receipt) → IsFine new r → ((l : ℕ) → l ≤ length old → rises_from l (telling_of r) ≡ true) → (t : List Receipt) → IsFineTrail old t → IsFineTrail new (t ++ r ∷ [])
  trail_longer r here up t fine =
      (all-snoc (IsFine new) t r (all-map (IsFine old) (IsFine new) t fine_later fine.0) here, rise-snoc old 0 t r (omega arith) fine.0 fine.1 up)

other_number : (a b : ℕ) → a ≢ b → (a == b) ≡ false
other_number a b apart = grind (arith, nat_tests)

same_number : (a b : ℕ) → a ≡ b → (a == b) ≡ true
same_number a b same = grind (arith, nat_tests)

module _ (table : TableValue) (trails : List (List Receipt)) (is : Explains table trails) (worker : ℕ) (inside : worker < length trails) (next : TableValue) (lawful : Lawful next) (booked : Booked next) (r : Receipt)
    (up : (last : ℕ) → last ≤ length (all_changes trails) → rises_from last (telling_of r) ≡ true) where
  -- a receipt that reports no change, of a table with the same map
  keeps_silent : number_of next.book ≡ number_of table.book → SameMap table.slots next.slots → change_of r ≡ None → IsFine (all_changes trails) r → Explains next (add_receipts trails worker (r ∷ []))
  keeps_silent number map none fine =
      let old = all_changes trails in
      let e : all_changes (add_receipts trails worker (r ∷ [])) ≡ old = silent_changes trails worker r inside none in
      record {
        lawful = lawful;
        booked = booked;
        counted = number ∙ (is.counted ∙ ap length (sym e));
        numbers = subst (λ cs. (m : ℕ) → 0 < m → m ≤ length cs → times_borne cs m ≡ 1) (sym e) is.numbers;
        no_others = subst (λ cs. (m : ℕ) → length cs < m → bearer cs m ≡ None) (sym e) is.no_others;
        fine = subst (λ cs. AllByRecursion (IsFineTrail cs) (add_receipts trails worker (r ∷ []))) (sym e)
            (all_added (IsFineTrail old) (IsFineTrail old) trails worker (r ∷ []) is.fine (λ t whole. whole) (trail_longer old old (omega arith) (λ m key within. refl) r fine up));
        left = subst (λ cs. (key value : ℕ) → (value_at cs (length cs) key ≡ Some value) ↔ Maps next.slots key value) (sym e)
            (λ key value. (λ found. (map key value).1 ((is.left key value).0 found), λ maps. (is.left key value).1 ((map key value).0 maps)));
      }

  -- a receipt of the next change
  keeps_change : (c : Change) → change_of r ≡ Some c → c.number ≡ suc (length (all_changes trails)) → number_of next.book ≡ suc (number_of table.book)
      → ((new : List Change) → length new ≡ suc (length (all_changes trails)) → value_at new (length (all_changes trails)) c.key ≡ value_at (all_changes trails) (length (all_changes trails)) c.key → IsFine new r)
      → ((key value : ℕ) → (changed_by (Some c) key (value_at (all_changes trails) (length (all_changes trails)) key) ≡ Some value) ↔ Maps next.slots key value)
      → Explains next (add_receipts trails worker (r ∷ []))
  keeps_change c reported numbered number fine left =
      let old = all_changes trails in
      let new = all_changes (add_receipts trails worker (r ∷ [])) in
      let n = length old in
      let m = one_more trails worker r c inside reported in
      let fresh : bearer old c.number ≡ None = is.no_others c.number (omega (arith, numbered)) in
      let same_bearer : (j : ℕ) → j ≤ n → bearer new j ≡ bearer old j = λ j within. m.others j (other_number c.number j (λ e. omega (arith, e, numbered, within))) in
      let same : (j key : ℕ) → j ≤ n → value_at new j key ≡ value_at old j key = λ j key within. value_before old new n j key same_bearer within in
      record {
        lawful = lawful;
        booked = booked;
        counted = number ∙ (ap suc is.counted ∙ sym m.count);
        numbers = λ j above within.
            elim (c.number == j) as (λ t. (c.number == j) ≡ t → times_borne new j ≡ 1) [
              | true ↦ λ own.
                  let e : c.number ≡ j = grind (arith, nat_tests) in
                  let none : times_borne old j ≡ 0 = unborne old j (rw (← e) fresh) in
                  let one : cond {A = ℕ} (c.number == j) 1 0 ≡ 1 = rw own refl in
                  omega (arith, m.times j, none, one)
              | false ↦ λ other.
                  let apart : c.number ≢ j = λ e. cc (same_number c.number j e, other) in
                  let zero_more : cond {A = ℕ} (c.number == j) 1 0 ≡ 0 = rw other refl in
                  let before : j ≤ n = grind (arith, m.count, numbered) in
                  omega (arith, m.times j, is.numbers j above before, zero_more)
            ] refl;
        no_others = λ j above. m.others j (other_number c.number j (λ e. omega (arith, e, numbered, above, m.count))) ∙ is.no_others j (omega (arith, above, m.count));
        fine = all_added (IsFineTrail old) (IsFineTrail new) trails worker (r ∷ []) is.fine (trail_later old new (omega (arith, m.count)) same)
            (trail_longer old new (omega (arith, m.count)) same r (fine new m.count (same n c.key (omega arith))) up);
        left = λ key value.
            let own : bearer new (suc n) ≡ Some c = rw (← numbered) (m.its_own fresh) in
            let latest : value_at new (length new) key ≡ changed_by (Some c) key (value_at old n key) =
            ap (λ k. value_at new k key) m.count ∙ (ap (λ o. changed_by o key (value_at new n key)) own ∙ ap (changed_by (Some c) key) (same n key (omega arith))) in
            subst (λ o. (o ≡ Some value) ↔ Maps next.slots key value) (sym latest) (left key value);
      }

-- each accepted step
module _ (table : TableValue) (trails : List (List Receipt)) (is : Explains table trails) (worker : ℕ) (inside : worker < length trails) where
  abbrev Keeps : Proposal → Type 0
  Keeps step = Explains (after table step) (add_receipts trails worker (receipt_of table step ∷ []))

  -- a step that changes no pair
  shaped : (step : Proposal) → KeptBy table step → telling_of (receipt_of table step) ≡ shape → Keeps step
  shaped step kept reported =
      keeps_silent table trails is worker inside (after table step) kept.lawful kept.booked (receipt_of table step) (λ last within. ap (rises_from last) reported)
      (ap (λ t. number_of (book_with table.book t)) reported) (subst (λ t. TellsMap t table.slots (slots_after table step)) reported kept.map) (ap change_reported reported)
      (subst (λ t. IsWithin (length (all_changes trails)) t × IsTrueOf (all_changes trails) t) (sym reported) (tt, tt))

  -- a step that changes a key
  changed : (step : Proposal) (key : ℕ) (had has : Option ℕ) → KeptBy table step → telling_of (receipt_of table step) ≡ change (suc (number_of table.book)) key had has
      → number_of (after table step).book ≡ suc (number_of table.book) → Keeps step
  changed step key had has kept reported number =
      let n = length (all_changes trails) in
      let c : Change = record { number = suc (number_of table.book); key = key; before = had; after = has } in
      let map : ChangesKey table.slots (slots_after table step) key had has = subst (λ t. TellsMap t table.slots (slots_after table step)) reported kept.map in
      let was : value_at (all_changes trails) n key ≡ had =
      same_options _ had (λ v. ((λ found. (map.had v).1 ((is.left key v).0 found)), (λ found. (is.left key v).1 ((map.had v).0 found)))) in
      let rises : (last : ℕ) → last ≤ n → nat_lt last (suc (number_of table.book)) ≡ true = λ last within. grind (arith, nat_tests, is.counted) in
      keeps_change table trails is worker inside (after table step) kept.lawful kept.booked (receipt_of table step)
      (λ last within. ap (rises_from last) reported ∙ rises last within) c (ap change_reported reported) (ap suc is.counted) number
      (λ new count same. subst (λ t. IsWithin (length new) t × IsTrueOf new t) (sym reported)
      (omega (arith, count, is.counted), ap (λ m. value_at new m key) (omega (arith, is.counted)) ∙ same ∙ was))
      (λ k v. elim (key == k) as (λ t. (key == k) ≡ t → (cond t has (value_at (all_changes trails) n k) ≡ Some v) ↔ Maps (slots_after table step) k v) [
        | true ↦ λ own. let e : key ≡ k = grind (arith, nat_tests) in subst (λ x. (has ≡ Some v) ↔ Maps (slots_after table step) x v) e (map.has v)
        | false ↦ λ other.
            let apart : k ≢ key = λ e. cc (same_number key k (sym e), other) in (
              (λ found. (map.others k v apart).1 ((is.left k v).0 found)),
              (λ maps. (is.left k v).1 ((map.others k v apart).0 maps)),
            )
      ] refl)

  pub step_keeps : (step : Proposal) → refusal table step ≡ None → Keeps step
  step_keeps step accepted = by_telling (telling_of (receipt_of table step)) refl (step_is_next table step)
    where
      kept : KeptBy table step
      kept = step_law table step is.lawful is.booked accepted

      by_telling : (reported : Telling) → telling_of (receipt_of table step) ≡ reported → IsNext table.book reported → Keeps step
      by_telling (change number key had has) reports next =
          changed step key had has kept (reports ∙ ap (λ n. change n key had has) next.0) (ap (λ t. number_of (book_with table.book t)) reports ∙ next.1 ∙ next.0)
      by_telling (look at key found) reports next = absurd next
      by_telling shape reports next = shaped step kept reports

  -- a look sees what the changes so far leave
  pub look_keeps : (key : ℕ) (r : Receipt) → IsLookAt table key r → Explains table (add_receipts trails worker (r ∷ []))
  look_keeps key r saw =
      let reported = saw.reported in
      let seen : value_at (all_changes trails) (length (all_changes trails)) key ≡ saw.found =
      same_options _ saw.found (λ v. ((λ found. (saw.is_there v).1 ((is.left key v).0 found)), (λ found. (is.left key v).1 ((saw.is_there v).0 found)))) in
      let fine : IsFine (all_changes trails) (Looked (number_of table.book) key saw.found) =
      (omega (arith, is.counted), (omega (arith, is.counted), rw is.counted seen)) in
      subst (λ q. Explains table (add_receipts trails worker (q ∷ []))) (sym reported)
      (keeps_silent table trails is worker inside table is.lawful is.booked (Looked (number_of table.book) key saw.found) (λ last within. grind (arith, nat_tests, is.counted))
      refl (λ k v. ((λ maps. maps), (λ maps. maps))) refl fine)
