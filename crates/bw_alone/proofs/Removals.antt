-- Removals take their keys out of the map of a worker that is alone, and leave the others.
use Rattle.std.proofs.Common.{◌≡◌, ◌≢◌, ◌⊎◌, inl, inr, ◌↔◌, ℕ, ◌+◌, ◌<◌, ◌≤◌, ◌==◌, Bool, true, false, List, [], ◌∷◌, ◌++◌, Option, Some, None, refl, ap, sym, subst, ◌∙◌, append_assoc, arith}
use Rattle.std.specs.Prelude.{nat_lt}
use Rattle.std.proofs.lemmas.Bool.Decides.{nat_tests}
use Rattle.std.proofs.lemmas.List.{append_cancel_left}
use Rattle.bw_delta.specs.Entries.{at}
use Rattle.bw_step.specs.declared.receipt.Receipt.{Receipt}
use Rattle.bw_step.specs.Tellings.{Telling, change, look, shape, telling_of, Reported, changed, looked, reported_by, reported_in}
use Rattle.bw_step.proofs.Tellings.{reported_in-append}
use Rattle.bw_law.specs.Slots.{SlotValue}
use Rattle.bw_law.specs.Tables.{TableValue, Maps, IsValueAt, SameMap, ChangesKey, TellsMap}
use Rattle.bw_procedures.specs.Clearing.{IsRemovalOf, AreRemovals, HasRemovalOf}
use Rattle.bw_procedures.proofs.Removals.{removals_lower}
use Rattle.bw_alone.specs.Leading.{Replays, Leads}
use Rattle.bw_alone.specs.Showing.{Shows}
use Rattle.bw_alone.specs.Clearing.{IsMapWithout}

-- no pair is new, the keys of the removals are gone, and the keys out of the range stay
record Loses (low high : ℕ) (removals : List Reported) (old new : List SlotValue) : Type 0 where
  fewer : (key value : ℕ) → Maps new key value → Maps old key value
  gone : (key value : ℕ) → HasRemovalOf key removals → Maps new key value → ⊥
  others : (key value : ℕ) → (key < low) ⊎ (high ≤ key) → Maps old key value → Maps new key value

-- one key that has no value any more, while the others stay
record LosesOne (k : ℕ) (old new : List SlotValue) : Type 0 where
  gone : (value : ℕ) → Maps new k value → ⊥
  others : (key value : ℕ) → key ≢ k → Maps new key value ↔ Maps old key value

no_value : (slots : List SlotValue) (key value : ℕ) → IsValueAt slots key None → Maps slots key value → ⊥
no_value slots key value is maps = let bad : None ≡ Some value = (is value).1 maps in cc

deleted_loses : (old new : List SlotValue) (key value : ℕ) → ChangesKey old new key (Some value) None → LosesOne key old new
deleted_loses old new key value changes = record { gone = λ v maps. no_value new key v changes.has maps; others = changes.others }

missing_loses : (old new : List SlotValue) (key : ℕ) → IsValueAt old key None → SameMap old new → LosesOne key old new
missing_loses old new key none same = record { gone = λ v maps. no_value old key v none ((same key v).0 maps); others = λ k v other. same k v }

-- a removal of a key loses it
change_loses : (k key : ℕ) (before after : Option ℕ) (old new : List SlotValue) → IsRemovalOf k (changed key before after) → ChangesKey old new key before after → LosesOne k old new
change_loses k key (Some value) None old new is changes = subst (λ k. LosesOne k old new) is (deleted_loses old new key value changes)
change_loses k key before after old new is changes = absurd is

look_loses : (k key : ℕ) (found : Option ℕ) (old new : List SlotValue) → IsRemovalOf k (looked key found) → TellsMap (look 0 key found) old new → LosesOne k old new
look_loses k key None old new is tells = subst (λ k. LosesOne k old new) is (missing_loses old new key tells.0 tells.1)
look_loses k key found old new is tells = absurd is

one_fewer : (k : ℕ) (old new : List SlotValue) → LosesOne k old new → (key value : ℕ) → Maps new key value → Maps old key value
one_fewer k old new loses key value maps = by_test (key == k) refl
  where
    by_test : (test : Bool) → (key == k) ≡ test → Maps old key value
    by_test true same = let is : key ≡ k = grind (arith, nat_tests, same) in absurd (loses.gone value (subst (λ k. Maps new k value) is maps))
    by_test false differs = let other : key ≢ k = grind (arith, nat_tests, differs) in (loses.others key value other).0 maps

one_removal : (k : ℕ) (x : Reported) → IsRemovalOf k x → (key : ℕ) → IsRemovalOf key x → key ≡ k
one_removal k (changed q (Some value) None) is key also = sym also ∙ is
one_removal k (looked q None) is key also = sym also ∙ is
one_removal k x is key also = absurd is

outside_one : (low high k key : ℕ) → low ≤ k → k < high → (key < low) ⊎ (high ≤ key) → key ≢ k
outside_one low high k key above below (inl less) = λ same. omega (arith, above, less, same)
outside_one low high k key above below (inr more) = λ same. omega (arith, below, more, same)

outside_rest : (low high k key : ℕ) → low ≤ k → (key < low) ⊎ (high ≤ key) → (key < k + 1) ⊎ (high ≤ key)
outside_rest low high k key above (inl less) = inl (omega (arith, above, less))
outside_rest low high k key above (inr more) = inr more

loses_then : (low high k : ℕ) (x : Reported) (xs : List Reported) (a b c : List SlotValue) → IsRemovalOf k x → low ≤ k → k < high → LosesOne k a b → Loses (k + 1) high xs b c → Loses low high (x ∷ xs) a c
loses_then low high k x xs a b c is above below one rest = record {
  fewer = λ key value maps. one_fewer k a b one key value (rest.fewer key value maps);
  gone = gone;
  others = λ key value outside maps. rest.others key value (outside_rest low high k key above outside) ((one.others key value (outside_one low high k key above below outside)).1 maps);
}
  where
    gone : (key value : ℕ) → HasRemovalOf key (x ∷ xs) → Maps c key value → ⊥
    gone key value (inl also) maps = one.gone value (subst (λ q. Maps b q value) (one_removal k x is key also) (rest.fewer key value maps))
    gone key value (inr later) maps = rest.gone key value later maps

same_then : (low high : ℕ) (xs : List Reported) (a b c : List SlotValue) → SameMap a b → Loses low high xs b c → Loses low high xs a c
same_then low high xs a b c same loses = record {
  fewer = λ key value maps. (same key value).0 (loses.fewer key value maps);
  gone = loses.gone;
  others = λ key value outside maps. loses.others key value outside ((same key value).1 maps);
}

loses_none : (low high : ℕ) (a b : TableValue) → b ≡ a → Loses low high [] a.slots b.slots
loses_none low high a b same = record {
  fewer = λ key value maps. subst (λ (t : TableValue). Maps t.slots key value) same maps;
  gone = λ key value has maps. absurd has;
  others = λ key value outside maps. subst (λ (t : TableValue). Maps t.slots key value) (sym same) maps;
}

next_loses : (low high : ℕ) (telling : Telling) (xs : List Reported) (a b c : List SlotValue) → TellsMap telling a b → AreRemovals low high (reported_by telling ++ xs)
    → ((at : ℕ) → AreRemovals at high xs → Loses at high xs b c) → Loses low high (reported_by telling ++ xs) a c
next_loses low high (change number key before after) xs a b c tells are rest =
    loses_then low high are.0 (changed key before after) xs a b c are.1 are.2 are.3 (change_loses are.0 key before after a b are.1 tells) (rest (are.0 + 1) are.4)
next_loses low high (look at key found) xs a b c tells are rest =
    loses_then low high are.0 (looked key found) xs a b c are.1 are.2 are.3 (look_loses are.0 key found a b are.1 tells) (rest (are.0 + 1) are.4)
next_loses low high shape xs a b c tells are rest = same_then low high xs a b c tells (rest low are)

-- receipts that tell of removals
removals_lose : (low high : ℕ) (rs : List Receipt) (a b : TableValue) → Replays a rs b → AreRemovals low high (reported_in rs) → Loses low high (reported_in rs) a.slots b.slots
removals_lose low high [] a b leads are = loses_none low high a b leads
removals_lose low high (r ∷ rs) a b leads are =
    next_loses low high (telling_of r) (reported_in rs) a.slots leads.0.slots b.slots leads.1.map are (λ at more. removals_lose at high rs leads.0 b leads.2 more)

-- what a trail reports more
added_is : (s t added : List Receipt) (xs : List Reported) → t ≡ s ++ added → reported_in t ≡ reported_in s ++ xs → reported_in added ≡ xs
added_is s t added xs longer more = append_cancel_left (reported_in s) (reported_in added) xs (sym (reported_in-append s added) ∙ (sym (ap reported_in longer) ∙ more))

leads_lose : (low high : ℕ) (a b : TableValue) (s t : List Receipt) (xs : List Reported) → Leads a s b t → reported_in t ≡ reported_in s ++ xs → AreRemovals low high xs → Loses low high xs a.slots b.slots
leads_lose low high a b s t xs leads more are =
    let is = added_is s t leads.0 xs leads.1 more in
    subst (λ (l : List Reported). Loses low high l a.slots b.slots) is (removals_lose low high leads.0 a b leads.2 (subst (AreRemovals low high) (sym is) are))

removals_after : (low high : ℕ) (xs ys : List Reported) → AreRemovals low high (xs ++ ys) → AreRemovals low high ys
removals_after low high [] ys are = are
removals_after low high (x ∷ xs) ys are = removals_lower low (are.0 + 1) high ys (omega (arith, are.2)) (removals_after (are.0 + 1) high xs ys are.4)

-- the removals since a state between are the last of them all
removals_since : (low high : ℕ) (a m : TableValue) (s u t : List Receipt) (xs ys : List Reported) → Leads a s m u → reported_in t ≡ reported_in s ++ xs → reported_in t ≡ reported_in u ++ ys → AreRemovals low high xs
    → AreRemovals low high ys
removals_since low high a m s u t xs ys leads all since are =
    let first : reported_in u ≡ reported_in s ++ reported_in leads.0 = ap reported_in leads.1 ∙ reported_in-append s leads.0 in
    let parts : reported_in s ++ xs ≡ reported_in s ++ (reported_in leads.0 ++ ys) =
    sym all ∙ (since ∙ (ap (λ (l : List Reported). l ++ ys) first ∙ append_assoc (reported_in s) (reported_in leads.0) ys))
    in
    removals_after low high (reported_in leads.0) ys (subst (AreRemovals low high) (append_cancel_left (reported_in s) xs (reported_in leads.0 ++ ys) parts) are)

missing : (table : TableValue) (low end key value : ℕ) (pairs : List (ℕ × ℕ)) → Shows table low end pairs → low ≤ key → key < end → at key pairs ≡ None → Maps table.slots key value → ⊥
missing table low end key value pairs shown above below none maps = let there : at key pairs ≡ Some value = (shown.all key value above below).1 maps in cc

-- a key that was swept has no value in the end
pub swept_gone : (low high from end key value : ℕ) (pairs : List (ℕ × ℕ)) (a m b : TableValue) (s u t : List Receipt) (xs ys : List Reported) → Leads a s m u → Leads m u b t → Shows m from end pairs → from ≤ key → key < end
    → reported_in t ≡ reported_in s ++ xs → AreRemovals low high xs → reported_in t ≡ reported_in u ++ ys → (at key pairs ≡ None) ⊎ HasRemovalOf key ys → Maps b.slots key value → ⊥
swept_gone low high from end key value pairs a m b s u t xs ys first then shown above below all are since gone maps = by_gone gone
  where
    loses : Loses low high ys m.slots b.slots
    loses = leads_lose low high m b u t ys then since (removals_since low high a m s u t xs ys first all since are)

    by_gone : (at key pairs ≡ None) ⊎ HasRemovalOf key ys → ⊥
    by_gone (inl none) = missing m from end key value pairs shown above below none (loses.fewer key value maps)
    by_gone (inr has) = loses.gone key value has maps

-- the map after removals in a range that leave no key of it
pub cleared_map : (low high : ℕ) (a b : TableValue) (s t : List Receipt) (xs : List Reported) → Leads a s b t → reported_in t ≡ reported_in s ++ xs → AreRemovals low high xs
    → ((key value : ℕ) → low ≤ key → key < high → Maps b.slots key value → ⊥) → IsMapWithout low high a.slots b.slots
cleared_map low high a b s t xs leads more are none = λ key value. (
  λ maps. (loses.fewer key value maps, by_low key value maps (nat_lt key low) refl),
  λ both. loses.others key value both.1 both.0,
)
  where
    loses : Loses low high xs a.slots b.slots
    loses = leads_lose low high a b s t xs leads more are

    by_high : (key value : ℕ) → Maps b.slots key value → low ≤ key → (test : Bool) → nat_lt key high ≡ test → (key < low) ⊎ (high ≤ key)
    by_high key value maps above true less = absurd (none key value above (grind (arith, nat_tests, less)) maps)
    by_high key value maps above false more = inr (grind (arith, nat_tests, more))

    by_low : (key value : ℕ) → Maps b.slots key value → (test : Bool) → nat_lt key low ≡ test → (key < low) ⊎ (high ≤ key)
    by_low key value maps true less = inl (grind (arith, nat_tests, less))
    by_low key value maps false more = by_high key value maps (grind (arith, nat_tests, more)) (nat_lt key high) refl
