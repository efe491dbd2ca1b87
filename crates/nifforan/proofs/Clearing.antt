-- Receipts of removals, and what they leave of the map.
use Rattle.std.proofs.Common.{◌≡◌, ◌≢◌, ◌⊎◌, inl, inr, ℕ, ◌+◌, ◌<◌, ◌≤◌, List, [], ◌∷◌, ◌++◌, length, Option, Some, None, refl, ap, sym, subst, ◌∙◌, ⊎_elim, arith}
use Rattle.std.proofs.lemmas.Bool.{cases_eq}
use Rattle.std.proofs.lemmas.List.{append_cancel_left}
use Rattle.bw_delta.specs.Entries.{at}
use Rattle.bw_step.specs.declared.receipt.Receipt.{Receipt}
use Rattle.bw_step.specs.declared.survey.Book.{Book}
use Rattle.bw_step.specs.Tellings.{Telling, change, look, shape, telling_of, Reported, changed, looked, reported_by, reported_in}
use Rattle.bw_step.proofs.Tellings.{reported_in-append}
use Rattle.bw_law.specs.Tables.{TableValue, Maps, IsValueAt, SameMap, ChangesKey, TellsMap, book_with, Lawful, Booked}
use Rattle.bw_procedures.specs.Clearing.{IsRemovalOf, AreRemovals, AddsRemovals, removal_in, removals_in}
use Rattle.bw_procedures.specs.Seen.{Seen}
use Rattle.bw_alone.specs.Leading.{Replays, Leads}
use Rattle.bw_table.proofs.Orders.{book_counts}
use Rattle.nifforan.specs.Clearing.{Loses}
use Rattle.nifforan.specs.Maps.{pairs_of}
use Rattle.nifforan.proofs.Listing.{pairs_are}

-- one removal, or a step of the tree's shape
record LosesOne (k removed : ℕ) (old new : TableValue) : Type 0 where
  fewer : (key value : ℕ) → Maps new.slots key value → Maps old.slots key value
  others : (key value : ℕ) → key ≢ k → Maps old.slots key value → Maps new.slots key value
  count : new.book.removed ≡ old.book.removed + removed
  no_more : new.book.inserted ≡ old.book.inserted

no_value : (old : TableValue) (key value : ℕ) → IsValueAt old.slots key None → Maps old.slots key value → ⊥
no_value old key value is maps = let bad : None ≡ Some value = (is value).1 maps in cc

deleted_loses : (old new : TableValue) (number key value : ℕ) → ChangesKey old.slots new.slots key (Some value) None → new.book ≡ book_with old.book (change number key (Some value) None) → LosesOne key 1 old new
deleted_loses old new number key value changes book = record {
  fewer = λ k v maps. ⊎_elim
      (λ (same : k ≡ key). absurd (no_value new key v changes.has (subst (λ q. Maps new.slots q v) same maps)))
      (λ (other : k ≢ key). (changes.others k v other).0 maps)
      (cases_eq k key);
  others = λ k v other maps. (changes.others k v other).1 maps;
  count = ap (λ (b : Book). b.removed) book;
  no_more = ap (λ (b : Book). b.inserted) book;
}

same_loses : (k : ℕ) (old new : TableValue) → SameMap old.slots new.slots → new.book ≡ old.book → LosesOne k 0 old new
same_loses k old new same book = record {
  fewer = λ key value maps. (same key value).0 maps;
  others = λ key value other maps. (same key value).1 maps;
  count = omega (arith, ap (λ (b : Book). b.removed) book);
  no_more = ap (λ (b : Book). b.inserted) book;
}

change_loses : (k number key : ℕ) (before after : Option ℕ) (old new : TableValue) → IsRemovalOf k (changed key before after) → ChangesKey old.slots new.slots key before after
    → new.book ≡ book_with old.book (change number key before after) → LosesOne k (removal_in (changed key before after)) old new
change_loses k number key (Some value) None old new is changes book = subst (λ q. LosesOne q 1 old new) is (deleted_loses old new number key value changes book)
change_loses k number key before after old new is changes book = absurd is

look_loses : (k at key : ℕ) (found : Option ℕ) (old new : TableValue) → SameMap old.slots new.slots → new.book ≡ old.book → LosesOne k (removal_in (looked key found)) old new
look_loses k at key found old new same book = same_loses k old new same book

loses_then : (low high k one more : ℕ) (a b c : TableValue) → low ≤ k → k < high → LosesOne k one a b → Loses (k + 1) high more b c → Loses low high (one + more) a c
loses_then low high k one more a b c above below first rest = record {
  fewer = λ key value maps. first.fewer key value (rest.fewer key value maps);
  others = λ key value out maps. rest.others key value (later key out) (first.others key value (apart key out) maps);
  count = omega (arith, first.count, rest.count);
  no_more = rest.no_more ∙ first.no_more;
}
  where
    later : (key : ℕ) → (key < low) ⊎ (high ≤ key) → (key < k + 1) ⊎ (high ≤ key)
    later key (inl less) = inl (omega (arith, above, less))
    later key (inr past) = inr past

    apart : (key : ℕ) → (key < low) ⊎ (high ≤ key) → key ≢ k
    apart key (inl less) = λ same. omega (arith, above, less, same)
    apart key (inr past) = λ same. omega (arith, below, past, same)

shape_then : (low high more : ℕ) (a b c : TableValue) → SameMap a.slots b.slots → b.book ≡ a.book → Loses low high more b c → Loses low high more a c
shape_then low high more a b c same book rest = record {
  fewer = λ key value maps. (same key value).0 (rest.fewer key value maps);
  others = λ key value out maps. rest.others key value out ((same key value).1 maps);
  count = omega (arith, rest.count, ap (λ (b : Book). b.removed) book);
  no_more = rest.no_more ∙ ap (λ (b : Book). b.inserted) book;
}

next_loses : (low high : ℕ) (telling : Telling) (xs : List Reported) (a b c : TableValue) → TellsMap telling a.slots b.slots → b.book ≡ book_with a.book telling → AreRemovals low high (reported_by telling ++ xs)
    → ((from : ℕ) → AreRemovals from high xs → Loses from high (removals_in xs) b c) → Loses low high (removals_in (reported_by telling ++ xs)) a c
next_loses low high (change number key before after) xs a b c tells book are rest =
    loses_then low high are.0 (removal_in (changed key before after)) (removals_in xs) a b c are.2 are.3 (change_loses are.0 number key before after a b are.1 tells book) (rest (are.0 + 1) are.4)
next_loses low high (look from key found) xs a b c tells book are rest =
    loses_then low high are.0 (removal_in (looked key found)) (removals_in xs) a b c are.2 are.3 (look_loses are.0 from key found a b tells.1 book) (rest (are.0 + 1) are.4)
next_loses low high shape xs a b c tells book are rest = shape_then low high (removals_in xs) a b c tells book (rest low are)

none_loses : (low high : ℕ) (a b : TableValue) → b ≡ a → Loses low high 0 a b
none_loses low high a b same = subst (λ (t : TableValue). Loses low high 0 a t) (sym same) (record {
  fewer = λ key value maps. maps;
  others = λ key value out maps. maps;
  count = omega arith;
  no_more = refl;
})

removals_lose : (low high : ℕ) (rs : List Receipt) (a b : TableValue) → Replays a rs b → AreRemovals low high (reported_in rs) → Loses low high (removals_in (reported_in rs)) a b
removals_lose low high [] a b leads are = none_loses low high a b leads
removals_lose low high (r ∷ rs) a b leads are =
    next_loses low high (telling_of r) (reported_in rs) a leads.0 b leads.1.map leads.1.book are (λ from more. removals_lose from high rs leads.0 b leads.2 more)

-- what a worker's receipts of removals leave of the map
pub receipts_lose : (low high removed : ℕ) (old new : Seen) (a b : TableValue) → Leads a old.trail b new.trail → AddsRemovals low high removed old new → Loses low high removed a b
receipts_lose low high removed old new a b leads adds =
    let is : reported_in leads.0 ≡ adds.added =
    append_cancel_left (reported_in old.trail) (reported_in leads.0) adds.added (sym (reported_in-append old.trail leads.0) ∙ (sym (ap reported_in leads.1) ∙ adds.trail))
    in
    subst (λ n. Loses low high n a b) (ap removals_in is ∙ adds.count) (removals_lose low high leads.0 a b leads.2 (subst (AreRemovals low high) (sym is) adds.removals))

-- the pairs that are left, and those that were removed
pub lost_count : (low high removed : ℕ) (old new : TableValue) → Lawful old → Booked old → Lawful new → Booked new → Loses low high removed old new → length (pairs_of new.slots) + removed ≡ length (pairs_of old.slots)
lost_count low high removed old new old_law old_book new_law new_book loses =
    omega (arith, book_counts old old_law old_book (pairs_of old.slots) (pairs_are old old_law), book_counts new new_law new_book (pairs_of new.slots) (pairs_are new new_law), old_book, new_book, loses.count, loses.no_more)
