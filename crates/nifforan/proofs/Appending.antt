-- Pairs after all others, whose keys rise.
use Rattle.std.proofs.Common.{◌≡◌, ℕ, ◌+◌, ◌<◌, ◌≤◌, Bool, true, false, [], ◌∷◌, ◌++◌, Option, Some, None, length, suc, refl, sym, ap, subst, ◌∙◌, arith, append_assoc, append-nil}
use Rattle.std.specs.Prelude.{option_map, unwrap_or, nat_lt, nat_le, ◌&&◌, Err}
use Rattle.std.specs.Iterator.{Drains, Yields}
use Rattle.std.proofs.lemmas.Bool.Decides.{nat_tests}
use Rattle.bw_keys.specs.Ranges.{key_count}
use Rattle.bw_delta.specs.Entries.{put, rises, last_entry}
use Rattle.bw_chain.specs.Ascends.{IsAscending}
use Rattle.bw_chain.proofs.Appends.{put_next, still_ascends, moved}
use Rattle.bw_step.specs.declared.receipt.Receipt.{Receipt}
use Rattle.bw_step.specs.declared.receipt.Receipt.TheVariants.{Inserted}
use Rattle.bw_step.specs.Proposals.{Proposal, insert}
use Rattle.bw_law.specs.Tables.{TableValue, Lawful, Booked, ChangesKey, slot_at, number_of}
use Rattle.bw_law.proofs.TakenSteps.{turn_keeps_config}
use Rattle.bw_table.specs.Appends.{AppendsInTurn}
use Rattle.bw_table.specs.InPlaces.{both_steps}
use Rattle.bw_table.specs.Whole.{IsWhole}
use Rattle.bw_table.proofs.InPlaces.{whole_both, tells_both}
use Rattle.nifforan.specs.Maps.{PairList, pairs_of}
use Rattle.nifforan.proofs.Listing.{put_pairs}
use Rattle.nifforan.specs.Rising.{AppendsAll, HasAllOf, IsAppended, IsUnsortedBehind, is_above}
use Rattle.nifforan.specs.declared.sorted.SortedFault.{SortedFault}
use Rattle.nifforan.specs.declared.sorted.SortedFault.TheVariants as faults
use Rattle.nifforan.proofs.Fills.{put_behind, rises_with, rises_further}

-- the greatest key of pairs that rise, if there is any
abbrev pub last_key : PairList → Option ℕ
last_key pairs = option_map (λ (p : ℕ × ℕ). p.0) (last_entry pairs)

-- the keys of pairs that rise are below a key that is above the last of them
below_next : (low end key : ℕ) (p : ℕ × ℕ) (ps : PairList) → rises low end (p ∷ ps) ≡ true
    → (unwrap_or (last_entry ps) p).0 < key → rises low key (p ∷ ps) ≡ true
below_next low end key p [] rise last = grind (arith, nat_tests)
below_next low end key p (q ∷ qs) rise last =
    let rest : rises (p.0 + 1) end (q ∷ qs) ≡ true = grind (arith, nat_tests) in
    let here : nat_le low p.0 ≡ true = grind (arith, nat_tests) in
    let more : rises (p.0 + 1) key (q ∷ qs) ≡ true = below_next (p.0 + 1) end key q qs rest last in
    let next : p.0 + 1 ≤ q.0 = grind (arith, nat_tests, more) in
    let under : q.0 < key = grind (arith, nat_tests, more) in
    let first : nat_lt p.0 key ≡ true = grind (arith, nat_tests, next, under) in
    rw (here, first) more

not_with : (a b : Bool) → (a && b && false) ≡ false
not_with true true = refl
not_with true false = refl
not_with false b = refl

-- no pair with a key that isn't above the last one rises after them
not_behind : (low end key value : ℕ) (p : ℕ × ℕ) (ps : PairList) → key ≤ (unwrap_or (last_entry ps) p).0
    → rises low end ((p ∷ ps) ++ (key, value) ∷ []) ≡ false
not_behind low end key value p [] last =
    let under : nat_le (p.0 + 1) key ≡ false = grind (arith, nat_tests, last) in
    rw under (not_with (nat_le low p.0) (nat_lt p.0 end))
not_behind low end key value p (q ∷ qs) last = rw (not_behind (p.0 + 1) end key value q qs last)
    (not_with (nat_le low p.0) (nat_lt p.0 end))

pub none_behind : (last : Option ℕ) (key value : ℕ) (pairs : PairList) → last ≡ last_key pairs → is_above key last ≡ false
    → rises 0 key_count (pairs ++ (key, value) ∷ []) ≡ false
none_behind last key value [] is above = absurd (none (subst (λ (l : Option ℕ). is_above key l ≡ false) is above))
  where
    none : true ≡ false → ⊥
    none bad = cc bad
none_behind last key value (p ∷ ps) is above =
    let test : nat_lt (unwrap_or (last_entry ps) p).0 key ≡ false = subst (λ (l : Option ℕ). is_above key l ≡ false) is above in
    not_behind 0 key_count key value p ps (grind (arith, nat_tests, test))

all_below : (last : Option ℕ) (key : ℕ) (pairs : PairList) → last ≡ last_key pairs → rises 0 key_count pairs ≡ true
    → is_above key last ≡ true → rises 0 key pairs ≡ true
all_below last key [] is rise above = refl
all_below last key (p ∷ ps) is rise above =
    let test : nat_lt (unwrap_or (last_entry ps) p).0 key ≡ true = subst (λ (l : Option ℕ). is_above key l ≡ true) is above in
    below_next 0 key_count key p ps rise (grind (arith, nat_tests, test))

last_is : (key value : ℕ) (pairs : PairList) → last_entry (pairs ++ (key, value) ∷ []) ≡ Some (key, value)
last_is key value [] = refl
last_is key value (p ∷ ps) = ap (λ (o : Option (ℕ × ℕ)). Some (unwrap_or o p)) (last_is key value ps)

-- the pairs with one after them
module _ (last : Option ℕ) (key value : ℕ) (pairs : PairList) (is : last ≡ last_key pairs) where
  module _ (rise : rises 0 key_count pairs ≡ true) (above : is_above key last ≡ true) (is_key : key < key_count) where
    pub put_last : put key value pairs ≡ pairs ++ (key, value) ∷ []
    put_last = put_behind 0 key value pairs (all_below last key pairs is rise above)

    pub rise_with : rises 0 key_count (pairs ++ (key, value) ∷ []) ≡ true
    rise_with =
        let all = rises_with 0 key value pairs (omega arith) (all_below last key pairs is rise above) in
        rises_further 0 (key + 1) key_count (pairs ++ (key, value) ∷ []) (omega (arith, is_key)) all

    pub last_with : Some key ≡ last_key (pairs ++ (key, value) ∷ [])
    last_with = sym (ap (option_map (λ (p : ℕ × ℕ). p.0)) (last_is key value pairs))

-- what an iterator yielded, with one item more
pub yields_with : {T : Type 0} (steps : T → Option (ℕ × ℕ) → T → Type 0) (s t u : T) (items : PairList) (item : ℕ × ℕ)
    → Yields steps s items t → steps t (Some item) u → Yields steps s (items ++ item ∷ []) u
yields_with steps s t u [] item yields step = (u, subst (λ q. steps q (Some item) u) (sym yields) step, refl)
yields_with steps s t u (x ∷ xs) item yields step = (yields.0, yields.1, yields_with steps yields.0 t u xs item yields.2 step)

pub has_all : {U T : Type 0} (becomes : U → T → Type 0) (steps : T → Option (ℕ × ℕ) → T → Type 0) (pairs : U) (start : T)
    (items made : PairList)
    → becomes pairs start → Drains steps start items → rises 0 key_count items ≡ true → made ≡ items → HasAllOf becomes steps pairs made
has_all becomes steps pairs start items made begins drains rise is = record {
  start = start;
  begins = begins;
  drains = subst (Drains steps start) (sym is) drains;
  rise = ap (rises 0 key_count) is ∙ rise;
}

-- each key of a list that rises is a key
inside : (low end : ℕ) (p : ℕ × ℕ) (es rest : PairList) → rises low end (es ++ p ∷ rest) ≡ true → p.0 < end
inside low end p [] rest rise = grind (arith, nat_tests)
inside low end p (e ∷ es) rest rise =
    let more : rises (e.0 + 1) end (es ++ p ∷ rest) ≡ true = grind (arith, nat_tests) in
    inside (e.0 + 1) end p es rest more

-- the map has the pairs behind its own
pub record HasBehind (old : TableValue) (ps : PairList) (new : TableValue) : Type 0 where
  pub pairs : pairs_of new.slots ≡ pairs_of old.slots ++ ps
  pub config : new.config ≡ old.config

-- pairs that were put on a page in turn, and rise behind those of the map, are behind them
pub has_behind : (ps : PairList) (old new : TableValue) (page : ℕ) → Lawful old → Booked old → IsAscending (pairs_of old.slots ++ ps)
    → AppendsInTurn old page ps new → HasBehind old ps new
has_behind [] old new page law booked rise turn =
    record {
      pairs = ap (λ (t : TableValue). pairs_of t.slots) turn
          ∙ sym (append-nil (pairs_of old.slots));
      config = ap (λ (t : TableValue). t.config) turn;
    }
has_behind (p ∷ ps) old new page law booked rise turn =
    let whole : IsWhole old (length old.slots) = record { lawful = law; booked = booked; free_room = omega arith } in
    let receipt : Receipt = Inserted (suc (number_of old.book)) p.0 p.1 in
    let step : Proposal = insert page (slot_at old page).version p.0 p.1 in
    let next : IsWhole turn.0 (length old.slots) = whole_both old (length old.slots) page receipt turn.0 step whole turn.1 in
    let tells : ChangesKey old.slots turn.0.slots p.0 None (Some p.1) = tells_both old (length old.slots) page receipt turn.0 step whole
    turn.1 in
    let is_key : p.0 < key_count = inside 0 key_count p (pairs_of old.slots) ps rise in
    let one : pairs_of turn.0.slots ≡ pairs_of old.slots ++ p ∷ [] =
    put_pairs old turn.0 law next.lawful p.0 None (Some p.1) tells p.1 is_key refl ∙ put_next 0 key_count p (pairs_of old.slots) ps rise
    in
    let Behind : PairList → Type 0 = λ es. IsAscending (es ++ ps) in
    let others : HasBehind turn.0 ps new = has_behind ps turn.0 new page next.lawful next.booked
    (subst Behind (sym one) (still_ascends p (pairs_of old.slots) ps rise)) turn.2 in
    record {
      pairs = others.pairs ∙ (ap (λ (es : PairList). es ++ ps) one ∙ moved p (pairs_of old.slots) ps);
      config = others.config ∙ turn_keeps_config (both_steps step receipt page turn.1.seen turn.1.base) old turn.0 turn.1.takes;
    }

rises_lower : (a b : ℕ) (ps : PairList) → a ≤ b → rises b key_count ps ≡ true → rises a key_count ps ≡ true
rises_lower a b [] le h = refl
rises_lower a b (e ∷ es) le h = grind (arith, nat_tests)

back_rises : (low : ℕ) (es fs : PairList) → rises low key_count (es ++ fs) ≡ true → IsAscending fs
back_rises low [] fs h = rises_lower 0 low fs (omega arith) h
back_rises low (e ∷ es) fs h = let more : rises (e.0 + 1) key_count (es ++ fs) ≡ true = grind (arith, nat_tests)
    in back_rises (e.0 + 1) es fs more

front_rises : (low : ℕ) (es fs : PairList) → rises low key_count (es ++ fs) ≡ true → rises low key_count es ≡ true
front_rises low [] fs h = refl
front_rises low (e ∷ es) fs h =
    let more : rises (e.0 + 1) key_count (es ++ fs) ≡ true = grind (arith, nat_tests) in
    let others : rises (e.0 + 1) key_count es ≡ true = front_rises (e.0 + 1) es fs more in
    grind (arith, nat_tests)

-- the parts of a list that rises do
pub back_ascends : (es fs : PairList) → IsAscending (es ++ fs) → IsAscending fs
back_ascends es fs rise = back_rises 0 es fs rise

pub front_ascends : (es fs : PairList) → IsAscending (es ++ fs) → IsAscending es
front_ascends es fs rise = front_rises 0 es fs rise

-- a list that rises does with its back part split off
pub front_of_back : (es front back : PairList) (all : PairList) → all ≡ front ++ back → IsAscending (es ++ all) → IsAscending (es ++ front)
front_of_back es front back all is rise = front_ascends (es ++ front) back
    (subst IsAscending (ap (λ (l : PairList). es ++ l) is ∙ sym (append_assoc es front back)) rise)

-- a pair that is put behind the others leaves the rest behind it
pub put_moves : (p : ℕ × ℕ) (es rest new : PairList) → IsAscending (es ++ p ∷ rest) → new ≡ put p.0 p.1 es → new ++ rest ≡ es ++ p ∷ rest
put_moves p es rest new rise is = ap (λ (l : PairList). l ++ rest) (is ∙ put_next 0 key_count p es rest rise) ∙ moved p es rest

-- the fault of a pair that isn't above those before it
pub unsorted_fault : {U T : Type 0} (becomes : U → T → Type 0) (steps : T → Option (ℕ × ℕ) → T → Type 0) (pairs : U)
    (start before after : T) (items new : PairList) (next : ℕ × ℕ) (fault : SortedFault)
    → becomes pairs start → Yields steps start items before → steps before (Some next) after → rises 0 key_count items ≡ true
    → rises 0 key_count (items ++ next ∷ []) ≡ false
    → IsUnsortedBehind items fault → AppendsAll becomes steps pairs (Err fault) new
unsorted_fault becomes steps pairs start before after items new next (faults.New f) begins yields step rise not is = absurd is
unsorted_fault becomes steps pairs start before after items new next (faults.Unsorted number) begins yields step rise not is = record {
  start = start;
  begins = begins;
  rising = items;
  next = next;
  rest = after;
  yields = yields_with steps start before after items next yields step;
  rise = rise;
  not_with_next = not;
  many = is;
}
unsorted_fault becomes steps pairs start before after items new next (faults.Put f) begins yields step rise not is =
    record { start = start; begins = begins; rising = items; rest = before; yields = yields; rise = rise }

-- what was done at the edge, or wasn't
pub config_after : (ps : PairList) (old new : TableValue) (done : Bool) → Lawful old → Booked old → IsAscending (pairs_of old.slots ++ ps)
    → (done ≡ true → IsAppended old ps new) → (done ≡ false → new ≡ old) → new.config ≡ old.config
config_after ps old new true law booked rise appended unchanged = let it = appended refl
    in (has_behind ps old new it.page law booked rise it.appends).config
config_after ps old new false law booked rise appended unchanged = ap (λ (t : TableValue). t.config) (unchanged refl)
