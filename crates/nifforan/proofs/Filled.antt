-- Maps that are full before all pairs are in.
use Rattle.std.proofs.Common.{◌≡◌, ℕ, ◌+◌, ◌-◌, true, [], ◌∷◌, ◌++◌, List, Option, length, refl, sym, ap, subst, ◌∙◌, append_assoc, append-nil, arith}
use Rattle.std.specs.Prelude.{Result, Ok, Err, IfErr}
use Rattle.std.specs.Result.{IsErrAnd}
use Rattle.std.specs.Iterator.{Yields, YieldsFirst}
use Rattle.std.proofs.lemmas.Bool.Decides.{nat_tests}
use Rattle.bw_delta.specs.Entries.{rises}
use Rattle.bw_law.specs.Tables.{TableValue}
use Rattle.bw_keys.specs.declared.config.Config.{Config}
use Rattle.bw_procedures.specs.declared.fault.Fault.{Fault}
use Rattle.bw_procedures.specs.declared.fault.Fault.TheVariants.{Contended, NoMemory, TableFull, TooTall, Worn}
use Rattle.bw_step.specs.declared.receipt.Receipt.{Receipt}
use Rattle.nifforan.specs.Calls.{set_all, SetsAll}
use Rattle.nifforan.specs.Filling.{AreAllTaken, AreFirstOf, IsFullCopy, IsFullOf}
use Rattle.nifforan.specs.Maps.{PairList, MapValue, IsReadyUpto, map_upto}
use Rattle.nifforan.specs.Rising.{CutsAll, CutsBehind, IsCutShort, IsFullOfRising}
use Rattle.nifforan.specs.declared.fill.FillFault.{FillFault}
use Rattle.nifforan.specs.declared.fill.FillFault.TheVariants as fills
use Rattle.nifforan.specs.declared.sorted.SortedFault.{SortedFault}
use Rattle.nifforan.specs.declared.sorted.SortedFault.TheVariants as sorts
use Rattle.nifforan.proofs.Fills.{set_all_same}

none_of : (ids : List ℕ) → length ids ≡ 0 → ids ≡ []
none_of [] none = refl
none_of (id ∷ ids) none = absurd (omega (arith, none))

-- a map that has room for no page more is a table's whose pages are all taken
pub all_taken : (most : ℕ) (table : TableValue) (trail : List Receipt) → IsReadyUpto most table trail → (map_upto most table).free ≡ 0
    → AreAllTaken (map_upto most table).config (map_upto most table).pairs
all_taken most table trail ready none =
    let all : table.config.pages ≡ most = omega (arith, none, ready.pages) in
    record {
      table = table;
      lawful = ready.lawful;
      booked = ready.booked;
      config = ap (λ (n : ℕ). record table.config { pages = n }) all;
      none_free = none_of table.free (omega (arith, none));
      has = refl;
    }

-- Pairs that are the first ones of others.

pub first_all : (pairs left all : PairList) → pairs ++ left ≡ all → AreFirstOf pairs all
first_all pairs left all is = (left, sym is)

pub first_same : (pairs all : PairList) → pairs ≡ all → AreFirstOf pairs all
first_same pairs all is = ([], sym (append-nil pairs ∙ is))

-- the first ones of the first part are the first ones of all
pub first_more : (pairs some left all : PairList) → some ++ left ≡ all → AreFirstOf pairs some → AreFirstOf pairs all
first_more pairs some left all is first =
    (first.0 ++ left, sym is ∙ (ap (λ (l : PairList). l ++ left) first.1 ∙ append_assoc pairs first.0 left))

pub cut_more : (some left all : PairList) (map : MapValue) (fault : Fault) → some ++ left ≡ all → IsCutShort some map fault
    → IsCutShort all map fault
cut_more some left all map fault is cut = (first_more map.pairs some left all is cut.0, cut.1)

pub cut_is : (some all : PairList) (map : MapValue) (fault : Fault) → some ≡ all → IsCutShort some map fault → IsCutShort all map fault
cut_is some all map fault is cut = subst (λ (l : PairList). IsCutShort l map fault) is cut

-- a fault that cut the pairs of an iterator short
pub cuts_all : {U T : Type 0} (becomes : U → T → Type 0) (steps : T → Option (ℕ × ℕ) → T → Type 0) (pairs : U) (map : MapValue)
    (fault : Fault) (start rest : T) (items : PairList) → becomes pairs start → Yields steps start items rest → IsCutShort items map fault
    → CutsAll becomes steps pairs map (sorts.Put fault)
cuts_all becomes steps pairs map TableFull start rest items begins yields cut =
    record { start = start; begins = begins; items = items; rest = rest; yields = yields; filled = (cut.0, cut.1 refl) }
cuts_all becomes steps pairs map NoMemory start rest items begins yields cut = tt
cuts_all becomes steps pairs map Contended start rest items begins yields cut = tt
cuts_all becomes steps pairs map TooTall start rest items begins yields cut = tt
cuts_all becomes steps pairs map Worn start rest items begins yields cut = tt

pub cuts_behind : {U T : Type 0} (becomes : U → T → Type 0) (steps : T → Option (ℕ × ℕ) → T → Type 0) (pairs : U) (map : MapValue)
    (fault : SortedFault) (start rest : T) (items : PairList) → becomes pairs start → Yields steps start items rest
    → CutsBehind items map fault → CutsAll becomes steps pairs map fault
cuts_behind becomes steps pairs map (sorts.Put fault) start rest items begins yields cut =
    cuts_all becomes steps pairs map fault start rest items begins yields cut
cuts_behind becomes steps pairs map (sorts.New fault) start rest items begins yields cut = tt
cuts_behind becomes steps pairs map (sorts.Unsorted number) start rest items begins yields cut = tt

-- what is so of the map is so once it is gone
pub full_rising : {U T : Type 0} (becomes : U → T → Type 0) (steps : T → Option (ℕ × ℕ) → T → Type 0) (config : Config) (pairs : U)
    (map : MapValue) (fault : SortedFault) → map.config ≡ config → (map.free ≡ 0 → AreAllTaken map.config map.pairs)
    → CutsAll becomes steps pairs map fault → IsFullOfRising becomes steps config pairs fault
full_rising becomes steps config pairs map (sorts.Put TableFull) same law cuts = record {
  start = cuts.start;
  begins = cuts.begins;
  items = cuts.items;
  rest = cuts.rest;
  yields = cuts.yields;
  filled = (map.pairs, cuts.filled.0, subst (λ (c : Config). AreAllTaken c map.pairs) same (law cuts.filled.1));
}
full_rising becomes steps config pairs map (sorts.Put NoMemory) same law cuts = tt
full_rising becomes steps config pairs map (sorts.Put Contended) same law cuts = tt
full_rising becomes steps config pairs map (sorts.Put TooTall) same law cuts = tt
full_rising becomes steps config pairs map (sorts.Put Worn) same law cuts = tt
full_rising becomes steps config pairs map (sorts.New fault) same law cuts = tt
full_rising becomes steps config pairs map (sorts.Unsorted number) same law cuts = tt

-- Pairs in any order.

pub full_made : {U T R E : Type 0} (becomes : U → T → Type 0) (steps : T → Option (ℕ × ℕ) → T → Type 0) (config : Config) (pairs : U)
    (error : E) (result : Result R E) (old new : MapValue) (fault : Fault) → result ≡ Err error → old.pairs ≡ [] → new.config ≡ config
    → (fault ≡ TableFull → new.free ≡ 0) → (new.free ≡ 0 → AreAllTaken new.config new.pairs)
    → SetsAll becomes steps pairs result old.pairs new.pairs
    → IsFullOf becomes steps config pairs (fills.Set fault)
full_made becomes steps config pairs error (Ok reply) old new fault is empty same full law sets = absurd (cc is)
full_made becomes steps config pairs error (Err e) old new TableFull is empty same full law sets =
    let made : new.pairs ≡ set_all sets.2.0 [] = sets.2.1 ∙ ap (set_all sets.2.0) empty in (
      sets.0,
      sets.2.0,
      sets.2.2.0,
      sets.1,
      sets.2.2.1,
      subst (AreAllTaken config) made (subst (λ (c : Config). AreAllTaken c new.pairs) same (law (full refl))),
    )
full_made becomes steps config pairs error (Err e) old new NoMemory is empty same full law sets = tt
full_made becomes steps config pairs error (Err e) old new Contended is empty same full law sets = tt
full_made becomes steps config pairs error (Err e) old new TooTall is empty same full law sets = tt
full_made becomes steps config pairs error (Err e) old new Worn is empty same full law sets = tt

yields_some : (start items last : PairList) → Yields (YieldsFirst (λ (left : PairList). left)) start items last → start ≡ items ++ last
yields_some start [] last yields = yields
yields_some start (item ∷ items) last yields = yields.1 ∙ ap (λ (rest : PairList). item ∷ rest) (yields_some yields.0 items last yields.2)

front_rises : (low end : ℕ) (es fs : PairList) → rises low end (es ++ fs) ≡ true → rises low end es ≡ true
front_rises low end [] fs h = refl
front_rises low end (e ∷ es) fs h =
    let more : rises (e.0 + 1) end (es ++ fs) ≡ true = grind (arith, nat_tests) in
    let others : rises (e.0 + 1) end es ≡ true = front_rises (e.0 + 1) end es fs more in
    grind (arith, nat_tests)

-- the pairs that were taken of a map
pub first_of : (start items last pairs : PairList) → start ≡ pairs → Yields (YieldsFirst (λ (left : PairList). left)) start items last
    → AreFirstOf items pairs
first_of start items last pairs is yields = (last, sym is ∙ yields_some start items last yields)

module _ {U T : Type 0} (becomes : U → T → Type 0) (steps : T → Option (ℕ × ℕ) → T → Type 0) (pairs : U) (end : ℕ) (config : Config)
    (map : MapValue) (same : config ≡ map.config) (rise : rises 0 end map.pairs ≡ true) where
  full_copy : (fault : FillFault) → IsFullOf becomes steps config pairs fault
      → ((it : T) (items : PairList) (rest : T) → becomes pairs it → Yields steps it items rest → AreFirstOf items map.pairs)
      → IsFullCopy map fault
  full_copy (fills.Set TableFull) full first =
      let items = full.1 in
      let all = first full.0 items full.2 full.3 full.4 in
      let front : rises 0 end items ≡ true =
      front_rises 0 end items all.0 (subst (λ (l : PairList). rises 0 end l ≡ true) all.1 rise) in
      (items, all, subst (λ (c : Config). AreAllTaken c items) same (subst (AreAllTaken config) (set_all_same end items front) full.5))
  full_copy (fills.Set NoMemory) full first = tt
  full_copy (fills.Set Contended) full first = tt
  full_copy (fills.Set TooTall) full first = tt
  full_copy (fills.Set Worn) full first = tt
  full_copy (fills.New fault) full first = tt

  -- a copy of a map
  pub full_copies : {R : Type 0} (result : Result R FillFault) → IfErr result (IsFullOf becomes steps config pairs)
      → ((it : T) (items : PairList) (rest : T) → becomes pairs it → Yields steps it items rest → AreFirstOf items map.pairs)
      → IfErr result (IsFullCopy map)
  full_copies (Ok made) full first = tt
  full_copies (Err fault) full first = full_copy fault full first

-- a fault that `?` passes on
pub passed_on : {T : Type 0} (r : Result T Fault) (fault : Fault) (P : Fault → Type 0) → IsErrAnd r (λ e. e ≡ fault) → P fault → IfErr r P
passed_on (Ok x) fault P same holds = absurd same
passed_on (Err e) fault P same holds = subst P (sym same) holds

abbrev failed : Fault → Result (Unit {0}) Fault
failed fault = Err fault

-- the pairs of a run that were put before a fault
pub cut_short : (map : MapValue) (left all : PairList) (fault : Fault) → map.pairs ++ left ≡ all
    → (failed fault ≡ failed TableFull → map.free ≡ 0) → IsCutShort all map fault
cut_short map left all fault is full = (first_all map.pairs left all is, λ same. full (ap failed same))
