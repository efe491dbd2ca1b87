-- Lists of the workers, one of which is changed.
use Rattle.std.proofs.Common.{◌≡◌, ℕ, zero, suc, ◌<◌, ◌==◌, Bool, true, false, List, [], ◌∷◌, ◌++◌, length, get_or, map, refl, ap, sym, ◌∙◌, append_assoc, append-nil, arith}
use Rattle.std.specs.Prelude.{slice_set, replicate, if◌then◌else◌}
use Rattle.std.proofs.lemmas.Bool.Decides.{nat_tests}
use Rattle.bw_procedures.specs.declared.act.Act.{Act}
use Rattle.bw_texts.specs.declared.trace.row.Row.{Row}
use Rattle.bw_run.specs.Rows.{acts_of}

next_test : (a b : ℕ) → (suc a == suc b) ≡ (a == b)
next_test a b = grind (arith, nat_tests)

first_test : (b : ℕ) → (0 == suc b) ≡ false
first_test b = grind (arith, nat_tests)

last_test : (a : ℕ) → (suc a == 0) ≡ false
last_test a = grind (arith, nat_tests)

-- one more item at the end of one worker's list
pub put_on : {X T : Type 0} → (items : X → List T) (lists : List X) (at : ℕ) (d pushed : X) (item : T) → at < length lists → items pushed ≡ items (get_or lists at d) ++ item ∷ [] → (worker : ℕ)
    → get_or (map items (slice_set lists at pushed)) worker [] ≡ get_or (map items lists) worker [] ++ (if at == worker then item ∷ [] else [])
put_on items [] at d pushed item inside e worker = absurd (omega arith)
put_on items (x ∷ xs) zero d pushed item inside e zero = e
put_on items (x ∷ xs) zero d pushed item inside e (suc worker) = rw (first_test worker) (sym (append-nil (get_or (map items xs) worker [])))
put_on items (x ∷ xs) (suc at) d pushed item inside e zero = rw (last_test at) (sym (append-nil (items x)))
put_on items (x ∷ xs) (suc at) d pushed item inside e (suc worker) = rw (next_test at worker) (put_on items xs at d pushed item (omega arith) e worker)

-- the first item taken out of one worker's list
pub taken_from : {X T : Type 0} → (items : X → List T) (lists : List X) (at : ℕ) (d left : X) (item : T) → at < length lists → items (get_or lists at d) ≡ item ∷ items left → (worker : ℕ)
    → get_or (map items lists) worker [] ≡ (if at == worker then item ∷ get_or (map items (slice_set lists at left)) worker [] else get_or (map items (slice_set lists at left)) worker [])
taken_from items [] at d left item inside e worker = absurd (omega arith)
taken_from items (x ∷ xs) zero d left item inside e zero = e
taken_from items (x ∷ xs) zero d left item inside e (suc worker) = rw (first_test worker) refl
taken_from items (x ∷ xs) (suc at) d left item inside e zero = rw (last_test at) refl
taken_from items (x ∷ xs) (suc at) d left item inside e (suc worker) = rw (next_test at worker) (taken_from items xs at d left item (omega arith) e worker)

pub none_there : {T : Type 0} → (n worker : ℕ) → get_or (replicate {A = List T} n []) worker [] ≡ []
none_there zero worker = refl
none_there (suc n) zero = refl
none_there (suc n) (suc worker) = none_there n worker

-- one more item of the worker's own comes first of those that follow
pub own_first : {T : Type 0} → (own : Bool) (so_far : List T) (item : T) (items : List T) → (so_far ++ (if own then item ∷ [] else [])) ++ items ≡ so_far ++ (if own then item ∷ items else items)
own_first true so_far item items = append_assoc so_far (item ∷ []) items
own_first false so_far item items = ap (λ (l : List _). l ++ items) (append-nil so_far)

-- what a worker has so far and what its rows to come ask for is in all the same
pub plan_step : (plan more : List (List Act)) (row : Row) (rest : List Row) (worker : ℕ)
    → get_or more worker [] ≡ get_or plan worker [] ++ (if row.worker == worker then row.act ∷ [] else [])
    → get_or more worker [] ++ acts_of worker rest ≡ get_or plan worker [] ++ acts_of worker (row ∷ rest)
plan_step plan more row rest worker adds =
    ap (λ (l : List Act). l ++ acts_of worker rest) adds ∙ own_first (row.worker == worker) (get_or plan worker []) row.act (acts_of worker rest)

-- so many empty lists are as many of what each has
pub none_of : {X T U : Type 0} → (items : X → List T) (own : List T → List U) (lists : List X) (n : ℕ) → own [] ≡ []
    → map items lists ≡ replicate n [] → map (λ list. own (items list)) lists ≡ replicate n []
none_of items own [] zero none are = refl
none_of items own [] (suc n) none are = absurd (cc are)
none_of items own (x ∷ xs) zero none are = absurd (cc are)
none_of items own (x ∷ xs) (suc n) none are =
    let first : items x ≡ [] = cc are in
    let rest : map items xs ≡ replicate n [] = cc are in
    cc (ap own first, none, none_of items own xs n none rest)
