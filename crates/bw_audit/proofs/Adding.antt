-- What one more receipt of a worker makes of the changes.
use Rattle.std.proofs.Common.{◌≡◌, ◌+◌, ◌<◌, ◌≤◌, ◌==◌, ◌++◌, ℕ, zero, suc, true, false, cond, List, [], ◌∷◌, length, Option, Some, None, refl, arith, sym, ◌∙◌, ap, subst, append_assoc, append-nil}
use Rattle.std.proofs.Common.{get_or, map}
use Rattle.std.specs.Prelude.{slice_set, replicate}
use Rattle.std.proofs.lemmas.Bool.Decides.{nat_tests}
use Rattle.std.specs.List.{AllByRecursion}
use Rattle.bw_step.specs.declared.receipt.Receipt.{Receipt}
use Rattle.bw_audit.specs.declared.change.Change.{Change}
use Rattle.bw_audit.specs.Changes.{add_change, all_changes, bearer, change_of, changed_by, changes_of, value_at}
use Rattle.bw_audit.specs.Legal.{times_borne}
use Rattle.bw_audit.specs.Replays.{add_receipts}

module _ {X : Type 0} where
  pub all-map : (P Q : X → Type 0) (xs : List X) → ((x : X) → P x → Q x) → AllByRecursion P xs → AllByRecursion Q xs
  all-map P Q [] f all = tt
  all-map P Q (x ∷ xs) f all = (f x all.0, all-map P Q xs f all.1)

  pub all-snoc : (P : X → Type 0) (xs : List X) (x : X) → AllByRecursion P xs → P x → AllByRecursion P (xs ++ x ∷ [])
  all-snoc P [] y all here = (here, tt)
  all-snoc P (x ∷ xs) y all here = (all.0, all-snoc P xs y all.1 here)

-- what is true of every trail, and then of the longer one too
pub all_added : (P Q : List Receipt → Type 0) (ts : List (List Receipt)) (worker : ℕ) (rs : List Receipt) → AllByRecursion P ts → ((t : List Receipt) → P t → Q t) → ((t : List Receipt) → P t → Q (t ++ rs))
    → AllByRecursion Q (add_receipts ts worker rs)
all_added P Q [] worker rs all others longer = tt
all_added P Q (t ∷ ts) zero rs all others longer = (longer t all.0, all-map P Q ts others all.1)
all_added P Q (t ∷ ts) (suc worker) rs all others longer = (others t all.0, all_added P Q ts worker rs all.1 others longer)

pub added_length : (ts : List (List Receipt)) (worker : ℕ) (rs : List Receipt) → length (add_receipts ts worker rs) ≡ length ts
added_length [] worker rs = refl
added_length (t ∷ ts) zero rs = refl
added_length (t ∷ ts) (suc worker) rs = ap suc (added_length ts worker rs)

pub none_added : (ts : List (List Receipt)) (worker : ℕ) → add_receipts ts worker [] ≡ ts
none_added [] worker = refl
none_added (t ∷ ts) zero = ap (λ u. u ∷ ts) (append-nil t)
none_added (t ∷ ts) (suc worker) = ap (λ us. t ∷ us) (none_added ts worker)

add_change-append : (o : Option Change) (cs ds : List Change) → add_change o (cs ++ ds) ≡ add_change o cs ++ ds
add_change-append None cs ds = refl
add_change-append (Some c) cs ds = refl

changes-snoc : (rs : List Receipt) (r : Receipt) → changes_of (rs ++ r ∷ []) ≡ changes_of rs ++ add_change (change_of r) []
changes-snoc [] r = refl
changes-snoc (q ∷ rs) r = ap (add_change (change_of q)) (changes-snoc rs r) ∙ add_change-append (change_of q) (changes_of rs) (add_change (change_of r) [])

-- the changes before and after the place where a worker's next one goes
pub record PartsAt (ts : List (List Receipt)) (worker : ℕ) : Type 0 where
  pub front : List Change
  pub back : List Change
  pub whole : all_changes ts ≡ front ++ back
  pub added : (r : Receipt) → all_changes (add_receipts ts worker (r ∷ [])) ≡ front ++ (add_change (change_of r) [] ++ back)

pub parts_at : (ts : List (List Receipt)) (worker : ℕ) → worker < length ts → PartsAt ts worker
parts_at [] worker inside = absurd (omega arith)
parts_at (t ∷ ts) zero inside = record {
  front = changes_of t;
  back = all_changes ts;
  whole = refl;
  added = λ r. ap (λ cs. cs ++ all_changes ts) (changes-snoc t r) ∙ append_assoc (changes_of t) (add_change (change_of r) []) (all_changes ts);
}
parts_at (t ∷ ts) (suc worker) inside =
    let p = parts_at ts worker (omega arith) in
    record {
      front = changes_of t ++ p.front;
      back = p.back;
      whole = ap (λ cs. changes_of t ++ cs) p.whole ∙ sym (append_assoc (changes_of t) p.front p.back);
      added = λ r. ap (λ cs. changes_of t ++ cs) (p.added r) ∙ sym (append_assoc (changes_of t) p.front (add_change (change_of r) [] ++ p.back));
    }

-- a receipt that reports no change
pub silent_changes : (ts : List (List Receipt)) (worker : ℕ) (r : Receipt) → worker < length ts → change_of r ≡ None → all_changes (add_receipts ts worker (r ∷ [])) ≡ all_changes ts
silent_changes ts worker r inside none =
    let p = parts_at ts worker inside in
    p.added r ∙ (ap (λ o. p.front ++ (add_change o [] ++ p.back)) none ∙ sym p.whole)

-- one more change among others
bearer-among : (front back : List Change) (c : Change) (m : ℕ) → (c.number == m) ≡ false → bearer (front ++ c ∷ back) m ≡ bearer (front ++ back) m
bearer-among [] back c m other = rw other refl
bearer-among (d ∷ front) back c m other = ap (cond (d.number == m) (Some d)) (bearer-among front back c m other)

bearer-new : (front back : List Change) (c : Change) (m : ℕ) → (c.number == m) ≡ true → bearer (front ++ back) m ≡ None → bearer (front ++ c ∷ back) m ≡ Some c
bearer-new [] back c m same none = rw same refl
bearer-new (d ∷ front) back c m same none =
    let rest = bearer-new front back c m same in
    elim (d.number == m) as (λ t. cond t (Some d) (bearer (front ++ back) m) ≡ None → cond t (Some d) (bearer (front ++ c ∷ back) m) ≡ Some c) [
      | true ↦ λ bad. cc
      | false ↦ λ e. rest e
    ] none

times-among : (front back : List Change) (c : Change) (m : ℕ) → times_borne (front ++ c ∷ back) m ≡ cond {A = ℕ} (c.number == m) 1 0 + times_borne (front ++ back) m
times-among [] back c m = refl
times-among (d ∷ front) back c m = let e = times-among front back c m in omega arith

length-among : (front back : List Change) (c : Change) → length (front ++ c ∷ back) ≡ suc (length (front ++ back))
length-among [] back c = refl
length-among (d ∷ front) back c = ap suc (length-among front back c)

-- a number that no change bears is borne 0 times
pub unborne : (cs : List Change) (m : ℕ) → bearer cs m ≡ None → times_borne cs m ≡ 0
unborne [] m none = refl
unborne (c ∷ cs) m none =
    let rest = unborne cs m in
    elim (c.number == m) as (λ t. cond t (Some c) (bearer cs m) ≡ None → cond {A = ℕ} t 1 0 + times_borne cs m ≡ 0) [
      | true ↦ λ bad. cc
      | false ↦ λ e. let r = rest e in omega arith
    ] none

-- what one more change, whose number is new, makes of the others
pub record IsOneMore (old new : List Change) (c : Change) : Type 0 where
  pub count : length new ≡ suc (length old)
  pub its_own : bearer old c.number ≡ None → bearer new c.number ≡ Some c
  pub others : (m : ℕ) → (c.number == m) ≡ false → bearer new m ≡ bearer old m
  pub times : (m : ℕ) → times_borne new m ≡ cond {A = ℕ} (c.number == m) 1 0 + times_borne old m

self_same : (n : ℕ) → (n == n) ≡ true
self_same n = grind (arith, nat_tests)

one_more_among : (front back : List Change) (c : Change) → IsOneMore (front ++ back) (front ++ c ∷ back) c
one_more_among front back c = record {
  count = length-among front back c;
  its_own = bearer-new front back c c.number (self_same c.number);
  others = bearer-among front back c;
  times = times-among front back c;
}

pub one_more : (ts : List (List Receipt)) (worker : ℕ) (r : Receipt) (c : Change) → worker < length ts → change_of r ≡ Some c → IsOneMore (all_changes ts) (all_changes (add_receipts ts worker (r ∷ []))) c
one_more ts worker r c inside reported =
    let p = parts_at ts worker inside in
    let new : all_changes (add_receipts ts worker (r ∷ [])) ≡ p.front ++ c ∷ p.back = p.added r ∙ ap (λ o. p.front ++ (add_change o [] ++ p.back)) reported in
    subst (λ cs. IsOneMore (all_changes ts) cs c) (sym new) (subst (λ cs. IsOneMore cs (p.front ++ c ∷ p.back) c) (sym p.whole) (one_more_among p.front p.back c))

-- the map after fewer changes than a number stays, whatever bears the number
pub value_before : (old new : List Change) (n m key : ℕ) → ((j : ℕ) → j ≤ n → bearer new j ≡ bearer old j) → m ≤ n → value_at new m key ≡ value_at old m key
value_before old new n zero key same inside = refl
value_before old new n (suc m) key same inside =
    ap (λ o. changed_by o key (value_at new m key)) (same (suc m) inside)
    ∙ ap (changed_by (bearer old (suc m)) key) (value_before old new n m key same (omega arith))

-- a receipt put at the end of one of the lists
pub receipt_put : {X : Type 0} → (items : X → List Receipt) (ts : List X) (worker : ℕ) (d pushed : X) (r : Receipt) → worker < length ts → items pushed ≡ items (get_or ts worker d) ++ r ∷ []
    → map items (slice_set ts worker pushed) ≡ add_receipts (map items ts) worker (r ∷ [])
receipt_put items [] worker d pushed r inside e = absurd (omega arith)
receipt_put items (t ∷ ts) zero d pushed r inside e = ap (λ u. u ∷ map items ts) e
receipt_put items (t ∷ ts) (suc worker) d pushed r inside e = ap (λ us. items t ∷ us) (receipt_put items ts worker d pushed r (omega arith) e)

-- one more empty trail
pub replicate-snoc : {X : Type 0} → (n : ℕ) (x : X) → replicate (n + 1) x ≡ replicate n x ++ x ∷ []
replicate-snoc zero x = refl
replicate-snoc (suc n) x = let on : suc n + 1 ≡ suc (n + 1) = omega arith in rw on (ap (λ xs. x ∷ xs) (replicate-snoc n x))
