-- A history with no bad receipt, whose changes leave the pairs, is legal.
use Rattle.std.proofs.Common.{◌≡◌, ◌+◌, ◌-◌, ◌<◌, ◌≤◌, ◌==◌, ◌++◌, ℕ, zero, suc, Bool, true, false, not, ◌||◌, ◌&&◌, cond, List, [], ◌∷◌, length, take, Option, Some, None, refl, arith, sym, ◌∙◌, add-zero, append_assoc, length-append}
use Rattle.std.specs.Prelude.{is_some, nat_lt}
use Rattle.std.proofs.lemmas.Bool.Decides.{nat_tests}
use Rattle.std.specs.Option.{option_eq}
use Rattle.std.specs.Bool.{nat_eq}
use Rattle.std.specs.List.{AllByRecursion}
use Rattle.bw_audit.specs.declared.change.Change.{Change}
use Rattle.bw_step.specs.declared.receipt.Receipt.{Receipt}
use Rattle.bw_step.specs.Tellings.{Telling, change, look, shape, telling_of}
use Rattle.bw_audit.specs.Changes.{add_change, all_changes, bearer, change_of, change_reported, changed_by, changes_of, value_at}
use Rattle.std.proofs.lemmas.List.{append-nil}
use Rattle.std.proofs.Math.Seq.{take-append_seam}
use Rattle.bw_audit.proofs.Counting.{each_one, total-times}
use Rattle.bw_audit.specs.declared.verdict.Verdict.TheVariants.{Yes, No}
use Rattle.bw_delta.specs.Entries.{at}
use Rattle.bw_audit.specs.Legal.{IsLegal, AllRise, IsTrueOf, IsTrueReply, position_after, rises_from, times_borne}
use Rattle.bw_audit.specs.Verdicts.{verdict_at, verdict_of, at_worker, changes_hold, first_bad, first_fault, is_bad, is_bad_change, is_misnumbered, leaves, pairs_hold}

same_option : (x y : Option ℕ) → option_eq nat_eq x y ≡ true → x ≡ y
same_option None None e = refl
same_option None (Some b) e = cc
same_option (Some a) None e = cc
same_option (Some a) (Some b) e = let h : a ≡ b = grind (arith, nat_tests) in cc

or_parts : (a b : Bool) → (a || b) ≡ false → (a ≡ false) × (b ≡ false)
or_parts true b e = cc
or_parts false b e = (refl, e)

and_parts : (a b : Bool) → (a && b) ≡ true → (a ≡ true) × (b ≡ true)
and_parts true b e = (refl, e)
and_parts false b e = cc

not_part : (a : Bool) → not a ≡ false → a ≡ true
not_part true e = refl
not_part false e = cc

-- the change is numbered within the count, by a number that none of those before it bears
abbrev pub IsNumbered : List Change → ℕ → Option Change → Type 0
IsNumbered cs before None = Unit {0}
IsNumbered cs before (Some c) = is_misnumbered cs before c.number ≡ false

abbrev pub AllNumbered : List Change → ℕ → List Change → Type 0
AllNumbered cs before [] = Unit {0}
AllNumbered cs before (c ∷ ds) = (is_misnumbered cs before c.number ≡ false) × AllNumbered cs (before + 1) ds

good_change : (cs : List Change) (before : ℕ) (c : Change) → is_bad_change cs before c ≡ false → (is_misnumbered cs before c.number ≡ false) × (value_at cs (c.number - 1) c.key ≡ c.before)
good_change cs before c e =
    let p = or_parts (is_misnumbered cs before c.number) (not (option_eq nat_eq (value_at cs (c.number - 1) c.key) c.before)) e in
    (p.0, same_option (value_at cs (c.number - 1) c.key) c.before (not_part (option_eq nat_eq (value_at cs (c.number - 1) c.key) c.before) p.1))

good_telling : (cs : List Change) (before last : ℕ) (reported : Telling) → is_bad cs before last reported ≡ false → (rises_from last reported ≡ true) × IsTrueOf cs reported × IsNumbered cs before (change_reported reported)
good_telling cs before last (change number key had has) e =
    let c : Change = record { number = number; key = key; before = had; after = has } in
    let p = or_parts (not (nat_lt last number)) (is_bad_change cs before c) e in
    let q = good_change cs before c p.1 in
    (not_part (nat_lt last number) p.0, q.1, q.0)
good_telling cs before last (look at key found) e =
    let p = or_parts (not (not (nat_lt at last))) (nat_lt (length cs) at || not (option_eq nat_eq (value_at cs at key) found)) e in
    let q = or_parts (nat_lt (length cs) at) (not (option_eq nat_eq (value_at cs at key) found)) p.1 in
    let below : nat_lt (length cs) at ≡ false = q.0 in
    let within : at ≤ length cs = grind (arith, nat_tests) in
    (not_part (not (nat_lt at last)) p.0, (within, same_option (value_at cs at key) found (not_part (option_eq nat_eq (value_at cs at key) found) q.1)), tt)
good_telling cs before last shape e = (refl, tt, tt)

none_parts : (b : Bool) (place : ℕ) (o : Option ℕ) → cond b (Some place) o ≡ None → (b ≡ false) × (o ≡ None)
none_parts true place o e = cc
none_parts false place o e = (refl, e)

numbered_cons : (cs : List Change) (before : ℕ) (o : Option Change) (ds : List Change) → IsNumbered cs before o → AllNumbered cs (before + length (add_change o [])) ds → AllNumbered cs before (add_change o ds)
numbered_cons cs before None ds h more = rw add-zero at more
numbered_cons cs before (Some c) ds h more = (h, more)

good_trail : (cs : List Change) (before last place : ℕ) (rs : List Receipt) → first_bad cs before last place rs ≡ None
    → AllRise last rs × AllByRecursion (IsTrueReply cs) rs × AllNumbered cs before (changes_of rs)
good_trail cs before last place [] e = (tt, tt, tt)
good_trail cs before last place (r ∷ rs) e =
    let later = first_bad cs (before + length (add_change (change_of r) [])) (position_after last (telling_of r)) (place + 1) rs in
    let s = none_parts (is_bad cs before last (telling_of r)) place later e in
    let g = good_telling cs before last (telling_of r) s.0 in
    let more = good_trail cs (before + length (add_change (change_of r) [])) (position_after last (telling_of r)) (place + 1) rs s.1 in
    ((g.0, more.0), (g.1, more.1), numbered_cons cs before (change_of r) (changes_of rs) g.2 more.2)

numbered_append : (cs : List Change) (before : ℕ) (ds es : List Change) → AllNumbered cs before ds → AllNumbered cs (before + length ds) es → AllNumbered cs before (ds ++ es)
numbered_append cs before [] es h more = rw add-zero at more
numbered_append cs before (d ∷ ds) es h more =
    let e : before + suc (length ds) ≡ (before + 1) + length ds = omega arith in
    (h.0, numbered_append cs (before + 1) ds es h.1 (rw e at more))

worker_parts : (worker : ℕ) (o : Option ℕ) (later : Option (ℕ × ℕ)) → at_worker worker o later ≡ None → (o ≡ None) × (later ≡ None)
worker_parts worker None later e = (refl, e)
worker_parts worker (Some place) later e = cc

pub good_trails : (cs : List Change) (before worker : ℕ) (ts : List (List Receipt)) → first_fault cs before worker ts ≡ None
    → AllByRecursion (AllRise 0) ts × AllByRecursion (AllByRecursion (IsTrueReply cs)) ts × AllNumbered cs before (all_changes ts)
good_trails cs before worker [] e = (tt, tt, tt)
good_trails cs before worker (t ∷ ts) e =
    let s = worker_parts worker (first_bad cs before 0 0 t) (first_fault cs (before + length (changes_of t)) (worker + 1) ts) e in
    let g = good_trail cs before 0 0 t s.0 in
    let more = good_trails cs (before + length (changes_of t)) (worker + 1) ts s.1 in
    ((g.0, more.0), (g.1, more.1), numbered_append cs before (changes_of t) (all_changes ts) g.2 more.2)

borne_none : (ps : List Change) (m : ℕ) → is_some (bearer ps m) ≡ false → times_borne ps m ≡ 0
borne_none [] m h = refl
borne_none (c ∷ ps) m h =
    let rest = borne_none ps m in
    elim (c.number == m) as (λ t. is_some (cond t (Some c) (bearer ps m)) ≡ false → cond t 1 0 + times_borne ps m ≡ 0) [
      | true ↦ λ bad. cc
      | false ↦ λ e. let r = rest e in omega arith
    ] h

pub times-snoc : (ps : List Change) (c : Change) (m : ℕ) → times_borne (ps ++ c ∷ []) m ≡ times_borne ps m + cond {A = ℕ} (c.number == m) 1 0
times-snoc [] c m = omega arith
times-snoc (p ∷ ps) c m = let e = times-snoc ps c m in omega arith

numbered_parts : (cs : List Change) (before number : ℕ) → is_misnumbered cs before number ≡ false → (0 < number) × (number ≤ length cs) × (is_some (bearer (take before cs) number) ≡ false)
numbered_parts cs before number e =
    let p = or_parts ((number == 0) || nat_lt (length cs) number) (is_some (bearer (take before cs) number)) e in
    let q = or_parts (number == 0) (nat_lt (length cs) number) p.0 in
    let a : (number == 0) ≡ false = q.0 in
    let b : nat_lt (length cs) number ≡ false = q.1 in
    (grind (arith, nat_tests), grind (arith, nat_tests), p.1)

one_more : (ps : List Change) (c : Change) → ((m : ℕ) → times_borne ps m ≤ 1) → times_borne ps c.number ≡ 0 → (m : ℕ) → times_borne (ps ++ c ∷ []) m ≤ 1
one_more ps c h none m =
    let e = times-snoc ps c m in
    let before = h m in
    elim (c.number == m) as (λ t. (c.number == m) ≡ t → times_borne (ps ++ c ∷ []) m ≤ 1) [
      | true ↦ λ is.
          let same : c.number ≡ m = grind (arith, nat_tests) in
          let zero_there : times_borne ps m ≡ 0 = rw (← same) none in
          let one : cond {A = ℕ} (c.number == m) 1 0 ≡ 1 = rw is refl in
          omega arith
      | false ↦ λ is. let none_more : cond {A = ℕ} (c.number == m) 1 0 ≡ 0 = rw is refl in omega arith
    ] refl

at_most_once : (cs ps ds : List Change) → cs ≡ ps ++ ds → ((m : ℕ) → times_borne ps m ≤ 1) → AllNumbered cs (length ps) ds
    → ((m : ℕ) → times_borne cs m ≤ 1) × AllByRecursion (λ (c : Change). (0 < c.number) × (c.number ≤ length cs)) ds
at_most_once cs ps [] e h all = ((λ m. rw (e, append-nil) (h m)), tt)
at_most_once cs ps (c ∷ ds) e h all =
    let p = numbered_parts cs (length ps) c.number all.0 in
    let front : take (length ps) cs ≡ ps = rw e (take-append_seam ps (c ∷ ds)) in
    let none : times_borne ps c.number ≡ 0 = borne_none ps c.number (rw front at p.2) in
    let whole : cs ≡ (ps ++ c ∷ []) ++ ds = rw append_assoc e in
    let len : length ps + 1 ≡ length (ps ++ c ∷ []) = omega (arith, length-append ps (c ∷ [])) in
    let rest = at_most_once cs (ps ++ c ∷ []) ds whole (one_more ps c h none) (rw len at all.1) in
    (rest.0, ((p.0, p.1), rest.1))

pub each_once : (cs : List Change) → AllNumbered cs 0 cs → (m : ℕ) → 0 < m → m ≤ length cs → times_borne cs m ≡ 1
each_once cs all =
    let nothing : (m : ℕ) → times_borne [] m ≤ 1 = λ m. omega arith in
    let p = at_most_once cs [] cs refl nothing all in
    each_one (times_borne cs) (length cs) p.0 (total-times cs (length cs) p.1)

-- a change of this key is among them
abbrev has_key : List Change → ℕ → Bool
has_key [] key = false
has_key (c ∷ cs) key = (c.key == key) || has_key cs key

keyless_step : (cs : List Change) (m key : ℕ) (had : Option ℕ) → has_key cs key ≡ false → changed_by (bearer cs m) key had ≡ had
keyless_step [] m key had h = refl
keyless_step (c ∷ cs) m key had h =
    let p = or_parts (c.key == key) (has_key cs key) h in
    let rest = keyless_step cs m key had p.1 in
    elim (c.number == m) as (λ t. changed_by (cond t (Some c) (bearer cs m)) key had ≡ had) [
      | true ↦ rw p.0 refl
      | false ↦ rest
    ]

keyless : (cs : List Change) (m key : ℕ) → has_key cs key ≡ false → value_at cs m key ≡ None
keyless cs zero key h = refl
keyless cs (suc m) key h = keyless_step cs (suc m) key (value_at cs m key) h ∙ keyless cs m key h

keyed : (cs : List Change) (pairs : List (ℕ × ℕ)) (rest : List Change) (key : ℕ) → changes_hold cs pairs rest ≡ true → has_key rest key ≡ true → value_at cs (length cs) key ≡ at key pairs
keyed cs pairs [] key holds h = cc
keyed cs pairs (c ∷ rest) key holds h =
    let p = and_parts (option_eq nat_eq (value_at cs (length cs) c.key) (at c.key pairs)) (changes_hold cs pairs rest) holds in
    let more = keyed cs pairs rest key p.1 in
    let here = same_option (value_at cs (length cs) c.key) (at c.key pairs) p.0 in
    elim (c.key == key) as (λ t. (c.key == key) ≡ t → (t || has_key rest key) ≡ true → value_at cs (length cs) key ≡ at key pairs) [
      | true ↦ λ is e. let same : c.key ≡ key = grind (arith, nat_tests) in rw same at here
      | false ↦ λ is e. more e
    ] refl h

paired : (cs : List Change) (ps : List (ℕ × ℕ)) (key : ℕ) → pairs_hold cs ps ≡ true → value_at cs (length cs) key ≡ None → at key ps ≡ None
paired cs [] key holds none = refl
paired cs (p ∷ ps) key holds none =
    let q = and_parts (option_eq nat_eq (value_at cs (length cs) p.0) (Some p.1)) (pairs_hold cs ps) holds in
    let here = same_option (value_at cs (length cs) p.0) (Some p.1) q.0 in
    let more = paired cs ps key q.1 none in
    elim (p.0 == key) as (λ t. (p.0 == key) ≡ t → cond t (Some p.1) (at key ps) ≡ None) [
      | true ↦ λ is. let same : p.0 ≡ key = grind (arith, nat_tests) in let bad = rw same at here in cc
      | false ↦ λ is. more
    ] refl

pub left_from : (cs : List Change) (pairs : List (ℕ × ℕ)) → leaves cs pairs ≡ true → (key : ℕ) → value_at cs (length cs) key ≡ at key pairs
left_from cs pairs holds key =
    let p = and_parts (pairs_hold cs pairs) (changes_hold cs pairs cs) holds in
    elim (has_key cs key) as (λ t. has_key cs key ≡ t → value_at cs (length cs) key ≡ at key pairs) [
      | true ↦ λ is. keyed cs pairs cs key p.1 is
      | false ↦ λ is. let none = keyless cs (length cs) key is in none ∙ sym (paired cs pairs key p.0 none)
    ] refl

verdict_parts : (cs : List Change) (pairs : List (ℕ × ℕ)) (workers : ℕ) (o : Option (ℕ × ℕ)) → verdict_at cs pairs workers o ≡ Yes → (o ≡ None) × (leaves cs pairs ≡ true)
verdict_parts cs pairs workers (Some p) e = cc
verdict_parts cs pairs workers None e = (
  refl,
  elim (leaves cs pairs) as (λ t. cond t Yes (No workers 0) ≡ Yes → t ≡ true) [
    | true ↦ λ h. refl
    | false ↦ λ h. cc
  ] e,
)

-- Yes comes only where the history is legal.
pub legal_from_yes : (trails : List (List Receipt)) (pairs : List (ℕ × ℕ)) → verdict_of trails pairs ≡ Yes → IsLegal trails pairs
legal_from_yes trails pairs e =
    let cs = all_changes trails in
    let p = verdict_parts cs pairs (length trails) (first_fault cs 0 0 trails) e in
    let g = good_trails cs 0 0 trails p.0 in
    record { numbers = each_once cs g.2; replies = g.1; in_order = g.0; left = left_from cs pairs p.1 }
