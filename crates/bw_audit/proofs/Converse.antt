-- A legal history has no bad receipt, and its changes leave the pairs.
use Rattle.std.proofs.Common.{◌≡◌, ◌+◌, ◌-◌, ◌<◌, ◌≤◌, ◌==◌, ◌++◌, ℕ, zero, suc, true, false, not, ◌&&◌, cond, List, [], ◌∷◌, length, take, Option, Some, None, refl, arith, sym, ◌∙◌, append_assoc, length-append, add-zero}
use Rattle.std.specs.Prelude.{is_some, nat_lt, ◌↔◌}
use Rattle.std.proofs.lemmas.Bool.Decides.{nat_tests}
use Rattle.std.proofs.Math.Seq.{take-append_seam}
use Rattle.std.specs.Option.{option_eq}
use Rattle.std.specs.Bool.{nat_eq}
use Rattle.std.specs.List.{AllByRecursion}
use Rattle.bw_audit.specs.declared.change.Change.{Change}
use Rattle.bw_step.specs.declared.receipt.Receipt.{Receipt}
use Rattle.bw_step.specs.Tellings.{Telling, change, look, shape, telling_of}
use Rattle.bw_audit.specs.declared.verdict.Verdict.TheVariants.{Yes}
use Rattle.bw_keys.specs.Ranges.{key_count}
use Rattle.bw_delta.specs.Entries.{rises}
use Rattle.bw_chain.specs.Ascends.{IsAscending}
use Rattle.bw_chain.proofs.Firsts.{at-before}
use Rattle.bw_audit.specs.Changes.{add_change, all_changes, bearer, change_of, change_reported, changes_of, value_at}
use Rattle.bw_delta.specs.Entries.{at}
use Rattle.bw_audit.specs.Legal.{IsLegal, AllRise, IsTrueOf, IsTrueReply, position_after, rises_from, times_borne}
use Rattle.bw_audit.specs.Verdicts.{verdict_of, changes_hold, first_bad, first_fault, is_bad, is_bad_change, is_misnumbered, leaves, pairs_hold}
use Rattle.bw_audit.proofs.Counting.{total, total-add, total-hit, hits}
use Rattle.bw_audit.proofs.Laws.{AllNumbered, IsNumbered, legal_from_yes}

self_same : (x : Option ℕ) → option_eq nat_eq x x ≡ true
self_same None = refl
self_same (Some a) = grind (arith, nat_tests)

alike : (x y : Option ℕ) → x ≡ y → option_eq nat_eq x y ≡ true
alike x y e = rw e (self_same y)

-- the number of those within 1 to n
abbrev within : ℕ → ℕ → ℕ
within n number = cond (nat_lt 0 number && not (nat_lt n number)) 1 0

abbrev count_within : ℕ → List Change → ℕ
count_within n [] = 0
count_within n (c ∷ cs) = within n c.number + count_within n cs

within-le : (n number : ℕ) → within n number ≤ 1
within-le n number = grind (arith, nat_tests)

count-le : (n : ℕ) (cs : List Change) → count_within n cs ≤ length cs
count-le n [] = omega arith
count-le n (c ∷ cs) = let a = within-le n c.number in let b = count-le n cs in omega arith

total-none : (x n : ℕ) → within n x ≡ 0 → total (hits x) n ≡ 0
total-none x zero h = refl
total-none x (suc n) h =
    let apart : hits x (suc n) ≡ 0 = grind (arith, nat_tests) in
    let less : within n x ≡ 0 = grind (arith, nat_tests) in
    let e = total-none x n less in
    omega arith

total-hits : (x n : ℕ) → total (hits x) n ≡ within n x
total-hits x n =
    elim (nat_lt 0 x && not (nat_lt n x)) as (λ t. (nat_lt 0 x && not (nat_lt n x)) ≡ t → total (hits x) n ≡ within n x) [
      | true ↦ λ is.
          let one : within n x ≡ 1 = rw is refl in
          let above : 0 < x = grind (arith, nat_tests) in
          let below : x ≤ n = grind (arith, nat_tests) in
          let e = total-hit x n above below in
          omega arith
      | false ↦ λ is. let none : within n x ≡ 0 = rw is refl in let e = total-none x n none in omega arith
    ] refl

total-nil : (n : ℕ) → total (times_borne []) n ≡ 0
total-nil zero = refl
total-nil (suc n) = let e = total-nil n in omega arith

total-within : (cs : List Change) (n : ℕ) → total (times_borne cs) n ≡ count_within n cs
total-within [] n = total-nil n
total-within (c ∷ cs) n =
    let e = total-add (hits c.number) (times_borne cs) n in
    let hit = total-hits c.number n in
    let rest = total-within cs n in
    omega arith

total-ones : (f : ℕ → ℕ) (n : ℕ) → ((m : ℕ) → 0 < m → m ≤ n → f m ≡ 1) → total f n ≡ n
total-ones f zero h = refl
total-ones f (suc n) h =
    let e = total-ones f n (λ m above below. h m above (omega arith)) in
    let one = h (suc n) (omega arith) (omega arith) in
    omega arith

all_within : (cs : List Change) (n : ℕ) → count_within n cs ≡ length cs → AllByRecursion (λ (c : Change). (0 < c.number) × (c.number ≤ n)) cs
all_within [] n h = tt
all_within (c ∷ cs) n h =
    let a = within-le n c.number in
    let b = count-le n cs in
    let one : within n c.number ≡ 1 = omega arith in
    let rest : count_within n cs ≡ length cs = omega arith in
    ((grind (arith, nat_tests), grind (arith, nat_tests)), all_within cs n rest)

borne_some : (ps : List Change) (m : ℕ) → times_borne ps m ≡ 0 → is_some (bearer ps m) ≡ false
borne_some [] m h = refl
borne_some (c ∷ ps) m h =
    let rest = borne_some ps m in
    elim (c.number == m) as (λ t. cond {A = ℕ} t 1 0 + times_borne ps m ≡ 0 → is_some (cond t (Some c) (bearer ps m)) ≡ false) [
      | true ↦ λ bad. absurd (omega arith)
      | false ↦ λ e. rest (omega arith)
    ] h

times-append : (ps ds : List Change) (m : ℕ) → times_borne (ps ++ ds) m ≡ times_borne ps m + times_borne ds m
times-append [] ds m = omega arith
times-append (p ∷ ps) ds m = let e = times-append ps ds m in omega arith

well_numbered : (cs : List Change) (before number : ℕ) → 0 < number → number ≤ length cs → is_some (bearer (take before cs) number) ≡ false → is_misnumbered cs before number ≡ false
well_numbered cs before number above below none =
    let a : (number == 0) ≡ false = grind (arith, nat_tests) in
    let b : nat_lt (length cs) number ≡ false = grind (arith, nat_tests) in
    rw (a, b, none) refl

numbered_from : (cs ps ds : List Change) → cs ≡ ps ++ ds → ((m : ℕ) → 0 < m → m ≤ length cs → times_borne cs m ≡ 1)
    → AllByRecursion (λ (c : Change). (0 < c.number) × (c.number ≤ length cs)) ds → AllNumbered cs (length ps) ds
numbered_from cs ps [] e once all = tt
numbered_from cs ps (c ∷ ds) e once all =
    let front : take (length ps) cs ≡ ps = rw e (take-append_seam ps (c ∷ ds)) in
    let one = once c.number all.0.0 all.0.1 in
    let sum : times_borne cs c.number ≡ times_borne ps c.number + times_borne (c ∷ ds) c.number = rw e (times-append ps (c ∷ ds) c.number) in
    let self : cond {A = ℕ} (c.number == c.number) 1 0 ≡ 1 = grind (arith, nat_tests) in
    let none : times_borne ps c.number ≡ 0 = omega arith in
    let free : is_some (bearer (take (length ps) cs) c.number) ≡ false = rw front (borne_some ps c.number none) in
    let whole : cs ≡ (ps ++ c ∷ []) ++ ds = rw append_assoc e in
    let len : length (ps ++ c ∷ []) ≡ length ps + 1 = omega (arith, length-append ps (c ∷ [])) in
    let more = numbered_from cs (ps ++ c ∷ []) ds whole once all.1 in
    (well_numbered cs (length ps) c.number all.0.0 all.0.1 free, rw len at more)

all_numbered : (cs : List Change) → ((m : ℕ) → 0 < m → m ≤ length cs → times_borne cs m ≡ 1) → AllNumbered cs 0 cs
all_numbered cs once =
    let n = length cs in
    let e : count_within n cs ≡ length cs = sym (total-within cs n) ∙ total-ones (times_borne cs) n once in
    numbered_from cs [] cs refl once (all_within cs n e)

fine_change : (cs : List Change) (before : ℕ) (c : Change) → is_misnumbered cs before c.number ≡ false → value_at cs (c.number - 1) c.key ≡ c.before → is_bad_change cs before c ≡ false
fine_change cs before c h e = rw (h, alike (value_at cs (c.number - 1) c.key) c.before e) refl

fine_telling : (cs : List Change) (before last : ℕ) (reported : Telling) → rises_from last reported ≡ true → IsTrueOf cs reported → IsNumbered cs before (change_reported reported) → is_bad cs before last reported ≡ false
fine_telling cs before last (change number key had has) up reply numbered =
    let c : Change = record { number = number; key = key; before = had; after = has } in
    rw (up, fine_change cs before c numbered reply) refl
fine_telling cs before last (look at key found) up reply numbered =
    let below : at ≤ length cs = reply.0 in
    let b : nat_lt (length cs) at ≡ false = grind (arith, nat_tests) in
    rw (up, b, alike (value_at cs at key) found reply.1) refl
fine_telling cs before last shape up reply numbered = refl

uncons_numbered : (cs : List Change) (before : ℕ) (o : Option Change) (ds : List Change) → AllNumbered cs before (add_change o ds) → IsNumbered cs before o × AllNumbered cs (before + length (add_change o [])) ds
uncons_numbered cs before None ds h = (tt, rw add-zero h)
uncons_numbered cs before (Some c) ds h = h

fine_trail : (cs : List Change) (before last place : ℕ) (rs : List Receipt) → AllRise last rs → AllByRecursion (IsTrueReply cs) rs → AllNumbered cs before (changes_of rs)
    → first_bad cs before last place rs ≡ None
fine_trail cs before last place [] up replies numbered = refl
fine_trail cs before last place (r ∷ rs) up replies numbered =
    let n = uncons_numbered cs before (change_of r) (changes_of rs) numbered in
    let good = fine_telling cs before last (telling_of r) up.0 replies.0 n.0 in
    rw good (fine_trail cs (before + length (add_change (change_of r) [])) (position_after last (telling_of r)) (place + 1) rs up.1 replies.1 n.1)

split_numbered : (cs : List Change) (before : ℕ) (ds es : List Change) → AllNumbered cs before (ds ++ es) → AllNumbered cs before ds × AllNumbered cs (before + length ds) es
split_numbered cs before [] es h = (tt, rw add-zero h)
split_numbered cs before (d ∷ ds) es h =
    let e : before + suc (length ds) ≡ (before + 1) + length ds = omega arith in
    let more = split_numbered cs (before + 1) ds es h.1 in
    ((h.0, more.0), rw e more.1)

fine_trails : (cs : List Change) (before worker : ℕ) (ts : List (List Receipt)) → AllByRecursion (AllRise 0) ts → AllByRecursion (AllByRecursion (IsTrueReply cs)) ts → AllNumbered cs before (all_changes ts)
    → first_fault cs before worker ts ≡ None
fine_trails cs before worker [] up replies numbered = refl
fine_trails cs before worker (t ∷ ts) up replies numbered =
    let n = split_numbered cs before (changes_of t) (all_changes ts) numbered in
    rw (fine_trail cs before 0 0 t up.0 replies.0 n.0) (fine_trails cs (before + length (changes_of t)) (worker + 1) ts up.1 replies.1 n.1)

changes_fine : (cs : List Change) (pairs : List (ℕ × ℕ)) (rest : List Change) → ((key : ℕ) → value_at cs (length cs) key ≡ at key pairs) → changes_hold cs pairs rest ≡ true
changes_fine cs pairs [] h = refl
changes_fine cs pairs (c ∷ rest) h = rw (alike (value_at cs (length cs) c.key) (at c.key pairs) (h c.key)) (changes_fine cs pairs rest h)

pairs_fine : (cs : List Change) (low : ℕ) (ps : List (ℕ × ℕ)) → rises low key_count ps ≡ true → ((key value : ℕ) → at key ps ≡ Some value → value_at cs (length cs) key ≡ Some value) → pairs_hold cs ps ≡ true
pairs_fine cs low [] up h = refl
pairs_fine cs low (p ∷ ps) up h =
    let self : (p.0 == p.0) ≡ true = grind (arith, nat_tests) in
    let here : value_at cs (length cs) p.0 ≡ Some p.1 = h p.0 p.1 (rw self refl) in
    let rest : rises (p.0 + 1) key_count ps ≡ true = grind (arith, nat_tests) in
    let none : at p.0 ps ≡ None = at-before (p.0 + 1) key_count p.0 ps rest (omega arith) in
    let later : (key value : ℕ) → at key ps ≡ Some value → value_at cs (length cs) key ≡ Some value = λ key value e.
    elim (p.0 == key) as (λ t. (p.0 == key) ≡ t → value_at cs (length cs) key ≡ Some value) [
      | true ↦ λ is. let same : p.0 ≡ key = grind (arith, nat_tests) in let bad = rw same at none in cc
      | false ↦ λ is. h key value (rw is e)
    ] refl in
    rw (alike (value_at cs (length cs) p.0) (Some p.1) here) (pairs_fine cs (p.0 + 1) ps rest later)

pub leaves_fine : (cs : List Change) (pairs : List (ℕ × ℕ)) → IsAscending pairs → ((key : ℕ) → value_at cs (length cs) key ≡ at key pairs) → leaves cs pairs ≡ true
leaves_fine cs pairs up h = rw (pairs_fine cs 0 pairs up (λ key value e. h key ∙ e), changes_fine cs pairs cs h) refl

yes_from_legal : (trails : List (List Receipt)) (pairs : List (ℕ × ℕ)) → IsAscending pairs → IsLegal trails pairs → verdict_of trails pairs ≡ Yes
yes_from_legal trails pairs up legal =
    let cs = all_changes trails in
    rw (fine_trails cs 0 0 trails legal.in_order legal.replies (all_numbered cs legal.numbers), leaves_fine cs pairs up legal.left) refl

-- The answer is Yes exactly for a legal history.
pub yes_exactly : (trails : List (List Receipt)) (pairs : List (ℕ × ℕ)) → IsAscending pairs → (verdict_of trails pairs ≡ Yes) ↔ IsLegal trails pairs
yes_exactly trails pairs up = (legal_from_yes trails pairs, yes_from_legal trails pairs up)
