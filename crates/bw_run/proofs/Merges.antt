-- A worker's own replies, row by row.
use Rattle.std.proofs.Common.{◌≡◌, ℕ, ◌<◌, ◌≤◌, ◌==◌, Bool, true, false, List, [], ◌∷◌, ◌++◌, length, take, drop, refl, ap, sym, ◌∙◌, append-nil, arith}
use Rattle.std.specs.Prelude.{if◌then◌else◌}
use Rattle.std.proofs.lemmas.Bool.Decides.{nat_tests}
use Rattle.std.proofs.lemmas.List.{drop_all, nil_from_length, take_all}
use Rattle.bw_procedures.specs.declared.reply.Reply.{Reply}
use Rattle.bw_procedures.specs.declared.act.Act.{Act}
use Rattle.bw_texts.specs.declared.trace.row.Row.{Row}
use Rattle.bw_run.specs.Rows.{acts_of, replies_to}
use Rattle.bw_run.proofs.Plans.{own_first}

first_if : (own : Bool) (first : Reply) (replies last : List Reply) → (if own then first ∷ (replies ++ last) else replies ++ last) ≡ (if own then first ∷ replies else replies) ++ last
first_if true first replies last = refl
first_if false first replies last = refl

own_snoc : (worker : ℕ) (done : List Row) (row : Row) (merged : List Reply) (reply : Reply) → length merged ≡ length done
    → replies_to worker (done ++ row ∷ []) (merged ++ reply ∷ []) ≡ replies_to worker done merged ++ (if row.worker == worker then reply ∷ [] else [])
own_snoc worker [] row [] reply same = refl
own_snoc worker [] row (first ∷ merged) reply same = absurd (omega arith)
own_snoc worker (before ∷ done) row [] reply same = absurd (omega arith)
own_snoc worker (before ∷ done) row (first ∷ merged) reply same =
    let last : List Reply = if row.worker == worker then reply ∷ [] else [] in
    ap (λ (l : List Reply). if before.worker == worker then first ∷ l else l) (own_snoc worker done row merged reply (omega arith))
    ∙ first_if (before.worker == worker) first (replies_to worker done merged) last

-- one more row with its reply: the worker's own replies so far, and those that are left, are in all the same
pub own_step : (worker : ℕ) (done : List Row) (row : Row) (merged : List Reply) (reply : Reply) (replies left : List Reply) → length merged ≡ length done
    → replies ≡ (if row.worker == worker then reply ∷ left else left)
    → replies_to worker (done ++ row ∷ []) (merged ++ reply ∷ []) ++ left ≡ replies_to worker done merged ++ replies
own_step worker done row merged reply replies left same taken =
    ap (λ (l : List Reply). l ++ left) (own_snoc worker done row merged reply same)
    ∙ (own_first (row.worker == worker) (replies_to worker done merged) reply left ∙ ap (λ (l : List Reply). replies_to worker done merged ++ l) (sym taken))

-- after the last row none are left, and the worker's own replies are all of them
pub own_end : (worker : ℕ) (rows : List Row) (place : ℕ) (merged left all : List Reply) → length rows ≤ place → length left ≡ length (acts_of worker (drop place rows))
    → replies_to worker (take place rows) merged ++ left ≡ all → replies_to worker rows merged ≡ all
own_end worker rows place merged left all past full is =
    let none : left ≡ [] = nil_from_length left (full ∙ ap (λ (rs : List Row). length (acts_of worker rs)) (drop_all place rows past)) in
    ap (λ (rs : List Row). replies_to worker rs merged) (sym (take_all place rows past))
    ∙ (sym (append-nil (replies_to worker (take place rows) merged)) ∙ (ap (λ (l : List Reply). replies_to worker (take place rows) merged ++ l) (sym none) ∙ is))

full_case : (own : Bool) (act : Act) (reply : Reply) (acts : List Act) (left : List Reply) → length (if own then reply ∷ left else left) ≡ length (if own then act ∷ acts else acts) → length left ≡ length acts
full_case true act reply acts left same = omega arith
full_case false act reply acts left same = same

-- as many replies are left as rows
pub full_step : (worker : ℕ) (row : Row) (rest : List Row) (reply : Reply) (replies left : List Reply) → replies ≡ (if row.worker == worker then reply ∷ left else left)
    → length replies ≡ length (acts_of worker (row ∷ rest)) → length left ≡ length (acts_of worker rest)
full_step worker row rest reply replies left taken same = full_case (row.worker == worker) row.act reply (acts_of worker rest) left (sym (ap length taken) ∙ same)

-- the worker of a row has an act
some_act : (own : Bool) (act : Act) (acts : List Act) → own ≡ true → 0 < length (if own then act ∷ acts else acts)
some_act true act acts is = omega arith
some_act false act acts is = cc

same_number : (n : ℕ) → (n == n) ≡ true
same_number n = grind (arith, nat_tests)

pub own_act : (row : Row) (rest : List Row) → 0 < length (acts_of row.worker (row ∷ rest))
own_act row rest = some_act (row.worker == row.worker) row.act (acts_of row.worker rest) (same_number row.worker)
