-- The workers' answers, worker by worker.
use Rattle.std.proofs.Common.{◌≡◌, ℕ, zero, suc, ◌+◌, ◌<◌, Bool, None, List, [], ◌∷◌, length, get_or, map, Vec, ap, sym, subst, ◌∙◌, arith}
use Rattle.std.specs.Prelude.{All}
use Rattle.std.proofs.lemmas.List.{length-map}
use Rattle.std.proofs.lemmas.List.Elements.{All-head, All-tail}
use Rattle.bw_step.specs.declared.receipt.Receipt.{Receipt}
use Rattle.bw_step.specs.Tellings.{reported_in}
use Rattle.bw_step.specs.Trails.{lists_of}
use Rattle.bw_procedures.specs.declared.act.Act.{Act}
use Rattle.bw_procedures.specs.Reported.{GoWith}
use Rattle.bw_texts.specs.declared.trace.row.Row.{Row}
use Rattle.bw_crew.specs.Workers.{AreAsPromised, ByNumber}
use Rattle.bw_crew.proofs.Workers.{by_number_promised}
use Rattle.bw_run.specs.declared.answers.Answers.{Answers}
use Rattle.bw_run.specs.Answers.{AreAnswered, AreAnswersTo, StopsIn, columns_of}
use Rattle.bw_run.specs.Rows.{ArePlanned, acts_of}

-- a worker that didn't stop has a reply to each of its rows, and they go with its trail
record IsAnsweredAt (rows : List Row) (worker : ℕ) (answers : Answers) (trail : List Receipt) : Type 0 where
  pub full : length answers.replies.items ≡ length (acts_of worker rows)
  pub reported : GoWith (acts_of worker rows) answers.replies.items (reported_in trail)

answered_one : (rows : List Row) (may_close : Bool) (worker : ℕ) (answers : Answers) (trail : List Receipt) → AreAnswersTo may_close (acts_of worker rows) answers trail → answers.stop ≡ None
    → IsAnsweredAt rows worker answers trail
answered_one rows may_close worker answers trail are none = record { full = are.all none; reported = are.reported }

abbrev IsAt : List Row → ℕ → List Answers → List (List Receipt) → ℕ → Type 0
IsAt rows first answers trails place =
    (length (get_or (columns_of answers) place []) ≡ length (acts_of (first + place) rows)) × GoWith (acts_of (first + place) rows) (get_or (columns_of answers) place []) (reported_in (get_or trails place []))

answered_at : (rows : List Row) (may_close : Bool) (first : ℕ) (answers : List Answers) (trails : List (List Receipt)) → AreAsPromised (λ worker. AreAnswersTo may_close (acts_of worker rows)) first answers trails
    → All (λ each. each.stop ≡ None) answers → (place : ℕ) → place < length answers → IsAt rows first answers trails place
answered_at rows may_close first [] trails reported none place inside = absurd (omega arith)
answered_at rows may_close first (a ∷ answers) [] reported none place inside = absurd reported
answered_at rows may_close first (a ∷ answers) (t ∷ trails) reported none zero inside =
    let one = answered_one rows may_close first a t reported.0 (All-head (λ each. each.stop ≡ None) a answers none) in
    let same : first ≡ first + 0 = omega arith in
    subst (λ worker. (length a.replies.items ≡ length (acts_of worker rows)) × GoWith (acts_of worker rows) a.replies.items (reported_in t)) same (one.full, one.reported)
answered_at rows may_close first (a ∷ answers) (t ∷ trails) reported none (suc place) inside =
    let next = answered_at rows may_close (first + 1) answers trails reported.1 (All-tail (λ each. each.stop ≡ None) a answers none) place (omega arith) in
    let same : first + 1 + place ≡ first + suc place = omega arith in
    let column = get_or (columns_of answers) place [] in
    subst (λ worker. (length column ≡ length (acts_of worker rows)) × GoWith (acts_of worker rows) column (reported_in (get_or trails place []))) same next

-- where no worker stopped, each row is answered
pub all_answered : (rows : List Row) (may_close : Bool) (answers : List Answers) (trails : List (List Receipt)) → AreAsPromised (λ worker. AreAnswersTo may_close (acts_of worker rows)) 0 answers trails
    → All (λ each. each.stop ≡ None) answers → AreAnswered rows (columns_of answers) trails
all_answered rows may_close answers trails reported none =
    let at = answered_at rows may_close 0 answers trails reported none in
    let many : length (columns_of answers) ≡ length answers = length-map answers (λ each. each.replies.items) in
    let same : (worker : ℕ) → 0 + worker ≡ worker = λ worker. omega arith in
    let here : (worker : ℕ) → worker < length (columns_of answers) → IsAt rows 0 answers trails worker = λ worker inside. at worker (omega (arith, inside, many)) in
    let column = λ (worker : ℕ). get_or (columns_of answers) worker [] in
    record {
      full = λ worker inside. subst (λ w. length (column worker) ≡ length (acts_of w rows)) (same worker) (here worker inside).0;
      reported = λ worker inside. subst (λ w. GoWith (acts_of w rows) (column worker) (reported_in (get_or trails worker []))) (same worker) (here worker inside).1;
    }

-- a worker that stopped did so as it may, whatever its trail
pub stops_reported : {A : Type 0} → (rows : List Row) (may_close : Bool) (answers : List Answers) (trails : List (Vec Receipt A)) → AreAsPromised (λ worker. AreAnswersTo may_close (acts_of worker rows)) 0 answers (lists_of trails)
    → ByNumber (λ worker. StopsIn may_close (acts_of worker rows)) 0 answers
stops_reported rows may_close answers trails reported =
    by_number_promised (λ trail. trail.items) (λ worker. AreAnswersTo may_close (acts_of worker rows)) (λ worker. StopsIn may_close (acts_of worker rows)) 0 answers trails (λ worker each trail are. are.stops) reported

-- the fact of the worker at a place
pub by_number_at : {X : Type 0} → (fact : ℕ → X → Type 0) (first : ℕ) (xs : List X) (place : ℕ) (d : X) → ByNumber fact first xs → place < length xs → fact (first + place) (get_or xs place d)
by_number_at fact first [] place d all inside = absurd (omega arith)
by_number_at fact first (x ∷ xs) zero d all inside = let same : first ≡ first + 0 = omega arith in subst (λ n. fact n x) same all.0
by_number_at fact first (x ∷ xs) (suc place) d all inside =
    let same : first + 1 + place ≡ first + suc place = omega arith in subst (λ n. fact n (get_or xs place d)) same (by_number_at fact (first + 1) xs place d all.1 (omega arith))

planned_from : {X : Type 0} → (acts : X → List Act) (rows : List Row) (first : ℕ) (kits : List X) → ((place : ℕ) → place < length kits → get_or (map acts kits) place [] ≡ acts_of (first + place) rows)
    → ByNumber (λ worker kit. acts kit ≡ acts_of worker rows) first kits
planned_from acts rows first [] planned = tt
planned_from acts rows first (kit ∷ kits) planned =
    let here : first + 0 ≡ first = omega arith in
    let next : (place : ℕ) → first + suc place ≡ first + 1 + place = λ place. omega arith in (
      planned 0 (omega arith) ∙ ap (λ n. acts_of n rows) here,
      planned_from acts rows (first + 1) kits (λ place inside. planned (suc place) (omega arith) ∙ ap (λ n. acts_of n rows) (next place)),
    )

-- each worker's kit has the acts of its rows
pub kits_planned : {X : Type 0} → (acts : X → List Act) (rows : List Row) (kits : List X) (plan : List (List Act)) → map acts kits ≡ plan → ArePlanned plan rows
    → ByNumber (λ worker kit. acts kit ≡ acts_of worker rows) 0 kits
kits_planned acts rows kits plan same planned =
    let many : length kits ≡ length plan = sym (length-map kits acts) ∙ ap length same in
    let zero_more : (place : ℕ) → place ≡ 0 + place = λ place. omega arith in
    planned_from acts rows 0 kits (λ place inside. ap (λ (ls : List (List Act)). get_or ls place []) same ∙ (planned place (omega (arith, inside, many)) ∙ ap (λ n. acts_of n rows) (zero_more place)))
