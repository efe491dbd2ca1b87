-- The workers of a forest, by their numbers.
use Rattle.std.proofs.Common.{◌≡◌, ℕ, zero, suc, ◌+◌, ◌<◌, false, List, [], ◌∷◌, length, get_or, map, None, Result, Ok, subst, ◌∙◌, arith}
use Rattle.std.specs.Prelude.{All, IfOk, slice_index_or}
use Rattle.std.proofs.lemmas.List.{length-map}
use Rattle.std.proofs.lemmas.List.Elements.{All-cons, All-head, All-nil, All-tail}
use Rattle.bw_delta.specs.declared.fault.NoMemory.{NoMemory}
use Rattle.bw_step.specs.declared.receipt.Receipt.{Receipt}
use Rattle.bw_procedures.specs.declared.act.Act.{Act}
use Rattle.bw_procedures.specs.declared.reply.Reply.{Reply}
use Rattle.bw_texts.specs.declared.trace.row.Row.{Row}
use Rattle.bw_crew.specs.Workers.{ByNumber}
use Rattle.bw_run.specs.declared.answers.Answers.{Answers}
use Rattle.bw_run.specs.Answers.{StopsIn, columns_of}
use Rattle.bw_run.specs.ForestAnswers.{AreForestAnswersTo, ToldBy}
use Rattle.bw_run.specs.Rows.{AreFull, ArePlanned, acts_of}

-- what is so of what each has
pub all_map : {X Y : Type 0} → (P : Y → Type 0) (f : X → Y) (xs : List X) → All (λ x. P (f x)) xs → All P (map f xs)
all_map P f [] all = All-nil P
all_map P f (x ∷ xs) all = All-cons P (f x) (map f xs) (All-head (λ it. P (f it)) x xs all)
    (all_map P f xs (All-tail (λ it. P (f it)) x xs all))

pub all_of_map : {X Y : Type 0} → (P : Y → Type 0) (f : X → Y) (xs : List X) → All P (map f xs) → All (λ x. P (f x)) xs
all_of_map P f [] all = All-nil (λ it. P (f it))
all_of_map P f (x ∷ xs) all =
    All-cons (λ it. P (f it)) x xs (All-head P (f x) (map f xs) all) (all_of_map P f xs (All-tail P (f x) (map f xs) all))

-- what is so of each worker is so in other words
pub by_number_to : {X : Type 0} → (fact other : ℕ → X → Type 0) (first : ℕ) (xs : List X)
    → ((worker : ℕ) (x : X) → worker < first + length xs → fact worker x → other worker x) → ByNumber fact first xs
    → ByNumber other first xs
by_number_to fact other first [] to all = tt
by_number_to fact other first (x ∷ xs) to all = (
  to first x (omega arith) all.0,
  by_number_to fact other (first + 1) xs
      (λ worker it less. to worker it (omega (arith, less))) all.1,
)

module _ {X : Type 0} (bounds : List ℕ) (output : X → Result Answers NoMemory) (trails : X → List (List Receipt)) (rows : List Row) where
  abbrev pub AsPromised : ℕ → X → Type 0
  AsPromised worker it = IfOk (output it) (AreForestAnswersTo bounds (acts_of worker rows) (trails it))

  answers_of : (worker : ℕ) (it : X) (answers : Answers) → output it ≡ Ok answers → AsPromised worker it
      → AreForestAnswersTo bounds (acts_of worker rows) (trails it) answers
  answers_of worker it answers is promised = subst (λ (o : Result Answers NoMemory). IfOk o
      (AreForestAnswersTo bounds (acts_of worker rows) (trails it))) is promised

  head_same : (it : X) (workers : List X) (a : Answers) (answers : List Answers) → map output (it ∷ workers) ≡ map Ok (a ∷ answers)
      → output it ≡ Ok a
  head_same it workers a answers same = cc same

  tail_same : (it : X) (workers : List X) (a : Answers) (answers : List Answers) → map output (it ∷ workers) ≡ map Ok (a ∷ answers)
      → map output workers ≡ map Ok answers
  tail_same it workers a answers same = cc same

  -- a worker that stopped did so as it may
  pub stops_promised : (first : ℕ) (workers : List X) (answers : List Answers) → map output workers ≡ map Ok answers
      → ByNumber AsPromised first workers
      → ByNumber (λ worker. StopsIn false (acts_of worker rows)) first answers
  stops_promised first workers [] same all = tt
  stops_promised first [] (a ∷ answers) same all = absurd (cc same)
  stops_promised first (it ∷ workers) (a ∷ answers) same all = (
    (answers_of first it a (head_same it workers a answers same) all.0).stops,
    stops_promised (first + 1) workers answers (tail_same it workers a answers same) all.1,
  )

  abbrev pub IsDoneAt : ℕ → List Row → List (List Reply) → List (List (List Receipt)) → ℕ → Type 0
  IsDoneAt first rs columns all place =
      (length (get_or columns place []) ≡ length (acts_of (first + place) rs))
      × ToldBy bounds (acts_of (first + place) rs) (get_or columns place []) (get_or all place [])

  done_at : (first : ℕ) (workers : List X) (answers : List Answers) → map output workers ≡ map Ok answers
      → ByNumber AsPromised first workers
      → All (λ each. each.stop ≡ None) answers → (place : ℕ) → place < length answers
      → IsDoneAt first rows (columns_of answers) (map trails workers) place
  done_at first workers [] same all none place inside = absurd (omega (arith, inside))
  done_at first [] (a ∷ answers) same all none place inside = absurd (cc same)
  done_at first (it ∷ workers) (a ∷ answers) same all none zero inside =
      let are = answers_of first it a (head_same it workers a answers same) all.0 in
      let stopped = All-head (λ each. each.stop ≡ None) a answers none in
      let here : first ≡ first + 0 = omega arith in
      subst (λ worker. (length a.replies.items ≡ length (acts_of worker rows))
      × ToldBy bounds (acts_of worker rows) a.replies.items (trails it)) here (are.all stopped, are.told stopped)
  done_at first (it ∷ workers) (a ∷ answers) same all none (suc place) inside =
      let next = done_at (first + 1) workers answers (tail_same it workers a answers same) all.1
      (All-tail (λ each. each.stop ≡ None) a answers none) place (omega (arith, inside)) in
      let here : first + 1 + place ≡ first + suc place = omega arith in
      let column = get_or (columns_of answers) place [] in
      subst (λ worker. (length column ≡ length (acts_of worker rows))
      × ToldBy bounds (acts_of worker rows) column (get_or (map trails workers) place [])) here next

  -- where no worker stopped, each row has a reply
  pub full : (workers : List X) (answers : List Answers) → map output workers ≡ map Ok answers → ByNumber AsPromised 0 workers
      → All (λ each. each.stop ≡ None) answers → AreFull rows (columns_of answers)
  full workers answers same all none worker inside =
      let many : length (columns_of answers) ≡ length answers = length-map answers (λ each. each.replies.items) in
      let here : 0 + worker ≡ worker = omega arith in
      subst (λ w. length (get_or (columns_of answers) worker []) ≡ length (acts_of w rows)) here
      (done_at 0 workers answers same all none worker (omega (arith, inside, many))).0

  -- and the trails tell what goes with it
  pub told : (workers : List X) (answers : List Answers) → map output workers ≡ map Ok answers → ByNumber AsPromised 0 workers
      → All (λ each. each.stop ≡ None) answers → (worker : ℕ) → worker < length answers
      → ToldBy bounds (acts_of worker rows) (get_or (columns_of answers) worker []) (get_or (map trails workers) worker [])
  told workers answers same all none worker inside =
      let here : 0 + worker ≡ worker = omega arith in
      subst (λ w. ToldBy bounds (acts_of w rows) (get_or (columns_of answers) worker []) (get_or (map trails workers) worker [])) here
      (done_at 0 workers answers same all none worker inside).1

  -- what is promised of a worker's own part of the plan is promised of its rows
  pub as_planned : (plan : List (List Act)) (workers : List X) → ArePlanned plan rows → length workers ≡ length plan
      → ByNumber (λ worker it. IfOk (output it) (AreForestAnswersTo bounds (slice_index_or plan worker []) (trails it))) 0 workers
      → ByNumber AsPromised 0 workers
  as_planned plan workers planned many all =
      by_number_to (λ worker it. IfOk (output it) (AreForestAnswersTo bounds (slice_index_or plan worker []) (trails it))) AsPromised 0
      workers
      (λ worker it less promised. subst (λ (acts : List Act). IfOk (output it) (AreForestAnswersTo bounds acts (trails it)))
      (planned worker (omega (arith, less, many))) promised)
      all
