use Rattle.std.proofs.Common.{◌≡◌, ◌≤◌, ◌<◌, ℕ, List, [], Option, None, Some, Result, Ok, Err, Vec, Global, refl, ap, length, map, sym, subst, ◌∙◌, arith, false}
use Rattle.std.specs.Prelude.{All, IfErr, IfSome, MatchOption, OnErr, OnOk, slice_index_or}
use Rattle.std.specs.Result.{result_err}
use Rattle.std.proofs.lemmas.List.{get_or-map, get_or_past, length-map}
use Rattle.bw_step.specs.declared.receipt.Receipt.{Receipt}
use Rattle.bw_procedures.specs.declared.act.Act.{Act}
use Rattle.bw_procedures.specs.declared.reply.Reply.{Reply}
use Rattle.bw_run.specs.declared.answers.Answers.{Answers}
use Rattle.bw_run.specs.declared.answers.Stop.{Stop}
use Rattle.bw_run.specs.ForestAnswers.{AreForestAnswersTo, TellInTurn}
use Rattle.bw_run.specs.Stops.{MayStop}
use Rattle.bw_run.proofs.ForestDone.{all_map}
use Rattle.bw_run.proofs.forest.job.ForestRowsForestJob.work.Goals as goal

-- what stands at a place that was looked up
got : {R X T : Type 0} → (now : R → X) (items : X → List T) (xs : List X) (i : ℕ) (P : R → Type 0) (r : Option R) (x : R) → r ≡ Some x
    → IfSome r (λ y. now y ≡ slice_index_or xs i (now y)) → MatchOption r (length xs ≤ i) (λ y. (i < length xs) × P y)
    → slice_index_or (map items xs) i [] ≡ items (now x)
got now items xs i P None x is at inside = absurd (cc is)
got now items xs i P (Some y) x is at inside =
    let same : y ≡ x = cc is in
    get_or-map items xs i (now y) [] inside.0 ∙ (ap items (sym at) ∙ ap (λ z. items (now z)) same)

past : {R X T : Type 0} → (items : X → List T) (xs : List X) (i : ℕ) (P : R → Type 0) (r : Option R) → r ≡ None
    → MatchOption r (length xs ≤ i) P → slice_index_or (map items xs) i [] ≡ []
past items xs i P None is beyond = get_or_past (map items xs) i [] (omega (arith, beyond, length-map xs items))
past items xs i P (Some y) is beyond = absurd (cc is)

empty : {T : Type 0} → (xs : List T) → xs ≡ [] → length xs ≡ 0
empty xs is = ap length is

-- all acts have a reply, or the worker stopped
answered : (bounds : List ℕ) (acts : List Act) (replies : Vec Reply Global) (old new : List (List Receipt))
    (result : Result (Unit {0}) Stop) (stop : Option Stop)
    → stop ≡ result_err result → OnOk result (TellInTurn bounds acts replies.items old new)
    → OnOk result (length replies.items ≡ length acts) → OnErr result (length replies.items < length acts)
    → IfErr result (MayStop false) → All (λ trail. trail ≡ []) old
    → AreForestAnswersTo bounds acts new (record { replies = replies; stop = stop })
answered bounds acts replies old new (Ok done) stop is told all stopped may none =
    subst (λ (s : Option Stop). AreForestAnswersTo bounds acts new (record { replies = replies; stop = s })) (sym is)
    (record {
      told = λ ended. record { start = old; from_nothing = none; in_turn = told };
      all = λ ended. all;
      stops =
          λ why stops. absurd (cc stops);
    })
answered bounds acts replies old new (Err why) stop is told all stopped may none =
    subst (λ (s : Option Stop). AreForestAnswersTo bounds acts new (record { replies = replies; stop = s })) (sym is)
    (record {
      told = λ ended. absurd (cc ended);
      all = λ ended. absurd (cc ended);
      stops = λ other stops. let same : why ≡ other = cc stops in (stopped, subst (MayStop false) same may);
    })

pub returns-in_default : goal.returns-in_default
returns-in_default g c =
    let trails = map (λ hand. (g.H.Steps.seen hand).trail) c.args.forest.now.hands.items in
    let none : All (λ (trail : List Receipt). trail ≡ []) trails = all_map (λ (trail : List Receipt). trail ≡ [])
    (λ hand. (g.H.Steps.seen hand).trail) c.args.forest.now.hands.items c.requires.new in
    let start : AreForestAnswersTo g.H.ForestHand.bounds [] trails (record { replies = c.new.result; stop = None }) =
    record {
      told = λ ended. record { start = trails; from_nothing = none; in_turn = refl };
      all = λ ended. empty c.new.result.items c.new.ensures.items;
      stops = λ why stops. absurd (cc stops);
    } in
    record {
      promised = subst (λ (acts : List Act). AreForestAnswersTo g.H.ForestHand.bounds acts trails
          (record { replies = c.new.result; stop = None }))
          (sym (past (λ acts. acts.items) c.args.self.now.plan.now c.args.worker _ c.get.result c.in_default.is
          c.get.ensures.lookup.3)) start;
    }

pub returns : goal.returns
returns g c =
    let new = map (λ hand. (g.H.Steps.seen hand).trail) c.do_acts.new.forest.hands.items in
    let old = map (λ hand. (g.H.Steps.seen hand).trail) c.args.forest.now.hands.items in
    let none : All (λ (trail : List Receipt). trail ≡ []) old = all_map (λ (trail : List Receipt). trail ≡ [])
    (λ hand. (g.H.Steps.seen hand).trail) c.args.forest.now.hands.items c.requires.new in
    let acts = got (λ x. x.now) (λ acts. acts.items) c.args.self.now.plan.now c.args.worker _ c.get.result c.in-Some.acts c.in-Some.is
    c.get.ensures.lookup.1 c.get.ensures.lookup.3 in
    record {
      promised = subst (λ (own : List Act). AreForestAnswersTo g.H.ForestHand.bounds own new
          (record { replies = c.do_acts.new.replies; stop = c.err-stop.result }))
          (c.deref.ensures.value ∙ sym acts)
          (answered g.H.ForestHand.bounds c.deref.result.now c.do_acts.new.replies old new c.do_acts.result c.err-stop.result
          c.err-stop.ensures.value c.do_acts.ensures.told c.do_acts.ensures.all c.do_acts.ensures.stopped c.do_acts.ensures.stop none);
    }
