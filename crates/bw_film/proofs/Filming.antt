-- Films of steps that follow each other.
use Rattle.std.proofs.Common.{◌≡◌, ℕ, ◌+◌, ◌-◌, ◌<◌, take, length, map, get_or, length-append, Bool, true, false, cond, List, [], ◌∷◌, ◌++◌, Option, Some, None, Result, Ok, Err, refl, sym, ◌∙◌, ap, subst, arith}
use Rattle.std.specs.Prelude.{if◌then◌else◌}
use Rattle.std.proofs.lemmas.List.{length-map, get_or-map, take-append-le, take_all}
use Rattle.std.proofs.lemmas.List.Elements.{All-append, All-weaker}
use Rattle.std.specs.List.{All}
use Rattle.std.specs.String.{string_bytes}
use Rattle.std.proofs.lemmas.List.Sums.{sum_by_push}
use Rattle.bw_step.specs.declared.receipt.Receipt.{Receipt}
use Rattle.bw_step.specs.declared.receipt.Receipt.TheVariants.{Inserted, Deleted, Modified, Looked, Shaped}
use Rattle.bw_step.specs.declared.view.Look.{Look}
use Rattle.bw_step.specs.Proposals.{Proposal, insert, delete, modify, consolidate, split, term_add, grow, mark, merge, term_delete}
use Rattle.bw_step.specs.Steps.{IsReceiptOf}
use Rattle.bw_procedures.specs.declared.steps.Keep.{Keep}
use Rattle.bw_delta.specs.declared.fault.NoMemory.{NoMemory}
use Rattle.bw_procedures.specs.Seen.{Seen, IsAccepted, Looked as LooksAt, is_kept, trail_after_look}
use Rattle.bw_step.specs.Tellings.{reported_in}
use Rattle.bw_procedures.specs.declared.act.Act.{Act}
use Rattle.bw_procedures.specs.declared.reply.Reply.{Reply}
use Rattle.bw_procedures.specs.Reported.{GoesWith}
use Rattle.bw_procedures.proofs.Receipts.{go_more, go_none}
use Rattle.bw_texts.specs.declared.trace.row.Row.{Row}
use Rattle.bw_film.specs.declared.film.Film.{Film}
use Rattle.bw_film.specs.Choices.{one_more}
use Rattle.bw_film.specs.declared.crew.Standing.{Standing}
use Rattle.bw_film.specs.declared.frame.Frame.{Frame}
use Rattle.bw_film.specs.Crews.{AnswersRow, BeginsRow, IsCrew}
use Rattle.bw_film.specs.Films.{AddsAFrame, Shows}
use Rattle.bw_film.specs.Filming.{DoesRow, IsFilmed, IsFilmedUpTo, IsFrameOf, IsSameChoice, NamesRow, after_more, filmed_as, is_step, moments_after, steps_in}

pub filmed_same : (film : Film) (failed : Bool) (old new : List Receipt) → new ≡ old → IsFilmed film failed old film failed new
filmed_same film failed old new same = filmed_as film failed old new (ap steps_in same)

steps_more : (trail : List Receipt) (receipt : Receipt) → steps_in (trail ++ receipt ∷ []) ≡ steps_in trail + cond (is_step receipt) 1 0
steps_more trail receipt = sum_by_push (λ (r : Receipt). cond (is_step r) 1 0) trail receipt

kept_steps : (kept : Bool) (trail : List Receipt) (receipt : Receipt) → is_step receipt ≡ false → steps_in (if kept then trail ++ receipt ∷ [] else trail) ≡ steps_in trail
kept_steps false trail receipt is_look = refl
kept_steps true trail receipt is_look =
    let none : steps_in trail + 0 ≡ steps_in trail = omega arith in
    let more : cond (is_step receipt) 1 0 ≡ 0 = ap (λ (b : Bool). cond b 1 0) is_look in
    steps_more trail receipt ∙ ap (λ k. steps_in trail + k) more ∙ none

look_steps : (keep : Keep) (key : ℕ) (look : Option Look) (trail : List Receipt) → steps_in (trail_after_look keep key look trail) ≡ steps_in trail
look_steps keep key None trail = refl
look_steps keep key (Some look) trail = kept_steps (is_kept keep look.found) trail (Looked look.at key look.found) refl

-- a look is no step
pub filmed_look : (film : Film) (failed : Bool) (keep : Keep) (key : ℕ) (look : Option Look) (old new : List Receipt) → new ≡ trail_after_look keep key look old → IsFilmed film failed old film failed new
filmed_look film failed keep key look old new is = filmed_as film failed old new (ap steps_in is ∙ look_steps keep key look old)

pub filmed_looked : (film : Film) (failed : Bool) (keep : Keep) (key : ℕ) (result : Result (Option Look) NoMemory) (old new : Seen) → LooksAt keep key result old new → IsFilmed film failed old.trail film failed new.trail
filmed_looked film failed keep key (Ok look) old new seen = filmed_look film failed keep key look old.trail new.trail seen.1
filmed_looked film failed keep key (Err no_memory) old new seen = filmed_same film failed old.trail new.trail (ap (λ (s : Seen). s.trail) seen)

-- the receipt of a proposal is that of a step
step_of : (step : Proposal) (receipt : Receipt) → IsReceiptOf step receipt → is_step receipt ≡ true
step_of step (Inserted number key value) reported = refl
step_of step (Deleted number key value) reported = refl
step_of step (Modified number key old value) reported = refl
step_of step (Shaped kind page other) reported = refl
step_of (insert a b c d) (Looked at key found) reported = absurd reported
step_of (delete a b c) (Looked at key found) reported = absurd reported
step_of (modify a b c d) (Looked at key found) reported = absurd reported
step_of (consolidate a b c) (Looked at key found) reported = absurd reported
step_of (split a b c d) (Looked at key found) reported = absurd reported
step_of (term_add a b c d) (Looked at key found) reported = absurd reported
step_of (grow a b c) (Looked at key found) reported = absurd reported
step_of (mark a b c) (Looked at key found) reported = absurd reported
step_of (merge a b c d) (Looked at key found) reported = absurd reported
step_of (term_delete a b c d) (Looked at key found) reported = absurd reported

-- a step is a moment
pub filmed_step : {a b : Film} {f g : Bool} (step : Proposal) (receipt : Receipt) (old new : Seen) → IsAccepted step receipt old new → IsSameChoice a b → (g ≡ false → f ≡ false) → (g ≡ false → b.moments ≡ one_more a.moments)
    → string_bytes b.row ≡ string_bytes a.row → b.crew.items ≡ a.crew.items → AddsAFrame (string_bytes a.row) a.crew.items a.frames.items b.frames.items → IsFilmed a f old.trail b g new.trail
filmed_step step receipt old new accepted same failed counted row crew frames = record {
  choice = same;
  row = row;
  crew = crew;
  frames = record { added = frames.added; shown = frames.shown; kept = frames.kept };
  failed = failed;
  added = λ is. record {
    steps = 1;
    longer = let one : steps_in old.trail + 1 ≡ 1 + steps_in old.trail = omega arith in ap steps_in accepted.trail ∙ steps_more old.trail receipt ∙ ap (λ (b : Bool). steps_in old.trail + cond b 1 0) (step_of step receipt accepted.reported) ∙ one;
    moments = counted is;
  };
}

-- a frame of the rows so far is one of those and a row more
frame_stays : (rows : List Row) (replies : List Reply) (reply : Reply) (workers more : ℕ) (frame : Frame) → more ≡ workers → IsFrameOf rows replies workers frame → IsFrameOf rows (replies ++ reply ∷ []) more frame
frame_stays rows replies reply workers more frame same is =
    let long = length-append replies (reply ∷ []) in
    let kept : take (is.begun - 1) (replies ++ reply ∷ []) ≡ take (is.begun - 1) replies = take-append-le (is.begun - 1) replies (reply ∷ []) (omega (arith, is.within)) in
    record {
      begun = is.begun;
      within = omega (arith, is.within, long);
      row = is.row;
      many = is.many ∙ sym same;
      crew = subst (λ (l : List Reply). IsCrew rows l is.begun frame.crew.items) (sym kept) is.crew;
    }

-- a frame of the row after those that are done
frame_now : (rows : List Row) (replies : List Reply) (reply : Reply) (place workers : ℕ) (row : List ℕ) (crew : List Standing) (frame : Frame) → length replies ≡ place → length crew ≡ workers → IsCrew rows replies (place + 1) crew → NamesRow (place + 1) row → Shows row crew frame
    → IsFrameOf rows (replies ++ reply ∷ []) workers frame
frame_now rows replies reply place workers row crew frame many long is named shown =
    let more = length-append replies (reply ∷ []) in
    let kept : take (place + 1 - 1) (replies ++ reply ∷ []) ≡ replies =
    take-append-le (place + 1 - 1) replies (reply ∷ []) (omega (arith, many)) ∙ take_all (place + 1 - 1) replies (omega (arith, many)) in
    record {
      begun = place + 1;
      within = omega (arith, many, more);
      row = λ _. subst (λ (l : List ℕ). NamesRow (place + 1) l) (sym shown.row) named;
      many = ap length shown.crew ∙ long;
      crew = subst (λ (l : List Reply). IsCrew rows l (place + 1) frame.crew.items) (sym kept) (subst (λ (l : List Standing). IsCrew rows replies (place + 1) l) (sym shown.crew) is);
    }

frame_first : (rows : List Row) (row : List ℕ) (crew : List Standing) (frame : Frame) → IsCrew rows [] 0 crew → Shows row crew frame → IsFrameOf rows [] (length crew) frame
frame_first rows row crew frame is shown = record {
  begun = 0;
  within = omega arith;
  row = λ some. (let no : ⊥ = omega (arith, some) in absurd no);
  many = ap length shown.crew;
  crew = subst (λ (l : List Standing). IsCrew rows [] 0 l) (sym shown.crew) is;
}

-- before the first row there is the moment of the new table
pub films_begin : (rows : List Row) (film : Film) (row : List ℕ) (crew : List Standing) (none : List Frame) → film.moments ≡ 1 → none ≡ [] → film.crew.items ≡ crew → IsCrew rows [] 0 crew → AddsAFrame row crew none film.frames.items
    → IsFilmedUpTo rows 0 film []
films_begin rows film row crew none one empty same is frames =
    let are : film.frames.items ≡ frames.added = frames.kept ∙ ap (λ (l : List Frame). l ++ frames.added) empty in
    let first = All-weaker (Shows row crew) (IsFrameOf rows [] (length crew)) (λ frame shown. frame_first rows row crew frame is shown) frames.added frames.shown in
    record {
      replies = [];
      many = refl;
      reported = go_none (map (λ (row : Row). row.act) rows);
      moments = one;
      crew = subst (λ (l : List Standing). IsCrew rows [] 0 l) (sym same) is;
      frames = subst (λ (l : List Standing). All (IsFrameOf rows [] (length l)) film.frames.items) (sym same) (subst (λ (l : List Frame). All (IsFrameOf rows [] (length crew)) l) (sym are) first);
    }

-- and then one row after the other is begun, done and answered
pub films_go_on : (rows : List Row) (place : ℕ) (row : Row) (reply : Reply) (a b c d : Film) (old new : List Receipt) → place < length rows → get_or rows place row ≡ row → IsFilmedUpTo rows place a old
    → BeginsRow rows place a.crew.items b.crew.items → b.moments ≡ a.moments → b.frames.items ≡ a.frames.items → DoesRow row (place + 1) reply b old c new
    → AnswersRow rows place reply c.crew.items d.crew.items → d.moments ≡ c.moments → d.frames.items ≡ c.frames.items → IsFilmedUpTo rows (place + 1) d new
films_go_on rows place row reply a b c d old new inside at before begun moments frames does answered moments_then frames_then =
    let acts : List Act = map (λ (r : Row). r.act) rows in
    let none : Act = row.act in
    let act : get_or acts place none ≡ row.act = get_or-map (λ (r : Row). r.act) rows place row none inside ∙ ap (λ (r : Row). r.act) at in
    let answers : GoesWith (get_or acts place none) reply does.reported.added = subst (λ (a : Act). GoesWith a reply does.reported.added) (sym act) does.reported.answers in
    let room : place < length acts = omega (arith, length-map rows (λ (r : Row). r.act), inside) in
    let crew : IsCrew rows before.replies (place + 1) b.crew.items = begun.crew before.replies before.many before.crew in
    let long : length d.crew.items ≡ length b.crew.items = answered.many ∙ ap length does.crew in
    let are : d.frames.items ≡ a.frames.items ++ does.frames.added = frames_then ∙ does.frames.kept ∙ ap (λ (l : List Frame). l ++ does.frames.added) frames in
    let shown = IsFrameOf rows (before.replies ++ reply ∷ []) (length d.crew.items) in
    record {
      replies = before.replies ++ reply ∷ [];
      many = omega (arith, length-append before.replies (reply ∷ []), before.many);
      reported = rw does.reported.trail (go_more acts before.replies (reported_in old) reply place none does.reported.added before.many room before.reported answers);
      moments = moments_then ∙ does.moments.moments ∙ ap (moments_after does.moments.steps) (moments ∙ before.moments) ∙ after_more does.moments.steps (steps_in old) 1 ∙ ap (λ k. moments_after k 1) (sym does.moments.longer);
      crew = answered.crew before.replies before.many (subst (λ (l : List Standing). IsCrew rows before.replies (place + 1) l) (sym does.crew) crew);
      frames = subst (λ (l : List Frame). All shown l) (sym are)
          (All-append shown a.frames.items does.frames.added
          (All-weaker (IsFrameOf rows before.replies (length a.crew.items)) shown (λ frame is. frame_stays rows before.replies reply (length a.crew.items) (length d.crew.items) frame (long ∙ begun.many) is) a.frames.items before.frames)
          (All-weaker (Shows (string_bytes c.row) b.crew.items) shown (λ frame is. frame_now rows before.replies reply place (length d.crew.items) (string_bytes c.row) b.crew.items frame before.many (sym long) crew does.row is) does.frames.added does.frames.shown));
    }
