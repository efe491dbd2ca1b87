-- What a worker's steps make of a film.
use Rattle.std.specs.Prelude.{◌≡◌, refl, ℕ, zero, suc, ◌+◌, ◌-◌, ◌<◌, ◌≤◌, [], ◌++◌, take, codes, decimal, Bool, true, false, List, length, map, Option, Some, None, count_by}
use Rattle.std.specs.List.{All}
use Rattle.std.specs.String.{string_bytes}
use Rattle.std.proofs.Common.{◌∙◌, ap, sym, subst, append_assoc, arith}
use Rattle.std.proofs.lemmas.List.{append-nil}
use Rattle.std.proofs.lemmas.List.Elements.{All-append, All-nil}
use Rattle.bw_step.specs.declared.receipt.Receipt.{Receipt}
use Rattle.bw_step.specs.declared.receipt.Receipt.TheVariants.{Looked}
use Rattle.bw_step.specs.Tellings.{reported_in}
use Rattle.bw_procedures.specs.declared.reply.Reply.{Reply}
use Rattle.bw_procedures.specs.Reported.{AddsReported, GoWith}
use Rattle.bw_scripts.specs.declared.answer.Answer.{Answer}
use Rattle.bw_scripts.specs.declared.answer.Answer.TheVariants as answers
use Rattle.bw_texts.specs.declared.trace.row.Row.{Row}
use Rattle.bw_film.specs.declared.film.Film.{Film}
use Rattle.bw_film.specs.declared.crew.Standing.{Standing}
use Rattle.bw_film.specs.declared.frame.Frame.{Frame}
use Rattle.bw_film.specs.Choices.{one_more}
use Rattle.bw_film.specs.Crews.{IsCrew}
use Rattle.bw_film.specs.Films.{AddsFrames, Shows}

-- the receipt is that of a step, and not of a look
abbrev pub is_step : Receipt → Bool
is_step (Looked at key found) = false
is_step receipt = true

abbrev pub steps_in : List Receipt → ℕ
steps_in trail = count_by is_step trail

-- how many moments there are after some steps more
abbrev pub moments_after : ℕ → ℕ → ℕ
moments_after zero moments = moments
moments_after (suc steps) moments = one_more (moments_after steps moments)

-- a film of the same choice
abbrev pub IsSameChoice : Film → Film → Type 0
IsSameChoice old new = new.choice ≡ old.choice

-- each step by which the second trail is longer made one moment of the film
pub record AddsMoments (old : Film) (old_trail : List Receipt) (new : Film) (new_trail : List Receipt) : Type 0 where
  pub steps : ℕ
  pub longer : steps_in new_trail ≡ steps + steps_in old_trail
  pub moments : new.moments ≡ moments_after steps old.moments

-- the same, as long as memory wasn't wanting for a moment; and each frame that they made shows what the workers do meanwhile
pub record IsFilmed (old : Film) (old_failed : Bool) (old_trail : List Receipt) (new : Film) (new_failed : Bool) (new_trail : List Receipt) : Type 0 where
  pub choice : IsSameChoice old new
  pub row : string_bytes new.row ≡ string_bytes old.row
  pub crew : new.crew.items ≡ old.crew.items
  pub frames : AddsFrames (string_bytes old.row) old.crew.items old.frames.items new.frames.items
  pub failed : new_failed ≡ false → old_failed ≡ false
  pub added : new_failed ≡ false → AddsMoments old old_trail new new_trail

-- moments after more steps still
pub after_more : (more steps moments : ℕ) → moments_after more (moments_after steps moments) ≡ moments_after (more + steps) moments
after_more zero steps moments = let same : steps ≡ 0 + steps = omega arith in ap (λ k. moments_after k moments) same
after_more (suc more) steps moments =
    let same : suc (more + steps) ≡ suc more + steps = omega arith in
    ap one_more (after_more more steps moments) ∙ ap (λ k. moments_after k moments) same

adds_none : (film : Film) (old new : List Receipt) → steps_in new ≡ steps_in old → AddsMoments film old film new
adds_none film old new same = let none : steps_in old ≡ 0 + steps_in old = omega arith in record { steps = 0; longer = same ∙ none; moments = refl }

adds_more : {a b c : Film} {x y z : List Receipt} → AddsMoments a x b y → AddsMoments b y c z → AddsMoments a x c z
adds_more {a} {b} {c} first then = record {
  steps = then.steps + first.steps;
  longer = omega (arith, first.longer, then.longer);
  moments = then.moments ∙ ap (moments_after then.steps) first.moments ∙ after_more then.steps first.steps a.moments;
}

frames_none : (row : List ℕ) (crew : List Standing) (frames : List Frame) → AddsFrames row crew frames frames
frames_none row crew frames = record { added = []; shown = All-nil (Shows row crew); kept = sym (append-nil frames) }

frames_more : (row : List ℕ) (crew : List Standing) (a b c : List Frame) → AddsFrames row crew a b → AddsFrames row crew b c → AddsFrames row crew a c
frames_more row crew a b c first then = record {
  added = first.added ++ then.added;
  shown = All-append (Shows row crew) first.added then.added first.shown then.shown;
  kept = then.kept ∙ ap (λ l. l ++ then.added) first.kept ∙ append_assoc {A = Frame} a first.added then.added;
}

-- without a step more there is no moment more
pub filmed_as : (film : Film) (failed : Bool) (old new : List Receipt) → steps_in new ≡ steps_in old → IsFilmed film failed old film failed new
filmed_as film failed old new same = record { choice = refl; row = refl; crew = refl; frames = frames_none (string_bytes film.row) film.crew.items film.frames.items; failed = λ is. is; added = λ is. adds_none film old new same }

pub filmed_stay : (film : Film) (failed : Bool) (trail : List Receipt) → IsFilmed film failed trail film failed trail
filmed_stay film failed trail = filmed_as film failed trail trail refl

pub filmed_join : {a b c : Film} {f g h : Bool} {x y z : List Receipt} → IsFilmed a f x b g y → IsFilmed b g y c h z → IsFilmed a f x c h z
filmed_join {a} {b} {c} first then = record {
  choice = then.choice ∙ first.choice;
  row = then.row ∙ first.row;
  crew = then.crew ∙ first.crew;
  frames = frames_more (string_bytes a.row) a.crew.items a.frames.items b.frames.items c.frames.items first.frames
      (subst (λ (s : List ℕ). AddsFrames s a.crew.items b.frames.items c.frames.items) first.row
      (subst (λ (l : List Standing). AddsFrames (string_bytes b.row) l b.frames.items c.frames.items) first.crew then.frames));
  failed = λ is. first.failed (then.failed is);
  added = λ is. adds_more (first.added (then.failed is)) (then.added is);
}

-- a text names the row with this number
pub record NamesRow (number : ℕ) (text : List ℕ) : Type 0 where
  pub rest : List ℕ
  pub is : text ≡ codes "row " ++ decimal number ++ codes ": " ++ rest

-- a frame shows what each worker does at a moment of the row that it names, or before the first one
pub record IsFrameOf (rows : List Row) (replies : List Reply) (workers : ℕ) (frame : Frame) : Type 0 where
  -- how many rows are begun; all but the last of them are done
  pub begun : ℕ
  pub within : begun ≤ length replies
  pub row : 0 < begun → NamesRow begun (string_bytes frame.row)
  pub many : length frame.crew.items ≡ workers
  pub crew : IsCrew rows (take (begun - 1) replies) begun frame.crew.items

-- the rows before a place are done, by a worker with this trail, and the film has a moment for the new table and one for each of its steps; its frames show what each of the rows' workers does
pub record IsFilmedUpTo (rows : List Row) (place : ℕ) (film : Film) (trail : List Receipt) : Type 0 where
  pub replies : List Reply
  pub many : length replies ≡ place
  pub reported : GoWith (map (λ row. row.act) rows) replies (reported_in trail)
  pub moments : film.moments ≡ moments_after (steps_in trail) 1
  pub crew : IsCrew rows replies place film.crew.items
  pub frames : All (IsFrameOf rows replies (length film.crew.items)) film.frames.items

-- the film of a trace has a moment for the new table and one for each step that did its rows
pub record IsFilmOf (rows : List Row) (film : Film) : Type 0 where
  pub trail : List Receipt
  pub done : IsFilmedUpTo rows (length rows) film trail

-- a row is done: its receipts go with the reply, its steps are moments, and their frames show what the workers do meanwhile
pub record DoesRow (it : Row) (number : ℕ) (reply : Reply) (old : Film) (old_trail : List Receipt) (new : Film) (new_trail : List Receipt) : Type 0 where
  pub reported : AddsReported it.act reply old_trail new_trail
  pub moments : AddsMoments old old_trail new new_trail
  pub row : NamesRow number (string_bytes new.row)
  pub crew : new.crew.items ≡ old.crew.items
  pub frames : AddsFrames (string_bytes new.row) old.crew.items old.frames.items new.frames.items

-- an answer makes a moment where the table is new or a step was taken
abbrev pub moments_with : Option Answer → ℕ → ℕ
moments_with None moments = moments
moments_with (Some answers.Made) moments = one_more moments
moments_with (Some (answers.Accepted receipt)) moments = one_more moments
moments_with (Some answer) moments = moments
