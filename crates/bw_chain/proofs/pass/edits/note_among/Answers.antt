use Rattle.std.proofs.Common.{◌≡◌, ◌≤◌, ◌+◌, ◌∙◌, ◌++◌, ℕ, List, length, take, drop, refl, ap, sym, arith}
use Rattle.std.specs.Prelude.{◌-◌}
use Rattle.std.proofs.Math.Seq.{take-append_seam}
use Rattle.std.proofs.lemmas.List.{length-drop, length-take-le, take-append-drop, take-take}
use Rattle.bw_chain.proofs.Passing.Inserts.{put_in-is, put-front}
use Rattle.bw_chain.proofs.pass.edits.note_among.Goals as goal

-- items that were moved up from a place on and down again
kept_front : {Y : Type 0} (old up now : List Y) (place count : ℕ) → place ≤ count → count ≤ length old → take count now ≡ take place up ++ take (count - place) (drop (place + 1) up)
    → take place up ≡ take place old → drop (place + 1) up ≡ drop place (take count old) ++ drop (count + 1) old → take count now ≡ take count old
kept_front old up now place count upto inside front before behind =
    let moved = drop place (take count old) in
    let rest = drop (count + 1) old in
    let long : length moved ≡ count - place = omega (arith, length-drop place (take count old), length-take-le count old inside) in
    front
    ∙ ap (λ l. l ++ take (count - place) (drop (place + 1) up)) before
    ∙ ap (λ l. take place old ++ take (count - place) l) behind
    ∙ ap (λ n. take place old ++ take n (moved ++ rest)) (sym long)
    ∙ ap (λ l. take place old ++ l) (take-append_seam moved rest)
    ∙ ap (λ l. l ++ moved) (sym (take-take place count old upto))
    ∙ take-append-drop place (take count old)

pub returns-then-is_there-clause-front : goal.returns-then-is_there-clause-front
returns-then-is_there-clause-front g c =
    let raised = c.raise-place in
    kept_front c.args.edits.now raised.new.edits c.lower.new.items raised.result.0 c.args.count raised.ensures.upto (omega (arith, c.requires.inside)) c.lower.ensures.front raised.ensures.before raised.ensures.behind
    ∙ sym (raised.ensures.there c.if-is_there.true c.args.edit)

pub returns-clause-front : goal.returns-clause-front
returns-clause-front g c =
    let old = c.args.edits.now in
    let raised = c.raise-place in
    let place = raised.result.0 in
    let le : place ≤ length (take c.args.count old) = omega (arith, raised.ensures.upto, length-take-le c.args.count old (omega (arith, c.requires.inside))) in
    let put = put_in-is old raised.new.edits place c.args.count place (c.args.key, c.args.edit) refl raised.ensures.upto c.requires.inside raised.ensures.as_many raised.ensures.before raised.ensures.behind in
    put-front old _ place c.args.count (c.args.key, c.args.edit) le c.requires.inside put ∙ sym (raised.ensures.missing c.if-is_there.false c.args.edit)
