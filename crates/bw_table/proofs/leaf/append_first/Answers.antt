use Rattle.std.proofs.Common.{◌≡◌, ◌<◌, ◌++◌, ◌∙◌, [], ◌∷◌, length, take, append_assoc, sym, ap, arith}
use Rattle.std.proofs.lemmas.List.{take_more}
use Rattle.bw_delta.specs.Slices.{list_of}
use Rattle.bw_table.proofs.leaf.append_first.Goals as goal

pub loop-place-preserved : goal.loop-place-preserved
loop-place-preserved c =
    let run = list_of c.args.pairs in
    let place = c.loop-place.place in
    let inside : place < length run = omega arith in
    let one = take_more run place c.entry.result inside ∙ ap (λ e. take place run ++ e ∷ []) (sym c.entry.ensures) in
    record {
      appended = c.push_reserved.ensures.items ∙ ap (λ l. l ++ c.entry.result ∷ []) c.loop-place.invariant.appended
          ∙ append_assoc c.args.list.now.items (take place run) (c.entry.result ∷ []) ∙ ap (λ l. c.args.list.now.items ++ l) (sym one);
      room = c.push_reserved.ensures.capacity ∙ c.loop-place.invariant.room;
    }
