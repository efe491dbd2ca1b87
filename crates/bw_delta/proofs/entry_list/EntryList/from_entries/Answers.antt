use Rattle.std.proofs.Common.{◌≡◌, ◌+◌, [], ◌∷◌, ◌++◌, length-append, take, ap, sym, ◌∙◌, arith}
use Rattle.std.proofs.lemmas.List.{take_more}
use Rattle.bw_delta.proofs.Zips.{zip-append}
use Rattle.bw_delta.proofs.entry_list.EntryList.from_entries.Goals as goal

pub loop-entry-preserved : goal.loop-entry-preserved
loop-entry-preserved g c =
    let es = c.args.entries.now in
    let i = c.loop-entry.entry-index in
    let e = c.entry-item.result in
    let keys = c.loop-entry.keys.items in
    let values = c.loop-entry.values.items in
    let before = c.loop-entry.invariant in
    let more : take (i + 1) es ≡ take i es ++ e ∷ [] = take_more es i e c.loop-entry-test.true ∙ ap (λ d. take i es ++ d ∷ []) (sym c.entry-item.is) in
    rw (c.in_ok-push.ensures.items, c.in_ok-push-2.ensures.items) (record {
      even = omega (arith, before.even, length-append keys (e.0 ∷ []), length-append values (e.1 ∷ []));
      so_far = zip-append keys (e.0 ∷ []) values (e.1 ∷ []) before.even ∙ ap (λ l. l ++ e ∷ []) before.so_far ∙ sym more;
    })
