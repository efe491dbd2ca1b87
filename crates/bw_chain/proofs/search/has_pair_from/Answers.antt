use Rattle.std.proofs.Common.{◌≡◌, ◌≤◌, sym, ◌∙◌, arith}
use Rattle.std.proofs.lemmas.Bool.Decides.{nat_tests}
use Rattle.bw_keys.specs.Ranges.{key_count}
use Rattle.bw_delta.specs.Pairs.{pairs}
use Rattle.bw_delta.specs.Slices.{list_of}
use Rattle.bw_chain.proofs.Lasts.{some_from, none_from_none}
use Rattle.bw_chain.proofs.Partitions.{last_entry-slice_get}
use Rattle.bw_chain.proofs.search.has_pair_from.Goals as goal

pub returns-in-Some : goal.returns-in-Some
returns-in-Some g c =
    let es = list_of c.entries_on.result in
    let are : pairs c.args.chain.now ≡ es = rw (← c.chain.view_is, c.in-Bare.is) (sym c.entries_on.ensures.listed) in
    let last = last_entry-slice_get es ∙ sym c.last.ensures ∙ c.in-Some.is in
    let tells = some_from 0 key_count c.args.key c.in-Some.last es c.entries_on.ensures.ascending last in (
      (λ yes. rw are (tells.0 (grind (arith, nat_tests, yes)))),
      (λ some. let upto : c.args.key ≤ c.in-Some.last.0 = tells.1 (rw are at some) in grind (arith, nat_tests, upto)),
    )

pub returns-in-None : goal.returns-in-None
returns-in-None g c =
    let es = list_of c.entries_on.result in
    let are : pairs c.args.chain.now ≡ es = rw (← c.chain.view_is, c.in-Bare.is) (sym c.entries_on.ensures.listed) in
    let last = last_entry-slice_get es ∙ sym c.last.ensures ∙ c.in-None.is in
    ((λ no. absurd (cc no)), (λ some. none_from_none c.args.key es last (rw are at some)))
