use Rattle.std.proofs.Common.{◌≡◌, ◌++◌, [], length, refl, ap, ◌∙◌, arith}
use Rattle.std.specs.List.{zip}
use Rattle.bw_keys.specs.Ranges.{end_of}
use Rattle.bw_chain.specs.Changes.{entries_by}
use Rattle.bw_chain.specs.Passing.Edited.{edited_below}
use Rattle.bw_chain.proofs.Passing.Descents.{unedited}
use Rattle.bw_chain.proofs.pass.consolidation.list.Goals as goal

pub of_lists-requires : goal.of_lists-requires
of_lists-requires g c =
    let even : length c.in_ok-values.values.items ≡ length c.in_ok-keys.keys.items = omega (arith, ap length c.in_ok-keys.ensures.items, ap length c.in_ok-values.ensures.items) in
    let both = c.in_ok-pass.ensures.taken even in
    both.0

pub returns : goal.returns
returns g c =
    let entry = g.X.EntryValue in
    let laws = g.met.X.EntryValue in
    let chain = c.args.chain.now in
    let whole = unedited entry.own_entries entry.own_change laws.rise laws.cut chain c.args.high [] c.requires.built c.requires.high refl in
    let even : length c.in_ok-values.values.items ≡ length c.in_ok-keys.keys.items = omega (arith, ap length c.in_ok-keys.ensures.items, ap length c.in_ok-values.ensures.items) in
    let both = c.in_ok-pass.ensures.taken even in
    let none : zip c.in_ok-keys.keys.items c.in_ok-values.values.items ≡ [] = rw c.in_ok-keys.ensures.items refl in
    c.of_lists.ensures
    ∙ both.1
    ∙ ap (λ list. list ++ edited_below (end_of c.args.high) [] (entries_by entry.own_entries entry.own_change chain)) none
    ∙ whole
