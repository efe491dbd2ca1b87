use Rattle.std.proofs.Common.{◌∷◌, [], ◌++◌, map, ap, ◌∙◌, rules}
use Rattle.std.proofs.lemmas.List.{map-append}
use Rattle.bw_law.specs.Slots.{SlotValue}
use Rattle.bw_table.specs.Views.{leaf_at, leaf_of}
use Rattle.bw_table.proofs.RowWalk.{listing_begins, listing_goes_on, at_next, fewer_keys_left}
use Rattle.bw_table.proofs.table.Table.survey.Goals as goal

pub leaves-init : goal.leaves-init
leaves-init g c =
    let table = c.args.self.now in
    let first = c.leftmost_leaf in
    listing_begins table first.ensures.lawful (map (leaf_at table.slots)) first.result c.new-leaves.result.items first.ensures.first first.ensures.leaf c.new-leaves.ensures.items

pub leaves-preserved : goal.leaves-preserved
leaves-preserved g c =
    let table = c.args.self.now in
    let page = c.in-Some.pid in
    let slot = c.page-slot.ensures in
    listing_goes_on table slot.lawful (map (leaf_at table.slots)) (map-append (leaf_at table.slots)) c.leaves.next c.right-next.result page c.leaves.leaves.items c.push.new.self.items
    c.leaves.invariant c.in-Some.is
    (c.right-next.ensures ∙ ap (λ (s : SlotValue). s.right) slot.there)
    (c.in_ok-push.ensures.items ∙ ap (λ leaf. c.leaves.leaves.items ++ leaf ∷ []) (c.leaf.ensures ∙ ap (leaf_of page) slot.there))

pub leaves-smaller : goal.leaves-smaller
leaves-smaller g c =
    let table = c.args.self.now in
    let page = c.in-Some.pid in
    let slot = c.page-slot.ensures in
    let here = at_next table slot.lawful _ _ page _ c.leaves.invariant c.in-Some.is in
    fewer_keys_left table slot.lawful c.leaves.next c.right-next.result page here.in_row c.in-Some.is (c.right-next.ensures ∙ ap (λ (s : SlotValue). s.right) slot.there)

pub returns : goal.returns
returns g c = search rules
