use Rattle.std.proofs.Common.{◌++◌, sym, ap, ◌∙◌, subst}
use Rattle.bw_law.proofs.MapAndTerms.{map_law}
use Rattle.bw_law.specs.Laws.{IsTheMap}
use Rattle.bw_law.specs.Slots.{SlotValue, pairs_in}
use Rattle.bw_law.specs.Tables.{joined_pairs}
use Rattle.bw_table.proofs.RowWalk.{listing_begins, listing_goes_on, at_next, fewer_keys_left, whole_is_listed, joined_pairs-one, joined_pairs-append}
use Rattle.bw_table.proofs.table.Table.pairs.Goals as goal

pub leaves-init : goal.leaves-init
leaves-init g c =
    let table = c.args.self.now in
    let first = c.leftmost_leaf in
    listing_begins table first.ensures.lawful (joined_pairs table.slots) first.result c.new-pairs.result.items first.ensures.first first.ensures.leaf c.new-pairs.ensures.items

pub leaves-preserved : goal.leaves-preserved
leaves-preserved g c =
    let table = c.args.self.now in
    let page = c.in-Some.pid in
    let slot = c.page-slot.ensures in
    let here = at_next table slot.lawful _ _ page _ c.leaves.invariant c.in-Some.is in
    listing_goes_on table slot.lawful (joined_pairs table.slots) (joined_pairs-append table.slots) c.leaves.next c.right-next.result page c.leaves.pairs.items c.append_pairs.new.list.items
    c.leaves.invariant c.in-Some.is
    (c.right-next.ensures ∙ ap (λ (s : SlotValue). s.right) slot.there)
    (c.in_ok-append_pairs.ensures ∙ ap (λ pairs. c.leaves.pairs.items ++ pairs) (ap pairs_in slot.there ∙ sym (joined_pairs-one table.slots page.0 here.in_row here.is_leaf)))

pub leaves-smaller : goal.leaves-smaller
leaves-smaller g c =
    let table = c.args.self.now in
    let page = c.in-Some.pid in
    let slot = c.page-slot.ensures in
    let here = at_next table slot.lawful _ _ page _ c.leaves.invariant c.in-Some.is in
    fewer_keys_left table slot.lawful c.leaves.next c.right-next.result page here.in_row c.in-Some.is (c.right-next.ensures ∙ ap (λ (s : SlotValue). s.right) slot.there)

pub returns-clause-map : goal.returns-clause-map
returns-clause-map g c =
    let table = c.args.self.now in
    let listed = c.leaves.invariant in
    let row_is = whole_is_listed table listed.lawful (joined_pairs table.slots) c.leaves.next c.leaves.pairs.items listed c.in_default.is in
    subst (IsTheMap table) (sym listed.listed_is) (map_law table listed.lawful listed.before row_is)
