use Rattle.std.proofs.Common.{◌<◌, ◌≤◌, length, arith}
use Rattle.std.specs.Prelude.{vec_capacity}
use Rattle.bw_keys.specs.Ranges.{end_of}
use Rattle.bw_table.proofs.Cuts.{first_has_listing, page_ends_listing}
use Rattle.bw_table.proofs.Listings.{row_begins, row_goes_on, page_has_room, listing_is_full, listing_is_whole}
use Rattle.bw_table.proofs.table.Table.fill.Goals as goal

pub leaves-init : goal.leaves-init
leaves-init g c = record {
  lawful = c.page_for.ensures.lawful;
  up_to = row_begins c.args.self.now c.page_for.ensures.lawful c.args.low c.args.limit c.page_for.result c.args.list.items c.page_for.ensures.leaf c.requires.empty;
  capacity = omega arith;
}

pub returns-then-len-limit : goal.returns-then-len-limit
returns-then-len-limit g c =
    let so_far = c.leaves.invariant in
    let full : c.args.limit ≤ length c.leaves.listed.items = omega (arith, c.len.ensures, c.leaves.listed.ok.0) in
    first_has_listing c.args.self.now so_far.lawful c.args.low (end_of c.args.high) c.args.limit c.leaves.listed.items
    (listing_is_full c.args.self.now so_far.lawful c.args.low c.args.limit c.leaves.next c.leaves.listed.items so_far.up_to full)

pub returns-then-ends_past : goal.returns-then-ends_past
returns-then-ends_past g c =
    let so_far = c.leaves.invariant in
    let more : length c.leaves.listed.items < c.args.limit = omega (arith, c.len.ensures, c.leaves.listed.ok.0) in
    let slot = c.slot_in_row-slot in
    page_ends_listing c.args.self.now so_far.lawful c.args.low (end_of c.args.high) c.args.limit c.leaves.next c.leaves.listed.items so_far.up_to c.in-Some.pid slot.result.now
    c.list_from-listed.result.items c.in-Some.is slot.ensures.there more c.list_from-listed.ensures.items (c.ends_past.ensures.0 c.if-ends_past.true)

pub list_from-listed-requires-clause-room : goal.list_from-listed-requires-clause-room
list_from-listed-requires-clause-room g c =
    let so_far = c.leaves.invariant in
    let more : length c.leaves.listed.items < c.args.limit = omega (arith, c.len.ensures, c.leaves.listed.ok.0) in
    let room =
    page_has_room c.args.self.now so_far.lawful c.args.low c.args.limit c.leaves.next c.leaves.listed.items so_far.up_to c.in-Some.pid c.slot_in_row-slot.result.now
    (vec_capacity c.args.list) c.in-Some.is c.slot_in_row-slot.ensures.there more c.requires.room in
    omega (arith, room, so_far.capacity)

pub leaves-preserved : goal.leaves-preserved
leaves-preserved g c =
    let so_far = c.leaves.invariant in
    let more : length c.leaves.listed.items < c.args.limit = omega (arith, c.len.ensures, c.leaves.listed.ok.0) in
    let slot = c.slot_in_row-slot in record {
      lawful = so_far.lawful;
      up_to = row_goes_on c.args.self.now so_far.lawful c.args.low c.args.limit c.leaves.next c.leaves.listed.items so_far.up_to c.in-Some.pid slot.result.now c.right-next.result
          c.list_from-listed.result.items c.in-Some.is slot.ensures.there c.right-next.ensures more c.list_from-listed.ensures.items;
      capacity = omega (arith, c.list_from-listed.ensures.capacity, so_far.capacity);
    }

pub returns : goal.returns
returns g c =
    let so_far = c.leaves.invariant in
    first_has_listing c.args.self.now so_far.lawful c.args.low (end_of c.args.high) c.args.limit c.leaves.listed.items
    (listing_is_whole c.args.self.now so_far.lawful c.args.low c.args.limit c.leaves.next c.leaves.listed.items so_far.up_to c.in_default.is)
