use Rattle.std.proofs.Common.{◌+◌, ◌≤◌, ap, arith}
use Rattle.bw_law.specs.declared.pages.TheConstants.{MAX_PAGES}
use Rattle.bw_law.specs.Tables.{TableValue}
use Rattle.bw_law.proofs.MorePages.{more_pages_law}
use Rattle.bw_table.specs.Whole.{table_of}
use Rattle.bw_table.proofs.Whole.{whole_with_more}
use Rattle.bw_table.proofs.table.Table.add_pages.Goals as goal

pub invariant_of-self-2 : goal.invariant_of-self-2
invariant_of-self-2 g c =
    let old = table_of c.self.inside.slots.items c.self.inside.free.ids c.self.inside.root c.self.inside.book c.self.inside.config in
    let few : c.self.inside.config.pages + c.args.more ≤ MAX_PAGES = omega (arith, c.requires, ap (λ (t : TableValue). t.config.pages) c.self.view_is) in
    rw (c.push_free.ensures.slots, c.reserve.ensures.items, c.in_ok-free.ensures.ids) (whole_with_more old c.args.more _ _ c.self.invariant few c.push_free.ensures.fits c.in_ok-free.ensures.room)

pub returns-clause-kept : goal.returns-clause-kept
returns-clause-kept g c =
    let old = table_of c.self.inside.slots.items c.self.inside.free.ids c.self.inside.root c.self.inside.book c.self.inside.config in
    let few : c.self.inside.config.pages + c.args.more ≤ MAX_PAGES = omega (arith, c.requires, ap (λ (t : TableValue). t.config.pages) c.self.view_is) in
    rw (c.push_free.ensures.slots, c.reserve.ensures.items, c.in_ok-free.ensures.ids, ← c.self.view_is)
    (more_pages_law old c.args.more c.self.invariant.lawful c.self.invariant.booked few c.push_free.ensures.fits)
