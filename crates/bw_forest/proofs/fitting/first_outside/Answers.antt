use Rattle.std.proofs.Common.{rules, ◌≡◌, ◌<◌, ◌≤◌, false, length, refl}
use Rattle.std.proofs.lemmas.Option.{slice_get_read}
use Rattle.bw_forest.specs.Fitting.{LiesInItsRange}
use Rattle.bw_tree.specs.Ranges.{LiesIn}
use Rattle.bw_forest.proofs.Fits.{all_in_range, in_its_range, one_more}
use Rattle.bw_forest.proofs.fitting.first_outside.Goals as goal

pub loop-i-preserved : goal.loop-i-preserved
loop-i-preserved g c =
    let bounds = c.args.bounds.now in
    let tables = c.args.tables.now in
    let table = c.index-tables-i.result in
    let less : c.loop-i.i < length tables = search rules in
    let lies : LiesIn c.range.result table.slots = c.lies_in.ensures.0 (search rules) in
    one_more (LiesInItsRange bounds tables) c.loop-i.i c.loop-i.invariant
    (in_its_range bounds tables c.loop-i.i c.range.result table c.range.ensures.range less c.index-tables-i.is lies)

pub returns-then-not-lies_in-clause-first : goal.returns-then-not-lies_in-clause-first
returns-then-not-lies_in-clause-first g c =
    let tables = c.args.tables.now in
    let table = c.index-tables-i.result in
    let less : c.loop-i.i < length tables = search rules in
    let outside : c.lies_in.result ≡ false = search rules in
    let there = slice_get_read tables (length tables) c.loop-i.i table refl less c.index-tables-i.is in (
      λ lies. let within = c.lies_in.ensures.1 (lies c.range.result table c.range.ensures.range there) in absurd (cc (within, outside)),
      c.loop-i.invariant,
    )

pub returns-clause-none : goal.returns-clause-none
returns-clause-none g c =
    let past : length c.args.tables.now ≤ c.loop-i.i = search rules in
    all_in_range c.args.bounds.now c.args.tables.now c.loop-i.i past c.loop-i.invariant
