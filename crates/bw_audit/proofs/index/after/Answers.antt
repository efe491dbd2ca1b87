use Rattle.std.proofs.Common.{◌<◌, rules, sym, ap, length}
use Rattle.bw_audit.specs.Indexed.{after_of}
use Rattle.bw_audit.proofs.Indexing.{placed_at, after_placed, read_itself, unplaced_at}
use Rattle.bw_audit.proofs.index.after.Goals as goal

pub bounds-changes-place : goal.bounds-changes-place
bounds-changes-place c =
    let itself = read_itself c.args.changes.now _ c.args.places.now c.requires.places c.args.number c.requires.number in
    (placed_at c.args.changes.now _ c.args.places.now c.requires.places c.args.number c.requires.number _ itself c.in-Some.place c.in-Some.is).0

pub offset_bounds-changes-place : goal.offset_bounds-changes-place
offset_bounds-changes-place c =
    let itself = read_itself c.args.changes.now _ c.args.places.now c.requires.places c.args.number c.requires.number in
    let inside : c.in-Some.place < length c.args.changes.now =
    (placed_at c.args.changes.now _ c.args.places.now c.requires.places c.args.number c.requires.number _ itself c.in-Some.place c.in-Some.is).0 in
    search rules

pub returns-in-Some : goal.returns-in-Some
returns-in-Some c =
    let itself = read_itself c.args.changes.now _ c.args.places.now c.requires.places c.args.number c.requires.number in
    after_placed c.args.changes.now _ c.args.places.now c.requires.places c.args.number c.requires.number _ itself c.in-Some.place c.in-Some.is _

pub returns-in-None : goal.returns-in-None
returns-in-None c =
    let itself = read_itself c.args.changes.now _ c.args.places.now c.requires.places c.args.number c.requires.number in
    sym (ap after_of (unplaced_at c.args.changes.now _ c.args.places.now c.requires.places c.args.number c.requires.number _ itself c.in-None.is))
