use Rattle.std.proofs.Common.{◌≡◌, sym}
use Rattle.std.specs.Prelude.{Some, None}
use Rattle.bw_delta.specs.Entries.{last_upto}
use Rattle.bw_delta.specs.Slices.{list_of}
use Rattle.bw_chain.proofs.Searching.Reaches.{greatest_last, greatest_found, clear_last, clear_none}
use Rattle.bw_chain.proofs.search.reach.Reach.greatest.Goals as goal

pub returns-then-is_open : goal.returns-then-is_open
returns-then-is_open g c =
    let reach = c.args.self in
    let entries = list_of c.args.entries in
    let last : last_upto reach.upto entries ≡ Some c.in-Some.entry = rw c.past.ensures at (sym c.in-Some.ensures) in
    greatest_last reach.upto reach.best c.in-Some.entry entries c.requires.ascending last (sym c.if-is_open.ensures)

pub returns-else-is_open : goal.returns-else-is_open
returns-else-is_open g c =
    let reach = c.args.self in
    let entries = list_of c.args.entries in
    let last : last_upto reach.upto entries ≡ Some c.in-Some.entry = rw c.past.ensures at (sym c.in-Some.ensures) in
    greatest_found reach.upto reach.best entries (clear_last reach.upto reach.best c.in-Some.entry entries c.requires.ascending last (sym c.if-is_open.ensures))

pub returns-in-None : goal.returns-in-None
returns-in-None g c =
    let reach = c.args.self in
    let entries = list_of c.args.entries in
    let none : last_upto reach.upto entries ≡ None = rw c.past.ensures at (sym c.in-None.ensures) in
    greatest_found reach.upto reach.best entries (clear_none reach.upto reach.best entries none)
