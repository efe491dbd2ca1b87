use Rattle.std.proofs.Common.{◌≡◌, ℕ, length, refl, sym, ap, subst, ◌∙◌, arith}
use Rattle.bw_law.specs.Tables.{TableValue, new_table}
use Rattle.bw_law.proofs.NewTable.{good_pages}
use Rattle.nifforan.specs.AtOnce.{IsAtRest}
use Rattle.nifforan.specs.Maps.{pairs_of}
use Rattle.nifforan.proofs.Listing.{new_is_empty, new_is_free}
use Rattle.nifforan.proofs.NewRest.{new_rests}
use Rattle.nifforan.proofs.Settings.{begins_with_8, fault_passed_on, no_bad_setting}
use Rattle.nifforan.proofs.map.Map.new.Goals as goal

pub invariant_of-result : goal.invariant_of-result
invariant_of-result g c =
    let ready = c.new-2.ensures.ready in
    let pages = ap (λ (t : TableValue). t.config.pages) (c.new-2.ensures.table ∙ c.in_ok-table.ensures.ok) in
    let first = record c.args.config { pages = c.first_pages.result } in
    let some = good_pages first (c.in_ok-table.ensures.fine refl) in
    let range = begins_with_8 c.args.config.pages (omega (arith, some.0, c.first_pages.ensures)) in
    record {
      lawful = ready.lawful;
      booked = ready.booked;
      no_receipts = ready.no_receipts;
      pages = omega (arith, pages, c.first_pages.ensures, range.0, range.1);
      few = range.2;
    }

pub returns-clause-empty : goal.returns-clause-empty
returns-clause-empty g c =
    let first = record c.args.config { pages = c.first_pages.result } in
    ap (λ (t : TableValue). pairs_of t.slots) (c.new-2.ensures.table ∙ c.in_ok-table.ensures.ok) ∙ new_is_empty first (c.in_ok-table.ensures.fine refl) (omega arith)

pub returns-clause-table : goal.returns-clause-table
returns-clause-table g c =
    let first = record c.args.config { pages = c.first_pages.result } in
    let some = good_pages first (c.in_ok-table.ensures.fine refl) in
    let range = begins_with_8 c.args.config.pages (omega (arith, some.0, c.first_pages.ensures)) in
    let eight : c.first_pages.result ≡ 8 = omega (arith, c.first_pages.ensures, range.0) in
    (c.new-2.ensures.table ∙ c.in_ok-table.ensures.ok) ∙ ap (λ (n : ℕ). new_table (record c.args.config { pages = n })) eight

pub returns-clause-rests : goal.returns-clause-rests
returns-clause-rests g c fresh =
    let first = record c.args.config { pages = c.first_pages.result } in
    let is = c.new-2.ensures.table ∙ c.in_ok-table.ensures.ok in
    λ key. subst (λ (t : TableValue). IsAtRest t key) (sym is) (new_rests first (c.in_ok-table.ensures.fine refl) fresh key)

pub returns-clause-pages : goal.returns-clause-pages
returns-clause-pages g c =
    let first = record c.args.config { pages = c.first_pages.result } in
    let is = c.new-2.ensures.table ∙ c.in_ok-table.ensures.ok in
    let some = good_pages first (c.in_ok-table.ensures.fine refl) in
    let range = begins_with_8 c.args.config.pages (omega (arith, some.0, c.first_pages.ensures)) in
    omega (arith, ap (λ (t : TableValue). t.config.pages) is, c.first_pages.ensures, range.0)

pub returns-clause-free : goal.returns-clause-free
returns-clause-free g c =
    let first = record c.args.config { pages = c.first_pages.result } in
    let is = c.new-2.ensures.table ∙ c.in_ok-table.ensures.ok in
    let some = good_pages first (c.in_ok-table.ensures.fine refl) in
    let range = begins_with_8 c.args.config.pages (omega (arith, some.0, c.first_pages.ensures)) in
    omega (arith, ap (λ (t : TableValue). t.config.pages) is, ap (λ (t : TableValue). length t.free) is, new_is_free first, c.first_pages.ensures, range.0, range.1)

pub returns-clause-fine : goal.returns-clause-fine
returns-clause-fine g c = λ _. no_bad_setting c.args.config c.first_pages.result c.first_pages.ensures (c.in_ok-table.ensures.fine refl)

pub returns-in_err-table-clause-fault : goal.returns-in_err-table-clause-fault
returns-in_err-table-clause-fault g c =
    fault_passed_on c.args.config c.first_pages.result c.first_pages.ensures c.from_residual.result _ c.from_residual.ensures.1 c.in_err-table.ensures.fault
