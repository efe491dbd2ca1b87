use Rattle.std.proofs.Common.{◌≡◌, subst, sym}
use Rattle.bw_delta.specs.Pages.{IsPage}
use Rattle.bw_delta.specs.Pairs.{routes_listed}
use Rattle.bw_delta.specs.Records.{bare}
use Rattle.bw_delta.specs.Slices.{list_of}
use Rattle.bw_chain.proofs.Ascending.{routes_ascend}
use Rattle.bw_chain.proofs.entries.value.PidEntryValue.entries_on.Goals as goal

pub returns-clause-ascending : goal.returns-clause-ascending
returns-clause-ascending g c =
    let page : IsPage c.args.base.now = subst IsPage c.base.view_is c.base.invariant in
    let same : routes_listed c.args.base.now.listed ≡ list_of c.as_slice.result = rw (← c.base.view_is, c.in-Routes.is) (sym c.as_slice.ensures) in
    rw same at (routes_ascend (bare c.args.base.now) page)
