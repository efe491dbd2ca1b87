use Rattle.std.proofs.Common.{◌≡◌, subst, sym}
use Rattle.bw_delta.specs.Pages.{IsPage}
use Rattle.bw_delta.specs.Pairs.{pairs_listed}
use Rattle.bw_delta.specs.Records.{bare}
use Rattle.bw_delta.specs.Slices.{list_of}
use Rattle.bw_chain.proofs.Ascending.{pairs_ascend}
use Rattle.bw_chain.proofs.entries.value.U64EntryValue.entries_on.Goals as goal

pub returns-clause-ascending : goal.returns-clause-ascending
returns-clause-ascending g c =
    let page : IsPage c.args.base.now = subst IsPage c.base.view_is c.base.invariant in
    let same : pairs_listed c.args.base.now.listed ≡ list_of c.as_slice.result = rw (← c.base.view_is, c.in-Pairs.is) (sym c.as_slice.ensures) in
    rw same at (pairs_ascend (bare c.args.base.now) page)
