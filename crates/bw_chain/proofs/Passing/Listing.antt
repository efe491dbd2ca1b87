-- All of a page's entries are there from 0 on.
use Rattle.std.proofs.Common.{◌≡◌, ap}
use Rattle.bw_delta.specs.Pages.{Listed, pairs_of, routes_of, listed_from}
use Rattle.bw_chain.proofs.Firsts.{from_zero}

pub listed_from_zero : (listed : Listed) → listed_from 0 listed ≡ listed
listed_from_zero (pairs_of es) = ap pairs_of (from_zero es)
listed_from_zero (routes_of es) = ap routes_of (from_zero es)
