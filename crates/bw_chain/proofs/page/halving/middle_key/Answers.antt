use Rattle.std.proofs.Common.{◌≡◌, ◌<◌, ◌/◌, length, ap, arith}
use Rattle.std.specs.Prelude.{Some}
use Rattle.bw_delta.specs.Slices.{list_of}
use Rattle.bw_chain.specs.Pages.Halves.{key_at}
use Rattle.bw_chain.proofs.KeysAt.{key_at-here}
use Rattle.bw_chain.proofs.page.halving.middle_key.Goals as goal

pub key-requires : goal.key-requires
key-requires g c =
    let long : c.len-middle.result ≡ length c.in-Pairs.pairs = rw (← c.base.view_is, c.in-Pairs.is) at c.len-middle.ensures in
    omega (arith, long, ap length c.as_slice.ensures)

pub returns-in-Pairs-clause-key : goal.returns-in-Pairs-clause-key
returns-in-Pairs-clause-key g c =
    let es = c.in-Pairs.pairs in
    let long : c.len-middle.result ≡ length es = rw (← c.base.view_is, c.in-Pairs.is) at c.len-middle.ensures in
    let inside : c.len-middle.result / 2 < length (list_of c.as_slice.result) = omega (arith, long, ap length c.as_slice.ensures) in
    let middle : key_at (c.len-middle.result / 2) es ≡ Some c.key.result = rw c.as_slice.ensures at (key_at-here (c.len-middle.result / 2) c.key.result (list_of c.as_slice.result) inside c.key.ensures) in
    rw (← c.base.view_is, c.in-Pairs.is, ← long) middle

pub key-requires-in-Routes : goal.key-requires-in-Routes
key-requires-in-Routes g c =
    let long : c.len-middle.result ≡ length c.in-Routes.routes = rw (← c.base.view_is, c.in-Routes.is) at c.len-middle.ensures in
    omega (arith, long, ap length c.as_slice-in-Routes.ensures)

pub returns-in-Routes-clause-key : goal.returns-in-Routes-clause-key
returns-in-Routes-clause-key g c =
    let es = c.in-Routes.routes in
    let long : c.len-middle.result ≡ length es = rw (← c.base.view_is, c.in-Routes.is) at c.len-middle.ensures in
    let inside : c.len-middle.result / 2 < length (list_of c.as_slice-in-Routes.result) = omega (arith, long, ap length c.as_slice-in-Routes.ensures) in
    let middle : key_at (c.len-middle.result / 2) es ≡ Some c.key-in-Routes.result = rw c.as_slice-in-Routes.ensures at (key_at-here (c.len-middle.result / 2) c.key-in-Routes.result (list_of c.as_slice-in-Routes.result) inside c.key-in-Routes.ensures) in
    rw (← c.base.view_is, c.in-Routes.is, ← long) middle
