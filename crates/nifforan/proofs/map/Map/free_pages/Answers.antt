use Rattle.std.proofs.Common.{arith}
use Rattle.bw_law.proofs.Facts.{fit_law}
use Rattle.nifforan.proofs.map.Map.free_pages.Goals as goal

pub overflow_add-result : goal.overflow_add-result
overflow_add-result g c =
    let fit = fit_law c.self.inside.worker.owner.table.value c.self.invariant.lawful c.self.invariant.booked in
    omega (arith, c.self.invariant.few, c.free_pages.ensures, fit.free, fit.slots)
