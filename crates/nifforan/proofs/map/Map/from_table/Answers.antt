use Rattle.std.proofs.Common.{ap, arith}
use Rattle.bw_keys.specs.declared.config.Config.{Config}
use Rattle.bw_law.specs.Tables.{TableValue}
use Rattle.nifforan.proofs.map.Map.from_table.Goals as goal

pub invariant_of-result : goal.invariant_of-result
invariant_of-result g c =
    let ready = c.new.ensures.ready in
    let own = c.before.config-most.ensures in
    let most = ap (λ (f : Config). f.pages) own.config in
    let same = ap (λ (t : TableValue). t.config.pages) c.new.ensures.table in
    record {
      lawful = ready.lawful;
      booked = ready.booked;
      no_receipts = ready.no_receipts;
      pages = omega (arith, most, same);
      few = omega (arith, most, own.lawful.bounds.config.few);
    }
