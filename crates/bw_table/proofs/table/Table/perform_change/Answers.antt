use Rattle.std.proofs.Common.{ap, sym, ◌∙◌}
use Rattle.bw_keys.specs.declared.page.Pid.{Pid}
use Rattle.bw_law.specs.Tables.{slot_at}
use Rattle.bw_table.proofs.Actions.{changed}
use Rattle.bw_table.proofs.table.Table.perform_change.Goals as goal

pub returns : goal.returns
returns g c =
    let page = c.in-Some.page in
    let key = c.args.key in
    let wished = c.args.wished in
    let new = c.change_at_rest.new.self in
    let it = rw c.page_to_change.ensures.unchanged at c.in-Some-change_at_rest.ensures in
    let told = c.performed.ensures in
    let answer = c.performed.result in
    record {
      done = record {
        finds = ((rw told.page it.leaf), told.key);
        takes = changed c.args.self.now new answer wished page key c.in-Some-change_at_rest.receipt told.page told.key told.receipt it.done;
        count = told.count ∙ ap (λ (p : Pid). (slot_at new p.0).count) (sym told.page);
        depth = told.depth ∙ ap (λ (p : Pid). (slot_at new p.0).depth) (sym told.page);
      };
      why = tt;
      unchanged = tt;
    }
