use Rattle.std.proofs.Common.{◌≡◌, ◌≤◌, ◌+◌, ◌++◌, ◌∙◌, length, length-append, length-take-le, take, ap, sym, arith, rules}
use Rattle.bw_delta.specs.Slices.{list_of}
use Rattle.bw_chain.proofs.Passing.Inserts.{refill-whole, grown-front}
use Rattle.bw_chain.proofs.pass.runs.append_run.Goals as goal

pub returns-clause-items : goal.returns-clause-items
returns-clause-items g c =
    let run = list_of c.args.run in
    let items = c.args.list.now.items in
    let filled = c.as_mut_slice.ensures in
    let slice = c.as_mut_slice.result.now in
    let start = c.len-start.result in
    let grown : length c.resize.new.self.items ≡ c.resize.new.self.len = ap length (sym filled.value) ∙ filled.len in
    let own : length c.reserve.new.self.items ≡ start = search rules in
    let upto : start ≤ length slice = omega (arith, filled.len, c.in_ok-resize.ensures.len) in
    let kept : length c.write_run.new.list ≡ length c.resize.new.self.items =
    omega (arith, grown, filled.len, c.in_ok-resize.ensures.len, ap length c.write_run.ensures, length-append (take start slice) run, length-take-le start slice upto) in
    let front = ap (take start) (filled.value ∙ c.in_ok-resize.ensures.items) ∙ grown-front start (start + c.len-count.result) c.reserve.new.self.items _ own (omega arith) ∙ c.in_ok-reserve.ensures.items in
    refill-whole c.resize.new.self.len c.resize.new.self.items c.write_run.new.list kept grown
    ∙ c.write_run.ensures
    ∙ ap (λ l. l ++ run) front
