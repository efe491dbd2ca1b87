use Rattle.std.proofs.Common.{◌≡◌, ◌≤◌, ◌∙◌, length, take, ap, sym, arith, rules}
use Rattle.bw_delta.specs.Slices.{list_of}
use Rattle.bw_chain.specs.Passing.Edited.{edited}
use Rattle.bw_chain.proofs.Passing.Inserts.{refill-front, grown-front}
use Rattle.bw_chain.proofs.Passing.Lists.{lists_go_on}
use Rattle.bw_chain.proofs.pass.lists.append_edited.Goals as goal

pub returns : goal.returns
unfolding list_of
returns g c even =
    let keys = c.args.keys.now.items in
    let values = c.args.values.now.items in
    let filled = c.as_mut_slice.ensures in
    let its = c.as_mut_slice-2.ensures in
    let written = c.write_edited-end in
    let end = written.result.0 in
    let rest = written.result.1 in
    let grown : length c.resize.new.self.items ≡ c.resize.new.self.len = ap length (sym filled.value) ∙ filled.len in
    let grown_its : length c.resize-2.new.self.items ≡ c.resize-2.new.self.len = ap length (sym its.value) ∙ its.len in
    let kept = written.ensures.as_many ∙ ap length filled.value in
    let kept_its : length written.new.values ≡ length c.resize-2.new.self.items =
    omega (arith, written.ensures.even, kept, grown, grown_its, c.in_ok-resize.ensures.len, c.in_ok-resize-2.ensures.len) in
    let inside : end ≤ c.resize.new.self.len = omega (arith, written.ensures.within, kept, grown) in
    let inside_its : end ≤ c.resize-2.new.self.len = omega (arith, inside, c.in_ok-resize.ensures.len, c.in_ok-resize-2.ensures.len) in
    let cut = c.truncate.ensures.items ∙ refill-front end c.resize.new.self.len c.resize.new.self.items written.new.keys kept grown inside in
    let cut_its = c.truncate-2.ensures.items ∙ refill-front end c.resize-2.new.self.len c.resize-2.new.self.items written.new.values kept_its grown_its inside_its in
    let own : length keys ≡ c.len-start.result = search rules in
    let room : c.len-start.result ≤ c.in-Some-checked_add.room = omega (arith, c.in-Some.ensures, c.in-Some-checked_add.ensures) in
    let start = ap (take c.len-start.result) (filled.value ∙ c.in_ok-resize.ensures.items) ∙ grown-front c.len-start.result c.in-Some-checked_add.room keys _ own room in
    let start_its = ap (take c.len-start.result) (its.value ∙ c.in_ok-resize-2.ensures.items) ∙ grown-front c.len-start.result c.in-Some-checked_add.room values _ (even ∙ own) room in
    rw (c.in_ok-extend_from_slice.ensures.items, c.in_ok-extend_from_slice-2.ensures.items, cut, cut_its)
    (lists_go_on keys values c.as_mut_slice.result.now c.as_mut_slice-2.result.now written.new.keys written.new.values rest.keys.now rest.values.now c.len-start.result end
    (edited c.args.edits.now (list_of c.args.entries)) start start_its written.ensures.even rest.even written.ensures.written)
