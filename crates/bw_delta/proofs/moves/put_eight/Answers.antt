use Rattle.std.proofs.Common.{◌≡◌, ◌≤◌, ◌+◌, ◌∙◌, length, arith}
use Rattle.bw_delta.proofs.Runs.{write_first, write_more, write_all}
use Rattle.bw_delta.proofs.moves.put_eight.Goals as goal

pub returns : goal.returns
returns g c =
    let xs = c.args.items.now in
    let es = c.args.eight in
    let place = c.args.place in
    let eight : length es ≡ 8 = omega arith in
    let inside : place + 8 ≤ length xs = omega arith in
    let one = write_first place xs es c.index-eight-0.result (omega arith) (omega arith) in
    let two = write_more place xs es 1 c.index-eight-1.result _ one (omega arith) (omega arith) in
    let three = write_more place xs es 2 c.index-eight-2.result _ two (omega arith) (omega arith) in
    let four = write_more place xs es 3 c.index-eight-3.result _ three (omega arith) (omega arith) in
    let five = write_more place xs es 4 c.index-eight-4.result _ four (omega arith) (omega arith) in
    let six = write_more place xs es 5 c.index-eight-5.result _ five (omega arith) (omega arith) in
    let seven = write_more place xs es 6 c.index-eight-6.result _ six (omega arith) (omega arith) in
    write_more place xs es 7 c.index-eight-7.result _ seven (omega arith) (omega arith) ∙ write_all place xs es 8 eight
