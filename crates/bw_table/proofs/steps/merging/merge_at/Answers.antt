use Rattle.std.proofs.Common.{◌∙◌}
use Rattle.bw_table.proofs.Mergings.{put_back}
use Rattle.bw_table.proofs.steps.merging.merge_at.Goals as goal

pub returns-then-not-join-clause-unchanged : goal.returns-then-not-join-clause-unchanged
returns-then-not-join-clause-unchanged g c =
    let takes = c.requires.takes in
    put_back c.args.slots.now.items c.args.left.0 c.args.page.0 c.replace-taken.new.dest c.replace-taken.result c.join.new.self _ _ takes.exists takes.left_exists
    (c.replace-taken.ensures.value ∙ c.index_mut.ensures.value) (c.join.ensures.unchanged c.if-not-join.true ∙ c.index_mut-2.ensures.value)
