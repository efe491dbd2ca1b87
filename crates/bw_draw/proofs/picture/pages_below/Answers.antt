use Rattle.std.proofs.Common.{◌++◌, ap, sym, ◌∙◌}
use Rattle.std.specs.Prelude.{option_to_list}
use Rattle.bw_draw.specs.Pictures.{page_at}
use Rattle.bw_draw.proofs.Ids.{found_more}
use Rattle.bw_draw.proofs.picture.pages_below.Goals as goal

pub loop-id-preserved : goal.loop-id-preserved
loop-id-preserved c =
    c.in_ok-add.ensures
    ∙ ap (λ found. c.loop-id.pages.items ++ option_to_list found) (c.in_ok-of.ensures)
    ∙ ap (λ items. items ++ option_to_list (page_at c.args.table.now c.loop-id.id)) c.loop-id.invariant
    ∙ sym (found_more (page_at c.args.table.now) c.loop-id.id)
