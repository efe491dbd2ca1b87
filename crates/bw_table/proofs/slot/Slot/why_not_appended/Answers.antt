use Rattle.std.proofs.Common.{sym, ◌∙◌}
use Rattle.bw_delta.specs.Slices.{list_of}
use Rattle.bw_table.proofs.Appends.{all_behind, not_behind, none_behind}
use Rattle.bw_table.proofs.slot.Slot.why_not_appended.Goals as goal

pub returns-in_default : goal.returns-in_default
returns-in_default g c =
    none_behind c.args.self.now (list_of c.args.pairs) c.requires.in_row c.requires.sound (sym c.in_default.is ∙ c.first.ensures)

pub returns-in-Some-next_at : goal.returns-in-Some-next_at
returns-in-Some-next_at g c =
    not_behind c.in-Some.first _ _ (list_of c.args.pairs) (sym c.in-Some.is ∙ c.first.ensures)
    (sym c.next_at.ensures ∙ c.in-Some-next_at.is)

pub returns-in-None : goal.returns-in-None
returns-in-None g c =
    all_behind c.args.self.now c.in-Some.first (list_of c.args.pairs) c.requires.in_row c.requires.sound c.requires.rise
    (sym c.in-Some.is ∙ c.first.ensures) (sym c.next_at.ensures ∙ c.in-None.is)
