use Rattle.std.proofs.Common.{ap, subst, ◌∙◌}
use Rattle.std.specs.Iterator.Adapters.{copied_source}
use Rattle.std.specs.Slice.Iter.{iter_rest}
use Rattle.std.proofs.lemmas.Iterator.{YieldsList-from_slice}
use Rattle.std.proofs.lemmas.Iterator.Consumers.{YieldsList-from_copied}
use Rattle.bw_law.specs.Laws.{IsTheMap}
use Rattle.nifforan_balance.proofs.Filling.{fills_table, has_all_pairs, has_items}
use Rattle.nifforan_balance.proofs.balancing.table.Goals as goal

pub returns-in-Err-Put-clause-full : goal.returns-in-Err-Put-clause-full
returns-in-Err-Put-clause-full c is =
    fills_table _ _ c.copied.result c.args.pairs.now
    (λ s begins. YieldsList-from_copied (YieldsList-from_slice c.args.pairs.now
    (ap (λ t. iter_rest (copied_source t)) begins ∙ ap iter_rest c.copied.ensures.source ∙ c.iter.ensures.rest)))
    c.args.config c.in-Err-Put.fault (rw c.in-Err-Put.field-0-is at c.in-Err-Put.ensures.full)
    (cc (c.in-Err-Put.fault-is, is))

pub returns-clause-map : goal.returns-clause-map
returns-clause-map c =
    let all = has_items _ _ c.copied.result c.args.pairs.now
    (λ s begins. YieldsList-from_copied (YieldsList-from_slice c.args.pairs.now
    (ap (λ t. iter_rest (copied_source t)) begins ∙ ap iter_rest c.copied.ensures.source ∙ c.iter.ensures.rest)))
    c.in-Ok.map.pairs c.in-Ok.ensures.pairs in
    subst (IsTheMap c.add_pages.new.self) all
    (has_all_pairs c.in-Ok.map _ _ c.into_table-table.result c.add_pages.new.self c.into_table-table.ensures c.config.ensures.lawful
    c.in_ok-add_pages.ensures.kept)
