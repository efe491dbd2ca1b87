use Rattle.std.proofs.Common.{rules, ◌+◌, ap, ◌∙◌}
use Rattle.std.proofs.lemmas.List.{length_push}
use Rattle.nifforan_balance.proofs.Dividing.{one_part_more}
use Rattle.nifforan_balance.proofs.balancing.tables.Goals as goal

pub loop-tree-preserved : goal.loop-tree-preserved
loop-tree-preserved c =
    let inv = c.loop-tree.invariant in
    let pairs = c.args.pairs.now in
    let table = c.in_ok-table.field-0 in
    record {
      number = rw c.push_reserved.ensures.items (length_push c.loop-tree.tables.items table ∙ ap (λ n. n + 1) inv.number);
      parts = one_part_more c.args.config pairs c.args.trees c.requires.some c.loop-tree.tables.items
          c.push_reserved.new.self.items table c.push_reserved.ensures.items inv.parts c.in_ok-table.ensures.config
          (rw inv.number (rw (← c.place-from.ensures.place, ← c.place.ensures.place) c.in_ok-table.ensures.map));
      room = search rules;
    }
