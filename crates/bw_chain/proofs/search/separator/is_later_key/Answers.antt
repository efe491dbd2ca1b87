use Rattle.std.proofs.Common.{◌&&◌, not, is_some, ap, ◌∙◌, sym}
use Rattle.bw_delta.specs.Entries.{at, starts_at}
use Rattle.bw_chain.specs.Kinds.{pairs_are, routes_are}
use Rattle.bw_chain.proofs.Bridges.{later_pair, later_route}
use Rattle.bw_chain.proofs.search.separator.is_later_key.Goals as goal

pub returns-then-is_leaf : goal.returns-then-is_leaf
returns-then-is_leaf g c =
    c.is_later_entry.ensures ∙ ap (λ es. is_some (at c.args.key es) && not (starts_at c.args.key es)) (pairs_are c.args.chain.now)
    ∙ later_pair c.args.key c.args.chain.now c.requires.sound (sym c.if-is_leaf.ensures)

pub returns-else-is_leaf : goal.returns-else-is_leaf
returns-else-is_leaf g c =
    c.is_later_entry-else-is_leaf.ensures ∙ ap (λ es. is_some (at c.args.key es) && not (starts_at c.args.key es)) (routes_are c.args.chain.now)
    ∙ later_route c.args.key c.args.chain.now c.requires.sound (sym c.if-is_leaf.ensures)
