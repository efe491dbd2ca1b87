use Rattle.std.proofs.Common.{◌-◌, ◌^◌, min, ◌∙◌, ap, sym}
use Rattle.bw_chain.proofs.Bridges.{own_pair_count, own_route_count}
use Rattle.bw_chain.proofs.pass.counting.count.Goals as goal

pub returns-then-is_leaf : goal.returns-then-is_leaf
returns-then-is_leaf g c = c.count_entries.ensures ∙ ap (λ n. min n (2 ^ 64 - 1)) (own_pair_count c.args.chain.now c.requires.sound (sym c.extent_of-is_leaf.ensures.kind ∙ c.if-is_leaf.true))

pub returns-else-is_leaf : goal.returns-else-is_leaf
returns-else-is_leaf g c = c.count_entries-else-is_leaf.ensures ∙ ap (λ n. min n (2 ^ 64 - 1)) (own_route_count c.args.chain.now c.requires.sound (sym c.extent_of-is_leaf.ensures.kind ∙ c.if-is_leaf.false))
