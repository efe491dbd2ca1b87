use Rattle.std.proofs.Common.{◌≡◌, ap, sym, ◌∙◌}
use Rattle.std.proofs.lemmas.List.Elements.{All-take}
use Rattle.bw_tree.specs.Shares.{no_changes, shared_in}
use Rattle.bw_tree.proofs.booked.Booked+A+I+D.from_table.Goals as goal

pub over-requires-clause-stock : goal.over-requires-clause-stock
over-requires-clause-stock g c = c.begin.ensures.stock ∙ ap shared_in c.book.ensures.book

pub returns-clause-shares : goal.returns-clause-shares
returns-clause-shares g c = rw c.pop.ensures.rest (All-take (λ share. share ≡ no_changes) _ _ c.in-Ok.ensures.shares)
