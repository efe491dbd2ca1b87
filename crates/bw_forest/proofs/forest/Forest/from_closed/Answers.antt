use Rattle.std.proofs.Common.{◌≡◌, ◌∷◌, ◌++◌, [], All, length, sym, ap, subst, subst₂, ◌∙◌}
use Rattle.std.proofs.lemmas.List.Elements.{All-take}
use Rattle.bw_tree.specs.Shares.{no_changes}
use Rattle.bw_tree.specs.Trees.{MayBeMade}
use Rattle.bw_forest.specs.Forests.{books_of}
use Rattle.bw_forest.proofs.Closing.{sum_pairs}
use Rattle.bw_forest.proofs.Opening.{last_too}
use Rattle.bw_forest.proofs.forest.Forest.from_closed.Goals as goal

pub returns-clause-fine : goal.returns-clause-fine
returns-clause-fine g c = λ _. subst₂ MayBeMade c.config-config.ensures.first c.saturating_sub.ensures c.in_default.ensures.fine

pub replant-trees-requires-clause-alike : goal.replant-trees-requires-clause-alike
replant-trees-requires-clause-alike g c =
    rw (c.into_parts-bounds.ensures.tables, c.requires.ledgers.made) c.config-config.ensures.all

pub replant-trees-requires-clause-shares : goal.replant-trees-requires-clause-shares
replant-trees-requires-clause-shares g c =
    let shares = c.in-Ok.shares.items in
    let split = rw c.in-Some.is at c.pop.ensures.items in
    let each = c.in-Ok.ensures.each in
    last_too (λ its. length its.items ≡ c.args.blanks.trees) shares c.pop.new.self.items c.in-Some.opening split each
    ∙ (c.requires.trees ∙ sym c.into_parts-bounds.ensures.count)

pub replant-trees-requires-clause-none_changed : goal.replant-trees-requires-clause-none_changed
replant-trees-requires-clause-none_changed g c =
    let shares = c.in-Ok.shares.items in
    let split = rw c.in-Some.is at c.pop.ensures.items in
    let none = c.in-Ok.ensures.none_changed in
    last_too (λ its. All (λ share. share ≡ no_changes) its.items) shares c.pop.new.self.items c.in-Some.opening split none

pub returns-clause-each : goal.returns-clause-each
returns-clause-each g c =
    let shares = c.in-Ok.shares.items in
    let each = subst (λ trees. All (λ its. length its.items ≡ trees) shares) c.requires.trees c.in-Ok.ensures.each in
    rw c.pop.ensures.rest (All-take (λ its. length its.items ≡ length c.args.forest.bounds) _ shares each)

pub returns-clause-shares : goal.returns-clause-shares
returns-clause-shares g c =
    let shares = c.in-Ok.shares.items in
    rw c.pop.ensures.rest
    (All-take (λ its. All (λ share. share ≡ no_changes) its.items) _ shares c.in-Ok.ensures.none_changed)

pub returns-clause-there : goal.returns-clause-there
returns-clause-there g c =
    let books = c.replant-trees.ensures.opening ∙ ap books_of c.into_parts-bounds.ensures.tables in
    rw books (sum_pairs c.args.forest.tables c.into_parts-bounds.ensures.trees)
