use Rattle.std.proofs.Common.{sym, ◌∙◌}
use Rattle.bw_keys.specs.Ranges.{key_count}
use Rattle.bw_delta.specs.Slices.{list_of}
use Rattle.bw_chain.proofs.Passing.Around.{from-own, from-later, from-none}
use Rattle.bw_chain.proofs.pass.around.behind.Goals as goal

pub returns-then-first-key : goal.returns-then-first-key
returns-then-first-key g c =
    let first = c.requires.after ∙ sym c.split_at.ensures.back ∙ c.in-Some.ensures in
    sym (from-own 0 key_count c.args.key c.in-Some.first (list_of c.args.entries) (list_of c.in-Some.behind) c.requires.ascending first c.if-first-key.true)

pub returns-else-first-key : goal.returns-else-first-key
returns-else-first-key g c =
    let first = c.requires.after ∙ sym c.split_at.ensures.back ∙ c.in-Some.ensures in
    c.in-Some.ensures ∙ sym (from-later 0 key_count c.args.key c.in-Some.first (list_of c.args.entries) (list_of c.in-Some.behind) c.requires.ascending first c.if-first-key.false)

pub returns-in-None : goal.returns-in-None
returns-in-None g c =
    c.in-None.ensures ∙ sym (from-none c.args.key (list_of c.args.entries) (c.requires.after ∙ sym c.split_at.ensures.back ∙ c.in-None.ensures))
