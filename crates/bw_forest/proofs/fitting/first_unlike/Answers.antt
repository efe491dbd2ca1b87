use Rattle.std.proofs.Common.{rules, ◌≡◌, ◌<◌, ◌≤◌, Some, false, length, slice_get, refl, sym, ◌∙◌}
use Rattle.std.proofs.lemmas.Option.{slice_get_read}
use Rattle.bw_forest.specs.Fitting.{IsAlike}
use Rattle.bw_forest.specs.Forests.{config_of}
use Rattle.bw_forest.proofs.Fits.{all_alike, config_at_first, is_alike, one_more}
use Rattle.bw_forest.proofs.fitting.first_unlike.Goals as goal

pub loop-i-preserved : goal.loop-i-preserved
loop-i-preserved g c =
    let tables = c.args.tables.now in
    let first = c.in-Some.first.now in
    let at : Some first ≡ slice_get tables 0 = search rules in
    let made = c.config-made.ensures.config ∙ sym (config_at_first tables first at) in
    let table = c.index-tables-i.result in
    let less : c.loop-i.i < length tables = search rules in
    let same : c.config.result ≡ c.config-made.result = search rules in
    one_more (IsAlike tables) c.loop-i.i c.loop-i.invariant
    (is_alike tables c.loop-i.i table less c.index-tables-i.is (sym c.config.ensures.config ∙ (same ∙ made)))

pub returns-then-not-is_same-clause-first : goal.returns-then-not-is_same-clause-first
returns-then-not-is_same-clause-first g c =
    let tables = c.args.tables.now in
    let first = c.in-Some.first.now in
    let at : Some first ≡ slice_get tables 0 = search rules in
    let made = c.config-made.ensures.config ∙ sym (config_at_first tables first at) in
    let table = c.index-tables-i.result in
    let less : c.loop-i.i < length tables = search rules in
    let other : c.is_same.result ≡ false = search rules in
    let there = slice_get_read tables (length tables) c.loop-i.i table refl less c.index-tables-i.is in (
      λ alike. let same = c.is_same.ensures.1 (c.config.ensures.config ∙ (alike table there ∙ sym made)) in absurd (cc (same, other)),
      c.loop-i.invariant,
    )

pub returns-clause-none : goal.returns-clause-none
returns-clause-none g c =
    let past : length c.args.tables.now ≤ c.loop-i.i = search rules in
    all_alike c.args.tables.now c.loop-i.i past c.loop-i.invariant
