use Rattle.std.proofs.Common.{rules, ◌≡◌, ◌<◌, ◌≤◌, ◌-◌, ℕ, min, leb, arith}
use Rattle.std.proofs.lemmas.Bool.Decides.{nat_tests}
use mir.Val.{bool_byte}
use Rattle.bw_forest.proofs.Bounding.{begun_below, begun_upto}
use Rattle.bw_forest.proofs.bounds.one_if_begun.Goals as goal

counts : (low key one place count : ℕ) → one ≡ bool_byte (leb low key) → (low ≤ key → place < count) → (key < low → count ≤ place)
    → one ≡ min (count - place) 1
counts low key one place count is upto below = grind (arith, nat_tests)

pub returns : goal.returns
returns c = counts _ c.args.key _ _ _ c.from.ensures
    (begun_upto c.args.key c.args.place _ c.args.lows.now c.requires.rise c.requires.inside (search rules))
    (begun_below c.args.key c.args.place _ c.args.lows.now c.requires.rise c.requires.inside (search rules))
