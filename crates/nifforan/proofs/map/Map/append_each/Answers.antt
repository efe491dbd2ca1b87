use Rattle.std.proofs.Common.{◌≡◌, ◌++◌, ◌∷◌, ap, sym, subst, ◌∙◌}
use Rattle.bw_delta.specs.Entries.{put}
use Rattle.bw_delta.specs.Slices.{list_of}
use Rattle.bw_chain.specs.Ascends.{IsAscending}
use Rattle.nifforan.specs.Maps.{PairList}
use Rattle.nifforan.proofs.Appending.{put_moves}
use Rattle.nifforan.specs.Rising.{IsCutShort}
use Rattle.nifforan.proofs.Filled.{cut_short, passed_on}
use Rattle.nifforan.proofs.map.Map.append_each.Goals as goal

pub returns-in_err-append_behind-in-None-clause-cut : goal.returns-in_err-append_behind-in-None-clause-cut
returns-in_err-append_behind-in-None-clause-cut g c =
    let failed = c.in_err-append_behind-in-None in
    let all = c.args.self.now.pairs ++ list_of c.args.run in
    let left = list_of c.pairs.left in
    let is : c.append_behind.new.self.pairs ++ left ≡ all =
    ap (λ (l : PairList). l ++ left) (failed.ensures.unchanged ∙ c.in-None.ensures.unchanged) ∙ c.pairs.invariant.0 in
    passed_on c.from_residual.result failed.field-0.0 (IsCutShort all c.append_behind.new.self) c.from_residual.ensures.1
    (cut_short c.append_behind.new.self left all failed.field-0.0 is failed.ensures.full)

pub pairs-preserved : goal.pairs-preserved
pairs-preserved g c =
    let old = c.pairs.self.pairs in
    let pair = c.in-Some.pair in
    let rest = list_of c.in-Some.rest in
    let done = c.in_ok-append_behind-in-None.ensures in
    let there : old ++ pair ∷ rest ≡ c.args.self.now.pairs ++ list_of c.args.run = ap (λ (l : PairList). old ++ l) (sym c.in-Some.ensures)
    ∙ c.pairs.invariant.0 in
    let rise : IsAscending (old ++ pair ∷ rest) = subst IsAscending (sym there) c.requires in (
      put_moves pair old rest c.append_behind.new.self.pairs rise (done.sets ∙ ap (put pair.0 pair.1) c.in-None.ensures.unchanged) ∙ there,
      done.config ∙ (c.in-None.ensures.config ∙ c.pairs.invariant.1),
    )
