use Rattle.std.proofs.Common.{ap, arith}
use Rattle.bw_keys.specs.Ranges.{end_of}
use Rattle.bw_delta.specs.declared.fences.Fences.{Fences}
use Rattle.bw_delta.proofs.Stands.{range_not_empty}
use Rattle.bw_chain.proofs.pass.consolidation.consolidate.Goals as goal

pub new-requires : goal.new-requires
new-requires g c =
    omega (arith, range_not_empty c.args.chain.now c.requires.sound.built, ap (λ (f : Fences). end_of f.high) c.extent_of-low.ensures.fences)
