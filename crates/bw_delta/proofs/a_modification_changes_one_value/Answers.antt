use Rattle.std.proofs.Common.{refl, arith}
use Rattle.bw_keys.specs.Ranges.{end_of}
use Rattle.bw_delta.specs.Fence.{fences}
use Rattle.bw_delta.specs.Pairs.{pairs}
use Rattle.bw_delta.proofs.At.{at-put_same, at-put_other}
use Rattle.bw_delta.proofs.Rises.{length-put_there}
use Rattle.bw_delta.proofs.Stands.{pairs_rise}
use Rattle.bw_delta.proofs.a_modification_changes_one_value.Goals as goal

pub returns : goal.returns
returns c = λ key value chain sound. record {
  at_key = at-put_same key key value (pairs chain) refl;
  elsewhere = λ other away. at-put_other key other value (pairs chain) away;
  as_many = omega (arith, length-put_there (end_of (fences chain).high) (fences chain).low key value (pairs chain) sound.built.1.1 (pairs_rise chain sound.built.0));
  same_routes = refl;
  same_fence = refl;
}
