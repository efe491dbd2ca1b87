use Rattle.std.proofs.Common.{sym, subst}
use Rattle.std.specs.List.Sorted.{IsNonDecreasing}
use Rattle.std.proofs.lemmas.List.Sorted.{IsNonDecreasingBy-from_sort}
use Rattle.bw_forest.specs.Bounds.{AreAtQuantiles}
use Rattle.bw_forest.proofs.bounds.Bounds.of_sample.Goals as goal

pub quantiles-requires-clause-sorted : goal.quantiles-requires-clause-sorted
quantiles-requires-clause-sorted c =
    subst IsNonDecreasing (sym c.as_slice.ensures.value) (IsNonDecreasingBy-from_sort (λ x. x) _ c.sort_unstable.ensures.sorted)

pub returns-clause-quantiles : goal.returns-clause-quantiles
returns-clause-quantiles c = record {
  sorted = c.sort_unstable.new.self.items;
  are_sorted = IsNonDecreasingBy-from_sort (λ x. x) _ c.sort_unstable.ensures.sorted;
  same = c.sort_unstable.ensures.permutation;
  at_quantiles =
      subst (λ sorted. AreAtQuantiles sorted c.args.trees c.quantiles.result.items) c.as_slice.ensures.value c.quantiles.ensures.quantiles;
}
