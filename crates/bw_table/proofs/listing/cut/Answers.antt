use Rattle.std.proofs.Common.{◌≡◌, ℕ, true, List, take, rules, arith, sym, ◌∙◌, subst}
use Rattle.std.specs.Prelude.{nat_lt, nat_le, filter}
use Rattle.std.proofs.lemmas.Bool.Decides.{nat_tests}
use Rattle.std.proofs.lemmas.List.Sorted.{IsPartitionPoint-from_clause}
use Rattle.bw_keys.specs.Ranges.{key_count}
use Rattle.bw_delta.specs.Entries.{rises}
use Rattle.bw_delta.proofs.Rises.{below_all}
use Rattle.bw_chain.proofs.Partitions.{rises-IsPartitionedBy, filter_before}
use Rattle.bw_table.proofs.listing.cut.Goals as goal

pub returns-in-Key : goal.returns-in-Key
returns-in-Key c =
    let key = c.in-Key.high in
    let rise = subst (λ (l : List (ℕ × ℕ)). rises 0 key_count l ≡ true) (sym c.deref.ensures.value) c.requires in
    let parted = rises-IsPartitionedBy 0 key_count key c.deref.result.now rise in
    let point = IsPartitionPoint-from_clause (λ e. nat_lt e.0 key) _ _ c.partition_point-end.ensures.partitioned parted (λ a r q k. search rules) in
    let front = filter_before (λ e. nat_lt e.0 key) (λ e. nat_le key e.0) (λ e. grind (arith, nat_tests)) _ _ point in
    rw c.in-Key.is (c.truncate.ensures.items ∙ sym (subst (λ (l : List (ℕ × ℕ)). filter (λ e. nat_lt e.0 key) l ≡ take c.partition_point-end.result l) c.deref.ensures.value front))

pub returns-in_default : goal.returns-in_default
returns-in_default c = rw c.in_default.is (sym (below_all 0 key_count c.args.list.items c.requires))
