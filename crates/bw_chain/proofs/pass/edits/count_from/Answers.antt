use Rattle.std.proofs.Common.{◌<◌, rules, sym, arith}
use Rattle.std.specs.Prelude.{nat_lt, nat_le}
use Rattle.std.proofs.lemmas.Bool.Decides.{nat_tests}
use Rattle.std.proofs.lemmas.List.Sorted.{IsPartitionPoint-from_clause}
use Rattle.bw_keys.specs.Ranges.{key_count, end_of}
use Rattle.bw_chain.proofs.Passing.Notes.{falls-IsPartitionedBy, falls-first, none-from}
use Rattle.bw_chain.proofs.Overlays.{below_falling}
use Rattle.bw_chain.proofs.Partitions.{filter_before, filter_after}
use Rattle.bw_chain.proofs.pass.edits.count_from.Goals as goal

pub returns-clause-before : goal.returns-clause-before
returns-clause-before g c =
    let bound = end_of c.args.fence in
    let parted = falls-IsPartitionedBy 0 key_count bound c.args.edits.now c.requires.falling in
    let point = IsPartitionPoint-from_clause (λ e. nat_le bound e.0) _ _ c.partition_point.ensures.partitioned parted (λ a r q k. search rules) in
    filter_before (λ e. nat_le bound e.0) (λ e. nat_lt e.0 bound) (λ e. grind (arith, nat_tests)) _ _ point

pub returns-clause-after : goal.returns-clause-after
returns-clause-after g c =
    let bound = end_of c.args.fence in
    let parted = falls-IsPartitionedBy 0 key_count bound c.args.edits.now c.requires.falling in
    let point = IsPartitionPoint-from_clause (λ e. nat_le bound e.0) _ _ c.partition_point.ensures.partitioned parted (λ a r q k. search rules) in
    filter_after (λ e. nat_le bound e.0) (λ e. nat_lt e.0 bound) (λ e. grind (arith, nat_tests)) _ _ point

pub returns-then-is_above-clause-before : goal.returns-then-is_above-clause-before
returns-then-is_above-clause-before g c =
    let bound = end_of c.args.fence in
    let less : c.in-Some.greatest.now.0 < bound = c.is_above.ensures.0 c.if-is_above.true in
    let upto = falls-first 0 key_count bound c.in-Some.greatest.now c.args.edits.now c.requires.falling (sym c.in-Some.ensures.value) less in
    none-from 0 bound bound c.args.edits.now (omega arith) upto

pub returns-then-is_above-clause-after : goal.returns-then-is_above-clause-after
returns-then-is_above-clause-after g c =
    let bound = end_of c.args.fence in
    let less : c.in-Some.greatest.now.0 < bound = c.is_above.ensures.0 c.if-is_above.true in
    let upto = falls-first 0 key_count bound c.in-Some.greatest.now c.args.edits.now c.requires.falling (sym c.in-Some.ensures.value) less in
    below_falling 0 bound bound c.args.edits.now (omega arith) upto
