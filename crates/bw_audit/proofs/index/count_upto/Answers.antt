use Rattle.std.proofs.Common.{◌≡◌, ◌∙◌, rules, sym, true}
use Rattle.std.proofs.lemmas.List.Sorted.{IsPartitionPoint-from_clause}
use Rattle.bw_audit.specs.Indexed.{is_upto, is_within}
use Rattle.bw_audit.proofs.Indexing.{rows_part, part_of_range, count_of_range}
use Rattle.bw_audit.proofs.index.count_upto.Goals as goal

pub returns-then-not-is_within : goal.returns-then-not-is_within
returns-then-not-is_within c =
    record {
      bound = c.partition_point.ensures.bound;
      point = IsPartitionPoint-from_clause (is_upto c.args.key c.args.number) _ _ c.partition_point.ensures.partitioned (rows_part c.args.rows.now c.args.key c.args.number c.requires) (λ a r q k. search rules);
    }

pub returns : goal.returns
returns c =
    let within : is_within c.args.key c.args.number c.args.guess.0 c.args.guess.1 c.args.rows.now ≡ true = sym c.is_within.ensures ∙ c.if-not-is_within.false in
    let parted = part_of_range c.args.rows.now c.args.key c.args.number c.args.guess.0 c.args.guess.1 c.requires within in
    let point = IsPartitionPoint-from_clause (is_upto c.args.key c.args.number) _ _ c.partition_point-2.ensures.partitioned parted (λ a r q k. search rules) in
    count_of_range c.args.rows.now c.args.key c.args.number c.args.guess.0 c.args.guess.1 c.requires within _ c.partition_point-2.ensures.bound point
