use Rattle.std.proofs.Common.{ap, sym, ◌∙◌}
use Rattle.bw_delta.specs.Entries.{rises}
use Rattle.bw_keys.specs.Ranges.{key_count}
use Rattle.nifforan.proofs.Pops.{on_ok}
use Rattle.nifforan_handle.specs.Reading.{are_pairs}
use Rattle.nifforan_handle.proofs.Bulk.{has_array, why_no_map}
use Rattle.nifforan_handle.proofs.fill.sorted.Goals as goal

pub returns-clause-pairs : goal.returns-clause-pairs
returns-clause-pairs c =
    on_ok _ _ c.from_sorted.result
    (λ map has. has_array _ (λ left. are_pairs left.0.now) _ _ _ (λ s begins. ap (λ left. are_pairs left.0.now) begins) has)
    c.from_sorted.ensures.pairs

pub returns-clause-rise : goal.returns-clause-rise
returns-clause-rise c =
    on_ok _ _ c.from_sorted.result
    (λ map has.
    ap (rises 0 key_count)
    (sym (has_array _ (λ left. are_pairs left.0.now) _ _ _ (λ s begins. ap (λ left. are_pairs left.0.now) begins) has))
    ∙ has.rise)
    c.from_sorted.ensures.pairs

pub returns-clause-fault : goal.returns-clause-fault
returns-clause-fault c =
    why_no_map _ (λ left. are_pairs left.0.now) c.args.config _ (are_pairs c.args.pairs.now)
    (λ s begins. ap (λ left. are_pairs left.0.now) begins) c.from_sorted.result c.from_sorted.ensures.fault
