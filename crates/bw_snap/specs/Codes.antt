-- How the logic distinguishes what the lock keeps.
use Rattle.std.specs.Prelude.{List, refl}
use Rattle.std.specs.Coded.{Coded, code_by, coded×, coded_list}
use Rattle.bw_step.specs.Proposals.{Proposal}
use Rattle.bw_law.specs.Tables.{TableValue}
use Rattle.bw_table.specs.Codes.{table_code}
use Rattle.bw_snap.specs.Proposals.{proposal_code}
use Rattle.bw_snap.specs.Trees.{PublishedValue}

abbrev pub steps_code : Coded (List Proposal)
steps_code = coded_list proposal_code

abbrev pub published_code : Coded PublishedValue
published_code =
    code_by (TableValue × (TableValue × (List Proposal × List Proposal)))
    (coded× table_code (coded× table_code (coded× steps_code steps_code)))
    (λ p. (p.table, (p.published, (p.pending, p.list))))
    (λ p. record { table = p.0; published = p.1.0; pending = p.1.1.0; list = p.1.1.1 })
    (λ _. refl)
