-- What contracts see of a tree of a closed forest.
use Rattle.std.specs.Prelude.{refl}
use Rattle.std.specs.Coded.{Coded, code_by, coded×}
use Rattle.bw_keys.specs.declared.range.Range.{Range}
use Rattle.bw_keys.specs.contracts.range.Range as range_row
use Rattle.bw_law.specs.Tables.{TableValue}
use Rattle.bw_table.specs.Codes.{table_code}

-- a table, and the range of its keys
pub record PlotValue : Type 0 where
  pub table : TableValue
  pub range : Range

-- how the logic distinguishes them
abbrev pub plot_code : Coded PlotValue
plot_code =
    code_by (TableValue × Range) (coded× table_code range_row.the_row.coded)
    (λ p. (p.table, p.range)) (λ p. record { table = p.0; range = p.1 }) (λ _. refl)
