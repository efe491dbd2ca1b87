-- The codes of slots and of tables, no two of which have the same one.
use Rattle.std.specs.Prelude.{ℕ, List, Option, refl}
use Rattle.std.specs.Coded.{Coded, code_by, coded×, coded_ℕ, coded_list, coded_option}
use Rattle.bw_keys.specs.declared.range.Fence.{Fence}
use Rattle.bw_keys.specs.declared.page.Pid.{Pid}
use Rattle.bw_keys.specs.declared.config.Config.{Config}
use Rattle.bw_keys.specs.contracts.range.Fence as fence
use Rattle.bw_keys.specs.contracts.page.Pid as pid
use Rattle.bw_keys.specs.contracts.config.Config as config
use Rattle.bw_delta.specs.Records.{Records}
use Rattle.bw_delta.specs.Codes.{records_code}
use Rattle.bw_step.specs.declared.view.Stage.{Stage}
use Rattle.bw_step.specs.declared.survey.Book.{Book}
use Rattle.bw_step.specs.contracts.view.Stage as stage
use Rattle.bw_step.specs.contracts.survey.Book as book
use Rattle.bw_law.specs.Slots.{SlotValue}
use Rattle.bw_law.specs.Tables.{TableValue}

abbrev SlotParts : Type 0
SlotParts = ℕ × (Stage × (ℕ × (Fence × (Option Pid × (ℕ × (ℕ × (ℕ × Option Records)))))))

abbrev pub slot_code : Coded SlotValue
slot_code =
    code_by SlotParts
    (coded× coded_ℕ (coded× stage.the_row.coded (coded× coded_ℕ (coded× fence.the_row.coded
    (coded× (coded_option pid.the_row.coded)
    (coded× coded_ℕ (coded× coded_ℕ (coded× coded_ℕ (coded_option records_code)))))))))
    (λ s.
    (s.version, (s.stage, (s.low, (s.high, (s.right, (s.level, (s.count, (s.depth, s.chain)))))))))
    (λ p. record {
      version = p.0;
      stage = p.1.0;
      low = p.1.1.0;
      high = p.1.1.1.0;
      right = p.1.1.1.1.0;
      level = p.1.1.1.1.1.0;
      count = p.1.1.1.1.1.1.0;
      depth = p.1.1.1.1.1.1.1.0;
      chain = p.1.1.1.1.1.1.1.1;
    })
    (λ _. refl)

abbrev pub table_code : Coded TableValue
table_code =
    code_by (List SlotValue × (List ℕ × (ℕ × (Book × Config))))
    (coded× (coded_list slot_code)
    (coded× (coded_list coded_ℕ) (coded× coded_ℕ (coded× book.the_row.coded config.the_row.coded))))
    (λ t. (t.slots, (t.free, (t.root, (t.book, t.config)))))
    (λ p. record {
      slots = p.0;
      free = p.1.0;
      root = p.1.1.0;
      book = p.1.1.1.0;
      config = p.1.1.1.1;
    })
    (λ _. refl)
