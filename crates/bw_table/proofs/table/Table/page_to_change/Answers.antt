use Rattle.std.proofs.Common.{rules, ◌≡◌, ℕ, Option, Some, None}
use Rattle.std.specs.Prelude.{IfSome}
use Rattle.bw_keys.specs.declared.page.Pid.{Pid}
use Rattle.bw_law.specs.Laws.{IsLeafOf}
use Rattle.bw_law.specs.Tables.{TableValue, slot_at}
use Rattle.bw_step.specs.declared.view.Stage.TheVariants.{Posted}
use Rattle.bw_table.specs.InPlaces.{IsPostedLeaf}
use Rattle.bw_table.proofs.table.Table.page_to_change.Goals as goal

-- the leaf that a walk finds is posted
walked : (table : TableValue) (key : ℕ) (found : Option Pid) → IfSome found (λ page. IsLeafOf table key page.0)
    → IfSome found (λ page. (slot_at table page.0).stage ≡ Posted) → IfSome found (λ page. IsPostedLeaf (slot_at table page.0) key)
walked table key None leaf posted = tt
walked table key (Some page) leaf posted = search rules

pub returns-then-key-self-clause-leaf : goal.returns-then-key-self-clause-leaf
returns-then-key-self-clause-leaf g c = walked c.args.self.now c.args.key _ c.page_by_walk.ensures.leaf c.page_by_walk.ensures.posted
