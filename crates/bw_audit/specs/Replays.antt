-- Interleavings: what events do to a table and to the trails of its workers, one after the other.
use Rattle.std.specs.Prelude.{◌≡◌, ℕ, zero, suc, ◌<◌, ◌^◌, List, [], ◌∷◌, ◌++◌, Option, None, is_none, if◌then◌else◌, replicate}
use Rattle.std.specs.List.{AllByRecursion}
use Rattle.bw_keys.specs.declared.config.Config.{Config}
use Rattle.bw_keys.specs.Limits.{first_bad_field}
use Rattle.bw_step.specs.declared.receipt.Receipt.{Receipt}
use Rattle.bw_step.specs.declared.receipt.Receipt.TheVariants.{Looked}
use Rattle.bw_step.specs.Proposals.{Proposal}
use Rattle.bw_law.specs.Tables.{TableValue, number_of, IsValueAt, new_table}
use Rattle.bw_law.specs.Refusals.{refusal}
use Rattle.bw_law.specs.Effects.{receipt_of}
use Rattle.bw_law.specs.Runs.{next_table}
use Rattle.bw_law.specs.Laws.{IsTheMap}
use Rattle.bw_audit.specs.Legal.{IsLegal}

-- a table, and the receipts that each worker has got so far
pub record World : Type 0 where
  pub table : TableValue
  pub trails : List (List Receipt)

-- what a worker does: it proposes a step, or looks at a key
pub data DeedValue : Type 0 where
  proposes : Proposal → DeedValue
  looks : ℕ → DeedValue

pub record Turn : Type 0 where
  pub worker : ℕ
  pub deed : DeedValue

-- the look's receipt: the book's number, and what the map has
pub record IsLookAt (table : TableValue) (key : ℕ) (receipt : Receipt) : Type 0 where
  pub found : Option ℕ
  pub reported : receipt ≡ Looked (number_of table.book) key found
  pub is_there : IsValueAt table.slots key found

-- an accepted step has a receipt, and a refused one has none
abbrev pub step_receipts : TableValue → Proposal → List Receipt
step_receipts table step = if is_none (refusal table step) then receipt_of table step ∷ [] else []

-- what a deed makes of the table, and the receipts that it adds
abbrev pub Does : TableValue → DeedValue → TableValue → List Receipt → Type 0
Does table (proposes step) next receipts = (next ≡ next_table table step) × (receipts ≡ step_receipts table step)
Does table (looks key) next receipts = (next ≡ table) × ((receipt : Receipt) × (receipts ≡ receipt ∷ []) × IsLookAt table key receipt)

-- the trails, with these receipts at the end of the worker's
abbrev pub add_receipts : List (List Receipt) → ℕ → List Receipt → List (List Receipt)
add_receipts [] worker receipts = []
add_receipts (t ∷ ts) zero receipts = (t ++ receipts) ∷ ts
add_receipts (t ∷ ts) (suc worker) receipts = t ∷ add_receipts ts worker receipts

-- one turn leads from a world to the next
pub record LeadsTo (world : World) (turn : Turn) (next : World) : Type 0 where
  pub receipts : List Receipt
  pub does : Does world.table turn.deed next.table receipts
  pub trails : next.trails ≡ add_receipts world.trails turn.worker receipts

-- the turns lead from a world to the last, one after the other
abbrev pub IsInterleaving : World → List Turn → World → Type 0
IsInterleaving world [] last = last ≡ world
IsInterleaving world (turn ∷ turns) last = (next : World) × LeadsTo world turn next × IsInterleaving next turns last

-- a table, and an empty trail for each worker
abbrev pub world_on : TableValue → ℕ → World
world_on table workers = record { table = table; trails = replicate workers [] }

abbrev pub first_world : Config → ℕ → World
first_world config workers = world_on (new_table config) workers

abbrev pub IsTurnOf : ℕ → Turn → Type 0
IsTurnOf workers turn = turn.worker < workers

-- the trails and the pairs of the map are a legal history
abbrev pub HasLegalHistory : World → Type 0
HasLegalHistory world = (pairs : List (ℕ × ℕ)) → IsTheMap world.table pairs → IsLegal world.trails pairs

-- whatever the workers propose, and in whatever order, their history is legal
abbrev pub InterleavingLaw : Type 0
InterleavingLaw =
    (config : Config) (workers : ℕ) (turns : List Turn) (last : World) → first_bad_field config ≡ None
    → config.first_version < 2 ^ 64 → AllByRecursion (IsTurnOf workers) turns
    → IsInterleaving (first_world config workers) turns last → HasLegalHistory last
