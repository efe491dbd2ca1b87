-- The sum of the workers' shares is that of their trails.
use Rattle.std.proofs.Common.{◌≡◌, ◌+◌, List, map, ap, subst, ◌∙◌, arith}
use Rattle.bw_keys.specs.declared.config.Config.{Config}
use Rattle.bw_law.specs.Tables.{TableValue, new_table}
use Rattle.bw_step.specs.declared.receipt.Receipt.{Receipt}
use Rattle.bw_tree.specs.Shares.{ShareValue, no_changes, share_of, shared_in, sum_of, together}
use Rattle.bw_tree.specs.Trees.{IsTree, CountsPairs}
use Rattle.bw_crew.specs.Workers.{changes_in, share_by}
use Rattle.bw_crew.proofs.Workers.{each_share}

pub counts_trails : {L : Type 0} → (added : L → List Receipt) (table : TableValue) (shares : List ShareValue) (trails : List L) → shares ≡ map (λ trail. share_by (added trail)) trails → CountsPairs table (sum_of shares)
    → CountsPairs table (changes_in (map added trails))
counts_trails added table shares trails same counts = subst (λ (all : List ShareValue). CountsPairs table (sum_of all)) (same ∙ each_share added trails) counts

-- what began with nothing has what the trails tell alone
pub counts_from_nothing : (table given : TableValue) (config : Config) (changes : ShareValue) → IsTree table → given ≡ new_table config
    → shared_in table.book ≡ together (shared_in given.book) changes → CountsPairs table changes
counts_from_nothing table given config changes tree new book =
    let none : shared_in given.book ≡ no_changes = ap (λ (t : TableValue). shared_in t.book) new in
    let inserted : no_changes.inserted + changes.inserted ≡ changes.inserted = omega arith in
    let removed : no_changes.removed + changes.removed ≡ changes.removed = omega arith in
    let alone : shared_in table.book ≡ changes = book ∙ (ap (λ (begun : ShareValue). together begun changes) none ∙ (λ j. share_of (inserted j) (removed j))) in
    subst (CountsPairs table) alone tree.pairs
