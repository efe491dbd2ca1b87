-- A look raises no share, whether or not it is kept, and an action raises it by its receipt.
use Rattle.std.proofs.Common.{ℕ, Bool, true, false, if◌then◌else◌, List, [], ◌∷◌, ◌++◌, Option, Some, None, Err, append-nil, fold, refl, sym, ◌∙◌, ◌≡◌}
use Rattle.bw_keys.specs.declared.page.Pid.{Pid}
use Rattle.bw_step.specs.declared.receipt.Receipt.{Receipt}
use Rattle.bw_step.specs.declared.receipt.Receipt.TheVariants.{Looked, Shaped}
use Rattle.bw_step.specs.declared.receipt.Kind.TheVariants as kinds
use Rattle.bw_step.specs.declared.action.Action.{Action}
use Rattle.bw_step.specs.declared.action.Performed.{Performed}
use Rattle.bw_step.specs.declared.action.Unperformed.{Unperformed}
use Rattle.bw_step.specs.declared.view.Look.{Look}
use Rattle.bw_procedures.specs.declared.steps.Keep.{Keep}
use Rattle.bw_procedures.specs.Seen.{Seen, is_kept, trail_after_look}
use Rattle.bw_procedures.proofs.Performing.{unperformed_trail}
use Rattle.bw_procedures.specs.Actions.{PerformedBy, consolidates_behind, receipts_of}
use Rattle.bw_tree.specs.Shares.{ShareValue, counted}
use Rattle.bw_work.specs.Hands.{Sums, sums_stay}

kept_sums : (kept : Bool) (at key : ℕ) (found : Option ℕ) (trail : List Receipt) (share : ShareValue) → Sums trail share (if kept then trail ++ Looked at key found ∷ [] else trail) share
kept_sums true at key found trail share = (Looked at key found ∷ [], refl, refl)
kept_sums false at key found trail share = sums_stay trail share

pub looks_sum : (keep : Keep) (key : ℕ) (look : Option Look) (trail : List Receipt) (share : ShareValue) → Sums trail share (trail_after_look keep key look trail) share
looks_sum keep key None trail share = sums_stay trail share
looks_sum keep key (Some look) trail share = kept_sums (is_kept keep look.found) look.at key look.found trail share

behind_sums : (is_behind : Bool) (page : Pid) (share : ShareValue) → fold counted share (if is_behind then Shaped kinds.Consolidate page None ∷ [] else []) ≡ share
behind_sums true page share = refl
behind_sums false page share = refl

pub performed_sums : (action : Action) (done : Performed) (trail : List Receipt) (share later : ShareValue) → later ≡ counted share done.receipt → Sums trail share (trail ++ receipts_of action done) later
performed_sums action done trail share later is =
    (receipts_of action done, refl, is ∙ sym (behind_sums (consolidates_behind action done.receipt) done.page (counted share done.receipt)))

-- what wasn't performed raises no share
pub unperformed_sums : (action : Action) (why : Unperformed) (a b : Seen) (share later : ShareValue) → PerformedBy action (Err why) a b → later ≡ share → Sums a.trail share b.trail later
unperformed_sums action why a b share later h same = ([], unperformed_trail action why a b h ∙ sym (append-nil a.trail), same)
