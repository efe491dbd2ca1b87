-- The first bad receipt of a history, by worker and then by place, and the verdict with its text.
use Rattle.std.specs.Prelude.{ℕ, ◌+◌, ◌-◌, ◌==◌, ◌||◌, ◌&&◌, not, Bool, true, false, cond, List, [], ◌∷◌, ◌++◌, length, take, Option, Some, None, nat_lt, is_some, codes, decimal}
use Rattle.std.specs.Option.{option_eq}
use Rattle.std.specs.Bool.{nat_eq}
use Rattle.bw_delta.specs.Entries.{at}
use Rattle.bw_step.specs.declared.receipt.Receipt.{Receipt}
use Rattle.bw_step.specs.Tellings.{Telling, change, look, shape, telling_of}
use Rattle.bw_audit.specs.declared.change.Change.{Change}
use Rattle.bw_audit.specs.declared.verdict.Verdict.{Verdict}
use Rattle.bw_audit.specs.declared.verdict.Verdict.TheVariants.{Yes, No}
use Rattle.bw_audit.specs.Changes.{change_of, changes_of, all_changes, bearer, value_at, add_change}
use Rattle.bw_audit.specs.Legal.{rises_from, position_after}

-- a change's number is none of 1 to the count, or an earlier receipt bears it
abbrev pub is_misnumbered : List Change → ℕ → ℕ → Bool
is_misnumbered cs before number = (number == 0) || nat_lt (length cs) number || is_some (bearer (take before cs) number)

abbrev pub is_bad_change : List Change → ℕ → Change → Bool
is_bad_change cs before c = is_misnumbered cs before c.number || not (option_eq nat_eq (value_at cs (c.number - 1) c.key) c.before)

abbrev pub is_bad_look : List Change → ℕ → ℕ → Option ℕ → Bool
is_bad_look cs seen key found = nat_lt (length cs) seen || not (option_eq nat_eq (value_at cs seen key) found)

-- a telling is bad, with this number of changes before it, and this position before it in its trail
abbrev pub is_bad : List Change → ℕ → ℕ → Telling → Bool
is_bad cs before last (change number key had has) =
    not (rises_from last (change number key had has)) || is_bad_change cs before (record { number = number; key = key; before = had; after = has })
is_bad cs before last (look seen key found) = not (rises_from last (look seen key found)) || is_bad_look cs seen key found
is_bad cs before last shape = false

-- the place of the first bad receipt of a trail, where the first stands at this place
abbrev pub first_bad : List Change → ℕ → ℕ → ℕ → List Receipt → Option ℕ
first_bad cs before last place [] = None
first_bad cs before last place (r ∷ rs) =
    cond (is_bad cs before last (telling_of r)) (Some place)
    (first_bad cs (before + length (add_change (change_of r) [])) (position_after last (telling_of r)) (place + 1) rs)

abbrev pub at_worker : ℕ → Option ℕ → Option (ℕ × ℕ) → Option (ℕ × ℕ)
at_worker worker None later = later
at_worker worker (Some place) later = Some (worker, place)

-- the worker and the place of the first bad receipt of all trails
abbrev pub first_fault : List Change → ℕ → ℕ → List (List Receipt) → Option (ℕ × ℕ)
first_fault cs before worker [] = None
first_fault cs before worker (t ∷ ts) =
    at_worker worker (first_bad cs before 0 0 t) (first_fault cs (before + length (changes_of t)) (worker + 1) ts)

abbrev pub pairs_hold : List Change → List (ℕ × ℕ) → Bool
pairs_hold cs [] = true
pairs_hold cs (p ∷ ps) = option_eq nat_eq (value_at cs (length cs) p.0) (Some p.1) && pairs_hold cs ps

abbrev pub changes_hold : List Change → List (ℕ × ℕ) → List Change → Bool
changes_hold cs pairs [] = true
changes_hold cs pairs (c ∷ rest) = option_eq nat_eq (value_at cs (length cs) c.key) (at c.key pairs) && changes_hold cs pairs rest

-- each pair is in the map after all changes, and each changed key has in the pairs what it has in the map
abbrev pub leaves : List Change → List (ℕ × ℕ) → Bool
leaves cs pairs = pairs_hold cs pairs && changes_hold cs pairs cs

abbrev pub verdict_at : List Change → List (ℕ × ℕ) → ℕ → Option (ℕ × ℕ) → Verdict
verdict_at cs pairs workers (Some p) = No p.0 p.1
verdict_at cs pairs workers None = cond (leaves cs pairs) Yes (No workers 0)

-- the first bad receipt; where there is none, whether the changes leave the pairs
abbrev pub verdict_of : List (List Receipt) → List (ℕ × ℕ) → Verdict
verdict_of trails pairs = verdict_at (all_changes trails) pairs (length trails) (first_fault (all_changes trails) 0 0 trails)

abbrev pub verdict_text : Verdict → List ℕ
verdict_text Yes = codes "yes"
verdict_text (No worker place) = codes "no " ++ decimal worker ++ codes " " ++ decimal place
