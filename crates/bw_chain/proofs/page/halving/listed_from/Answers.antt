use Rattle.std.proofs.Common.{◌≡◌, ◌↔◌, ◌≤◌, ◌∙◌, ℕ, ap, sym, subst}
use Rattle.std.specs.Prelude.{Result, Ok, Err, IsErrOf, IsErrAnd, Some}
use Rattle.bw_delta.specs.Pages.{Listed, listed_length, pairs_of, routes_of}
use Rattle.bw_delta.specs.PageView.{listed}
use Rattle.bw_chain.specs.declared.page.halving.HalveFault.{HalveFault}
use Rattle.bw_chain.specs.declared.page.halving.HalveFault.TheVariants.{TooSmall}
use Rattle.bw_chain.specs.Pages.Halves.{listed_key_at, listed_behind}
use Rattle.bw_chain.proofs.page.halving.listed_from.Goals as goal

-- what the list of one kind says of itself, the page says of what it lists
module _ (number : ℕ) (whole list : Listed) (is : whole ≡ list) where
  shorter : listed_length list ≤ number → listed_length whole ≤ number
  shorter le = subst (λ (l : Listed). listed_length l ≤ number) (sym is) le

  longer : listed_length whole ≤ number → listed_length list ≤ number
  longer le = subst (λ (l : Listed). listed_length l ≤ number) is le

  passed_on : {T U : Type 0} (result : Result T HalveFault) (part : Result U HalveFault) (fault : HalveFault) → IsErrAnd result (λ it. it ≡ fault) → part ≡ Err fault
      → IsErrOf part TooSmall ↔ (listed_length list ≤ number) → IsErrOf result TooSmall ↔ (listed_length whole ≤ number)
  passed_on (Ok x) part fault same was small = absurd same
  passed_on (Err it) part fault same was small =
      ((λ h. let again : part ≡ Err TooSmall = cc in shorter (small.0 again)), λ le. let again : part ≡ Err TooSmall = small.1 (longer le) in cc)

  long_enough : {T U : Type 0} (x : T) (y : U) → IsErrOf (Ok y) TooSmall ↔ (listed_length list ≤ number) → IsErrOf {T = T} (Ok x) TooSmall ↔ (listed_length whole ≤ number)
  long_enough x y small = ((λ h. absurd (cc)), λ le. absurd (let none : Ok y ≡ Err TooSmall = small.1 (longer le) in cc))

  begins_at : (key : ℕ) → listed_key_at number list ≡ Some key → listed_key_at number whole ≡ Some key
  begins_at key here = ap (listed_key_at number) is ∙ here

  is_behind : (part : Listed) → part ≡ listed_behind number list → part ≡ listed_behind number whole
  is_behind part behind = behind ∙ ap (listed_behind number) (sym is)

pub returns-in_err-separator-in-Pairs-clause-small : goal.returns-in_err-separator-in-Pairs-clause-small
returns-in_err-separator-in-Pairs-clause-small g c =
    passed_on c.args.number _ (pairs_of c.in-Pairs.pairs) (ap listed c.in-Pairs.is) c.from_residual.result c.entries_from.result _ c.from_residual.ensures.1 c.in_err-separator-in-Pairs.was (rw c.as_slice.ensures at c.entries_from.ensures.small)

pub returns-in_err-separator-in-Routes-clause-small : goal.returns-in_err-separator-in-Routes-clause-small
returns-in_err-separator-in-Routes-clause-small g c =
    passed_on c.args.number _ (routes_of c.in-Routes.routes) (ap listed c.in-Routes.is) c.from_residual-in_err-separator-in-Routes.result c.entries_from-in-Routes.result _ c.from_residual-in_err-separator-in-Routes.ensures.1 c.in_err-separator-in-Routes.was (rw c.as_slice-in-Routes.ensures at c.entries_from-in-Routes.ensures.small)

pub returns-in_ok-separator-in-Pairs-clause-small : goal.returns-in_ok-separator-in-Pairs-clause-small
returns-in_ok-separator-in-Pairs-clause-small g c =
    long_enough c.args.number _ (pairs_of c.in-Pairs.pairs) (ap listed c.in-Pairs.is) _ _ (rw c.as_slice.ensures at c.in_ok-separator-in-Pairs.ensures.small)

pub returns-in_ok-separator-in-Routes-clause-small : goal.returns-in_ok-separator-in-Routes-clause-small
returns-in_ok-separator-in-Routes-clause-small g c =
    long_enough c.args.number _ (routes_of c.in-Routes.routes) (ap listed c.in-Routes.is) _ _ (rw c.as_slice-in-Routes.ensures at c.in_ok-separator-in-Routes.ensures.small)

pub returns-in_ok-separator-in-Pairs-clause-separator : goal.returns-in_ok-separator-in-Pairs-clause-separator
returns-in_ok-separator-in-Pairs-clause-separator g c =
    begins_at c.args.number _ (pairs_of c.in-Pairs.pairs) (ap listed c.in-Pairs.is) _ (rw c.as_slice.ensures at c.in_ok-separator-in-Pairs.ensures.separator)

pub returns-in_ok-separator-in-Routes-clause-separator : goal.returns-in_ok-separator-in-Routes-clause-separator
returns-in_ok-separator-in-Routes-clause-separator g c =
    begins_at c.args.number _ (routes_of c.in-Routes.routes) (ap listed c.in-Routes.is) _ (rw c.as_slice-in-Routes.ensures at c.in_ok-separator-in-Routes.ensures.separator)

pub returns-in_ok-separator-in-Pairs-clause-upper : goal.returns-in_ok-separator-in-Pairs-clause-upper
returns-in_ok-separator-in-Pairs-clause-upper g c =
    let behind = rw c.as_slice.ensures at c.in_ok-separator-in-Pairs.ensures.upper in
    is_behind c.args.number _ (pairs_of c.in-Pairs.pairs) (ap listed c.in-Pairs.is) _ (ap pairs_of behind)

pub returns-in_ok-separator-in-Routes-clause-upper : goal.returns-in_ok-separator-in-Routes-clause-upper
returns-in_ok-separator-in-Routes-clause-upper g c =
    let behind = rw c.as_slice-in-Routes.ensures at c.in_ok-separator-in-Routes.ensures.upper in
    is_behind c.args.number _ (routes_of c.in-Routes.routes) (ap listed c.in-Routes.is) _ (ap routes_of behind)
