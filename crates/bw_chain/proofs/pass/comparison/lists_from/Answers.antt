use Rattle.std.proofs.Common.{◌≡◌, ◌↔◌, ◌∙◌, ℕ, List, Bool, IsTrue, true, false, refl, ap, sym, subst}
use Rattle.std.proofs.lemmas.Bool.{not-false}
use Rattle.bw_keys.specs.declared.page.Pid.{Pid}
use Rattle.bw_keys.specs.Ranges.{end_of}
use Rattle.bw_delta.specs.Entries.{from}
use Rattle.bw_delta.specs.Fence.{is_leaf}
use Rattle.bw_delta.specs.Pages.{Listed, pairs_of, routes_of, listed_from}
use Rattle.bw_delta.specs.Pairs.{pairs, pairs_listed, routes, routes_listed}
use Rattle.bw_delta.specs.Records.{Records}
use Rattle.bw_delta.specs.Slices.{list_of}
use Rattle.bw_delta.specs.Sound.{listed_for}
use Rattle.bw_chain.specs.Changes.{entries_by, pair_change, route_change}
use Rattle.bw_chain.specs.Kinds.{pairs_are, routes_are}
use Rattle.bw_chain.proofs.pass.comparison.lists_from.Goals as goal

module _ (chain : Records) (end : ℕ) (leaf result : Bool) (whole : Listed) (kind : leaf ≡ is_leaf chain) where
  abbrev Tells : Listed → Bool → Type 0
  Tells l b = IsTrue result ↔ (l ≡ listed_from end (listed_for b chain))

  -- a list of the chain's own kind is the same exactly if its entries are
  lists_pairs : (es list : List (ℕ × ℕ)) → whole ≡ pairs_of es → list ≡ es → leaf ≡ true → IsTrue result ↔ (list ≡ from end (entries_by pairs_listed pair_change chain)) → Tells whole (is_leaf chain)
  lists_pairs es list lists is leafy same =
      let own = ap (from end) (pairs_are chain) in
      let there : IsTrue result → pairs_of es ≡ pairs_of (from end (pairs chain)) = λ h. ap pairs_of (sym is ∙ same.0 h ∙ own) in
      let back : pairs_of es ≡ pairs_of (from end (pairs chain)) → IsTrue result = λ equal. same.1 (is ∙ (let entries : es ≡ from end (pairs chain) = cc in entries) ∙ sym own) in
      subst (Tells whole) (sym leafy ∙ kind) (subst (λ (l : Listed). Tells l true) (sym lists) (there, back))

  lists_routes : (es list : List (ℕ × Pid)) → whole ≡ routes_of es → list ≡ es → leaf ≡ false → IsTrue result ↔ (list ≡ from end (entries_by routes_listed route_change chain)) → Tells whole (is_leaf chain)
  lists_routes es list lists is inner same =
      let own = ap (from end) (routes_are chain) in
      let there : IsTrue result → routes_of es ≡ routes_of (from end (routes chain)) = λ h. ap routes_of (sym is ∙ same.0 h ∙ own) in
      let back : routes_of es ≡ routes_of (from end (routes chain)) → IsTrue result = λ equal. same.1 (is ∙ (let entries : es ≡ from end (routes chain) = cc in entries) ∙ sym own) in
      subst (Tells whole) (sym inner ∙ kind) (subst (λ (l : Listed). Tells l false) (sym lists) (there, back))

pub returns-else-not-extent : goal.returns-else-not-extent
returns-else-not-extent g c =
    lists_pairs c.args.chain.now (end_of c.args.fence) c.args.extent.is_leaf c.are_entries.result c.args.base.now.listed c.requires.kind c.in-Pairs.pairs (list_of c.as_slice.result) (rw (← c.base.view_is, c.in-Pairs.is) refl) c.as_slice.ensures
    (not-false c.args.extent.is_leaf c.if-not-extent.false) c.are_entries.ensures

pub returns-else-extent : goal.returns-else-extent
returns-else-extent g c =
    lists_routes c.args.chain.now (end_of c.args.fence) c.args.extent.is_leaf c.are_entries-in-Routes.result c.args.base.now.listed c.requires.kind c.in-Routes.routes (list_of c.as_slice-in-Routes.result) (rw (← c.base.view_is, c.in-Routes.is) refl) c.as_slice-in-Routes.ensures
    c.if-extent.false c.are_entries-in-Routes.ensures
