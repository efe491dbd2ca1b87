use Rattle.std.proofs.Common.{◌≡◌, ◌∙◌, ℕ, List, Bool, true, false, ap, sym}
use Rattle.bw_keys.specs.declared.page.Pid.{Pid}
use Rattle.bw_delta.specs.Fence.{is_leaf}
use Rattle.bw_delta.specs.Pages.{pairs_of, routes_of}
use Rattle.bw_delta.specs.Pairs.{pairs_listed, routes_listed}
use Rattle.bw_delta.specs.Records.{Records}
use Rattle.bw_delta.specs.Sound.{listed_for}
use Rattle.bw_chain.specs.Changes.{entries_by, pair_change, route_change}
use Rattle.bw_chain.specs.Kinds.{pairs_are, routes_are}
use Rattle.bw_chain.proofs.pass.consolidation.entries_of.Goals as goal

leaf_lists : (chain : Records) (of_pairs : Bool) (es : List (ℕ × ℕ)) → of_pairs ≡ is_leaf chain → of_pairs ≡ true → es ≡ entries_by pairs_listed pair_change chain → pairs_of es ≡ listed_for (is_leaf chain) chain
leaf_lists chain of_pairs es kind is same = ap pairs_of (same ∙ pairs_are chain) ∙ ap (λ (leaf : Bool). listed_for leaf chain) (sym is ∙ kind)

inner_lists : (chain : Records) (of_pairs : Bool) (es : List (ℕ × Pid)) → of_pairs ≡ is_leaf chain → of_pairs ≡ false → es ≡ entries_by routes_listed route_change chain → routes_of es ≡ listed_for (is_leaf chain) chain
inner_lists chain of_pairs es kind is same = ap routes_of (same ∙ routes_are chain) ∙ ap (λ (leaf : Bool). listed_for leaf chain) (sym is ∙ kind)

pub returns-in_ok-list : goal.returns-in_ok-list
returns-in_ok-list g c = leaf_lists c.args.chain.now c.args.of_pairs _ c.requires.kind c.if-of_pairs.true c.in_ok-list.ensures

pub returns-in_ok-list-2 : goal.returns-in_ok-list-2
returns-in_ok-list-2 g c = inner_lists c.args.chain.now c.args.of_pairs _ c.requires.kind c.if-of_pairs.false c.in_ok-list-2.ensures
