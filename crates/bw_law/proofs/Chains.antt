-- A slot and its chain, after a record was put on it, or a base took its place.
use Rattle.std.proofs.Common.{◌≡◌, ℕ, suc, ◌+◌, ◌<◌, ◌≤◌, Bool, true, false, cond, eqb, List, [], length, Option, Some, None, refl, sym, ◌∙◌, ap, arith}
use Rattle.std.specs.Prelude.{option_map, unwrap_or}
use Rattle.std.proofs.Math.Path.{fun_ext}
use Rattle.std.proofs.lemmas.Bool.Decides.{nat_tests}
use Rattle.bw_keys.specs.declared.page.TheConstants.{MAX_DEPTH, MAX_LEVEL}
use Rattle.bw_keys.specs.declared.page.Pid.{Pid}
use Rattle.bw_keys.specs.Ranges.{end_of}
use Rattle.bw_delta.specs.declared.chain.Delta.{Delta}
use Rattle.bw_delta.specs.declared.fences.Fences.{Fences}
use Rattle.bw_delta.specs.Entries.{at}
use Rattle.bw_delta.specs.Pages.{Page, Listed, pairs_of, routes_of, IsPage, listed_length, lists_pairs}
use Rattle.bw_delta.specs.Records.{Records, bare, above}
use Rattle.bw_delta.specs.Fence.{fences, fences_after, page_fences, is_leaf}
use Rattle.bw_delta.specs.Pairs.{pairs, pairs_listed, pairs_after, routes, routes_listed, routes_after}
use Rattle.bw_delta.specs.Sound.{MayStandOver, LiesIn}
use Rattle.bw_delta.proofs.Stands.{inner_has_no_pairs, leaf_has_no_routes}
use Rattle.bw_step.specs.declared.view.Stage.{Stage}
use Rattle.bw_law.specs.Slots.{SlotValue, empty_page, chain_in, pairs_in, routes_in}
use Rattle.bw_law.specs.Tables.{id_of, slot_fences, IsPageOf}
use Rattle.bw_law.proofs.Accepted.{Holds}

module _ (slot : SlotValue) (chain : Records) (is : IsPageOf slot chain) where
  -- the slot has the fence of its chain
  pub low_is : slot.low ≡ (fences chain).low
  low_is = ap (λ (f : Fences). f.low) is.fence

  pub high_is : slot.high ≡ (fences chain).high
  high_is = ap (λ (f : Fences). f.high) is.fence

  pub right_is : slot.right ≡ (fences chain).right
  right_is = ap (λ (f : Fences). f.right) is.fence

  -- and its chain, pairs and routes are those of the chain
  pub chain_is : chain_in slot ≡ chain
  chain_is = ap (λ o. unwrap_or o (bare empty_page)) is.its_chain

  pub pairs_are : pairs_in slot ≡ pairs chain
  pairs_are = ap (λ o. unwrap_or (option_map pairs o) []) is.its_chain

  pub routes_are : routes_in slot ≡ routes chain
  routes_are = ap (λ o. unwrap_or (option_map routes o) []) is.its_chain

  -- a key of the slot's range lies in that of the chain
  pub lies_in : (key : ℕ) → Holds slot key → LiesIn key (fences chain)
  lies_in key holds = record { from_low = omega (arith, holds, low_is); below_high = omega (arith, holds, ap end_of high_is) }

  -- a leaf has a leaf chain, which has no routes; an inner page an inner chain, which has no pairs
  pub leaf_chain : slot.level ≡ 0 → is_leaf chain ≡ true
  leaf_chain leaf = grind (arith, nat_tests, is.kind)

  pub inner_chain : (level : ℕ) → slot.level ≡ level + 1 → is_leaf chain ≡ false
  inner_chain level inner = grind (arith, nat_tests, is.kind)

  pub leaf_routes_none : slot.level ≡ 0 → routes chain ≡ []
  leaf_routes_none leaf = leaf_has_no_routes chain is.sound.built (leaf_chain leaf)

  pub inner_pairs_none : (level : ℕ) → slot.level ≡ level + 1 → pairs chain ≡ []
  inner_pairs_none level inner = inner_has_no_pairs chain is.sound.built (inner_chain level inner)

  -- a leaf counts its pairs, an inner page its routes
  pub leaf_count : slot.level ≡ 0 → slot.count ≡ length (pairs chain)
  leaf_count leaf = omega (arith, is.count, ap length (leaf_routes_none leaf))

  pub inner_count : (level : ℕ) → slot.level ≡ level + 1 → slot.count ≡ length (routes chain)
  inner_count level inner = omega (arith, is.count, ap length (inner_pairs_none level inner))

  -- the slot with another version and stage is of the same page
  pub restaged : (version : ℕ) (stage : Stage) → IsPageOf (record slot { version = version; stage = stage }) chain
  restaged version stage = record {
    its_chain = is.its_chain;
    sound = is.sound;
    kind = is.kind;
    fence = is.fence;
    count = is.count;
    depth = is.depth;
    not_tall = is.not_tall;
  }

  -- a record stands on the chain, and the slot is as it says
  pub above_page : (new : SlotValue) (delta : Delta) → MayStandOver delta chain → slot.depth < MAX_DEPTH
      → new.chain ≡ option_map (above delta) slot.chain → new.depth ≡ suc slot.depth → new.level ≡ slot.level → slot_fences new ≡ fences_after delta (fences chain)
      → new.count ≡ length (pairs_after delta (pairs chain)) + length (routes_after delta (routes chain)) → IsPageOf new (above delta chain)
  above_page new delta stands shallow its_chain deeper level fence count = record {
    its_chain = its_chain ∙ ap (option_map (above delta)) is.its_chain;
    sound = record { built = (is.sound.built, stands); not_deep = omega (arith, is.depth, shallow) };
    kind = is.kind ∙ ap (λ n. eqb n 0) (sym level);
    fence = fence;
    count = count;
    depth = omega (arith, deeper, is.depth);
    not_tall = omega (arith, level, is.not_tall);
  }

  -- the record changes the pairs and the routes
  pub pairs_above : (new : SlotValue) (delta : Delta) → new.chain ≡ option_map (above delta) slot.chain → pairs_in new ≡ pairs_after delta (pairs_in slot)
  pairs_above new delta its_chain =
      ap (λ o. unwrap_or (option_map pairs o) []) (its_chain ∙ ap (option_map (above delta)) is.its_chain) ∙ ap (pairs_after delta) (sym pairs_are)

  pub routes_above : (new : SlotValue) (delta : Delta) → new.chain ≡ option_map (above delta) slot.chain → routes_in new ≡ routes_after delta (routes_in slot)
  routes_above new delta its_chain =
      ap (λ o. unwrap_or (option_map routes o) []) (its_chain ∙ ap (option_map (above delta)) is.its_chain) ∙ ap (routes_after delta) (sym routes_are)

-- a base lists its pairs, or its routes
pub listed_count : (l : Listed) → listed_length l ≡ length (pairs_listed l) + length (routes_listed l)
listed_count (pairs_of es) = omega arith
listed_count (routes_of es) = omega arith

-- a base stands alone in the slot, which is as it says
pub bare_page : (new : SlotValue) (base : Page) → IsPage base → new.chain ≡ Some (bare base) → lists_pairs base.listed ≡ eqb new.level 0 → slot_fences new ≡ page_fences base
    → new.count ≡ listed_length base.listed → new.depth ≡ 0 → new.level ≤ MAX_LEVEL → IsPageOf new (bare base)
bare_page new base is_page its_chain kind fence count no_depth not_tall = record {
  its_chain = its_chain;
  sound = record { built = is_page; not_deep = omega arith };
  kind = kind;
  fence = fence;
  count = count ∙ listed_count base.listed;
  depth = no_depth;
  not_tall = not_tall;
}

-- the route at a key, as a number
abbrev pub route_at : List (ℕ × Pid) → ℕ → Option ℕ
route_at es key = option_map id_of (at key es)

-- a choice of routes is one of their ids
chosen : (b : Bool) (p q : Option Pid) → option_map id_of (cond b p q) ≡ cond b (option_map id_of p) (option_map id_of q)
chosen true p q = refl
chosen false p q = refl

-- routes that are chosen by a test of the key
pub chosen_routes : (es : List (ℕ × Pid)) (test : ℕ → Bool) (p q : ℕ → Option Pid) → ((key : ℕ) → at key es ≡ cond (test key) (p key) (q key)) → route_at es ≡ (λ key. cond (test key) (option_map id_of (p key)) (option_map id_of (q key)))
chosen_routes es test p q each = fun_ext (λ key. ap (option_map id_of) (each key) ∙ chosen (test key) (p key) (q key))

-- a route that is known by its number
pub some_route : (o : Option Pid) (page : ℕ) → option_map id_of o ≡ Some page → (child : Pid) × (o ≡ Some child) × (child.0 ≡ page)
some_route None page is = absurd (cc)
some_route (Some child) page is = (child, refl, cc)

pub route_with_id : (o : Option Pid) (child : Pid) (page : ℕ) → o ≡ Some child → child.0 ≡ page → option_map id_of o ≡ Some page
route_with_id o child page is id = ap (option_map id_of) is ∙ ap Some id
