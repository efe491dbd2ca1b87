-- What a worker's trails tell of its acts on a forest.
use Rattle.std.proofs.Common.{◌≡◌, ℕ, zero, suc, ◌+◌, ◌<◌, List, [], ◌∷◌, ◌++◌, length, get_or, map, Option, Some, refl, ap, sym, subst, ◌∙◌, arith}
use Rattle.std.specs.Prelude.{slice_get, slice_index_or}
use Rattle.std.proofs.lemmas.List.{length-map, map-set}
use Rattle.std.proofs.lemmas.Option.{slice_get_within}
use Rattle.bw_keys.specs.declared.range.Range.{Range}
use Rattle.bw_step.specs.declared.receipt.Receipt.{Receipt}
use Rattle.bw_forest.specs.Bounds.{IsTreeOf, ranges_of}
use Rattle.bw_procedures.specs.declared.act.Act.{Act}
use Rattle.bw_procedures.specs.declared.reply.Reply.{Reply}
use Rattle.bw_procedures.specs.Reported.{AddsReported}
use Rattle.bw_procedures.specs.Seen.{Seen}
use Rattle.nifforan_forest.specs.Calls.{IsOfOne}
use Rattle.nifforan_forest.specs.Clears.{Removes, Together}
use Rattle.nifforan_forest.specs.Workers.{ArePlaced}
use Rattle.bw_run.specs.ForestAnswers.{EachRemoves, TellsAct, TellsAtOne, TellInTurn}
use Rattle.bw_run.specs.Rows.{key_of}

got_trail : {H : Type 0} → (trail : H → List Receipt) (hands : List H) (tree : ℕ) (hand : H) → slice_get hands tree ≡ Some hand
    → slice_index_or (map trail hands) tree [] ≡ trail hand
got_trail trail [] tree hand is = absurd (cc is)
got_trail trail (first ∷ hands) zero hand is = let same : first ≡ hand = cc is in ap trail same
got_trail trail (first ∷ hands) (suc tree) hand is = got_trail trail hands tree hand is

-- a call that one hand made tells what goes with it at the tree of its key
pub at_one : {H : Type 0} → (bounds : List ℕ) (range : H → Range) (key : ℕ) (follows call : H → H → Type 0) (trail : H → List Receipt)
    (act : Act) (reply : Reply) (old new : List H)
    → IsOfOne bounds range key follows call old new → key ≡ key_of act
    → ((before after : H) → call before after → AddsReported act reply (trail before) (trail after))
    → TellsAtOne bounds act reply (map trail old) (map trail new)
at_one bounds range key follows call trail act reply old new is names tells =
    let inside = slice_get_within old is.tree is.before is.at in
    let many : length (map trail old) ≡ length old = length-map old trail in
    record {
      tree = is.tree;
      after = trail is.after;
      holds = subst (λ (k : ℕ). IsTreeOf bounds k is.tree) names is.holds;
      within = omega (arith, inside, many);
      others = ap (map trail) is.others ∙ map-set trail old is.tree is.after;
      adds = subst (λ before. AddsReported act reply before (trail is.after)) (sym (got_trail trail old is.tree is.before is.at))
          (tells is.before is.after is.called);
    }

each_of_hands : {H : Type 0} → (seen : H → Seen) (follows : H → H → Type 0) (range : H → Range) (low end : ℕ) (olds news : List H)
    (count : ℕ) → Together (Removes seen follows range low end) olds news count
    → EachRemoves low end (map range olds) (map (λ hand. (seen hand).trail) olds) (map (λ hand. (seen hand).trail) news) count
each_of_hands seen follows range low end [] [] count are = are
each_of_hands seen follows range low end [] (new ∷ news) count are = absurd are
each_of_hands seen follows range low end (old ∷ olds) [] count are = absurd are
each_of_hands seen follows range low end (old ∷ olds) (new ∷ news) count are =
    let here = are.2.receipts in (
      are.0,
      are.1,
      record { added = here.added; trail = here.trail; removals = here.removals; count = here.count },
      each_of_hands seen follows range low end olds news are.1 are.3,
      are.4,
    )

-- the removal of a range by all hands
pub each_removes : {H : Type 0} → (bounds : List ℕ) (seen : H → Seen) (follows : H → H → Type 0) (range : H → Range) (low end : ℕ)
    (olds news : List H) (count : ℕ) → ArePlaced range bounds olds
    → Together (Removes seen follows range low end) olds news count
    → EachRemoves low end (ranges_of bounds) (map (λ hand. (seen hand).trail) olds) (map (λ hand. (seen hand).trail) news) count
each_removes bounds seen follows range low end olds news count placed are =
    subst (λ (ranges : List Range). EachRemoves low end ranges (map (λ hand. (seen hand).trail) olds)
    (map (λ hand. (seen hand).trail) news) count) placed (each_of_hands seen follows range low end olds news count are)

module _ (bounds : List ℕ) where
  pub tell_none : (acts : List Act) (trails : List (List Receipt)) → TellInTurn bounds acts [] trails trails
  tell_none [] trails = refl
  tell_none (act ∷ acts) trails = refl

  -- before the first act nothing is told
  pub none_told : (acts : List Act) (replies : List Reply) (trails : List (List Receipt)) → replies ≡ []
      → TellInTurn bounds acts replies trails trails
  none_told acts replies trails empty = rw empty (tell_none acts trails)

  -- one more reply
  pub tell_more : (acts : List Act) (replies : List Reply) (old between new : List (List Receipt)) (reply : Reply) (place : ℕ) (d : Act)
      → length replies ≡ place → place < length acts → TellInTurn bounds acts replies old between
      → TellsAct bounds (get_or acts place d) reply between new
      → TellInTurn bounds acts (replies ++ reply ∷ []) old new
  tell_more [] replies old between new reply place d at inside told more = absurd (omega (arith, inside))
  tell_more (act ∷ acts) [] old between new reply zero d at inside told more =
      (new, subst (λ trails. TellsAct bounds act reply trails new) told more, tell_none acts new)
  tell_more (act ∷ acts) [] old between new reply (suc place) d at inside told more = absurd (omega (arith, at))
  tell_more (act ∷ acts) (first ∷ replies) old between new reply zero d at inside told more = absurd (omega (arith, at))
  tell_more (act ∷ acts) (first ∷ replies) old between new reply (suc place) d at inside told more =
      (told.0, told.1, tell_more acts replies told.0 between new reply place d (omega (arith, at)) (omega (arith, inside)) told.2 more)
