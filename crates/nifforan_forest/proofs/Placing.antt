-- The hands of a worker, each on the tree of its number.
use Rattle.std.proofs.Common.{◌≡◌, ℕ, ◌+◌, ◌<◌, List, [], ◌∷◌, ◌++◌, Some, length, get_or, map, take, refl, ap, sym, subst, ◌∙◌}
use Rattle.std.specs.Prelude.{slice_get, slice_set}
use Rattle.std.specs.Option.{option_map}
use Rattle.std.proofs.lemmas.List.{map-append, take_more}
use Rattle.std.proofs.lemmas.Option.{slice_get-map, slice_get_read}
use Rattle.std.proofs.Math.Seq.{map-set_same}
use Rattle.bw_keys.specs.declared.range.Range.{Range}
use Rattle.bw_keys.specs.Ranges.{Holds}
use Rattle.bw_forest.specs.Bounds.{IsTreeOf, ranges_of}
use Rattle.nifforan_forest.specs.Calls.{IsOfOne}
use Rattle.nifforan_forest.specs.Workers.{ArePlaced}
use Rattle.nifforan_forest.proofs.Places.{some_is}

-- one hand more, on the next tree
pub placed_more : {H T : Type 0} → (range : H → Range) (of_tree : T → Range) (hands more : List H) (hand : H) (trees : List T) (i : ℕ)
    (tree : T) → more ≡ hands ++ hand ∷ [] → range hand ≡ of_tree (get_or trees i tree) → i < length trees
    → map range hands ≡ map of_tree (take i trees) → map range more ≡ map of_tree (take (i + 1) trees)
placed_more range of_tree hands more hand trees i tree grown is inside so_far =
    rw grown (map-append range hands (hand ∷ []) ∙ ((λ j. so_far j ++ is j ∷ [])
    ∙ sym (ap (map of_tree) (take_more trees i tree inside) ∙ map-append of_tree (take i trees) (get_or trees i tree ∷ []))))

module _ {H : Type 0} (range : H → Range) (bounds : List ℕ) (hands : List H) (placed : ArePlaced range bounds hands) (tree : ℕ)
    (hand : H) where
  -- a hand's tree has the range with its number
  pub has_range : (own : Range) → slice_get hands tree ≡ Some hand → slice_get (ranges_of bounds) tree ≡ Some own → range hand ≡ own
  has_range own is there =
      some_is (range hand) own
      (sym (ap (option_map range) is) ∙ (sym (slice_get-map range hands tree) ∙ (ap (λ (rs : List Range). slice_get rs tree) placed
      ∙ there)))

  -- and the keys of that tree
  pub on_tree : (key : ℕ) → slice_get hands tree ≡ Some hand → IsTreeOf bounds key tree → Holds (range hand) key
  on_tree key is holds = subst (λ (own : Range). Holds own key) (sym (has_range holds.0 is holds.1)) holds.2

  -- a hand that stays on its tree
  pub still_placed : (now : H) → hand ≡ get_or hands tree hand → range hand ≡ range now → ArePlaced range bounds (slice_set hands tree now)
  still_placed now is stays = map-set_same range hands tree now hand (sym stays ∙ ap range is) ∙ placed

  -- a call that it made
  pub of_one : (key count : ℕ) (follows call : H → H → Type 0) (now : H) → IsTreeOf bounds key tree → tree < count → count ≡ length hands
      → hand ≡ get_or hands tree hand → follows hand now → call hand now
      → IsOfOne bounds range key follows call hands (slice_set hands tree now)
  of_one key count follows call now holds inside many is followed called =
      let at = slice_get_read hands count tree hand many inside is in
      record {
        tree = tree;
        before = hand;
        after = now;
        holds = holds;
        at = at;
        on = on_tree key at holds;
        others = refl;
        followed = followed;
        called = called;
      }
