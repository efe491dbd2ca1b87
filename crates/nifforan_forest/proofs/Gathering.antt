-- What the workers of a forest bring back, one after the other.
use Rattle.std.proofs.Common.{◌≡◌, ℕ, ◌+◌, List, [], ◌∷◌, ◌++◌, map, ap, sym, ◌∙◌, append_assoc, append-nil, arith}
use Rattle.std.proofs.lemmas.List.{map-append}
use Rattle.std.proofs.lemmas.List.Sums.{sum_by-append}
use Rattle.bw_step.specs.declared.receipt.Receipt.{Receipt}
use Rattle.bw_tree.specs.Shares.{ShareValue, sum_of}
use Rattle.bw_crew.specs.Workers.{share_by}
use Rattle.bw_crew.proofs.Workers.{each_share}
use Rattle.nifforan_forest.specs.declared.returned.Returned.{Returned}
use Rattle.nifforan_forest.specs.Workers.{trails_of}

trails_then : {O L : Type 0} → (added : L → List Receipt) (workers : List (Returned O L)) (it : Returned O L)
    → trails_of added (workers ++ it ∷ []) ≡ trails_of added workers ++ map added it.trails.items
trails_then added [] it = append-nil (map added it.trails.items)
trails_then added (w ∷ workers) it =
    ap (λ (rest : List (List Receipt)). map added w.trails.items ++ rest) (trails_then added workers it) ∙ sym
    (append_assoc (map added w.trails.items) (trails_of added workers) (map added it.trails.items))

module _ {O L : Type 0} (added : L → List Receipt) (opening : List ShareValue) where
  -- the shares of one worker more are the sums of its trails
  pub counted_then : (shares more : List ShareValue) (workers with_it : List (Returned O L)) (it : Returned O L)
      → more ≡ shares ++ map (λ trail. share_by (added trail)) it.trails.items → with_it ≡ workers ++ it ∷ []
      → shares ≡ opening ++ map share_by (trails_of added workers) → more ≡ opening ++ map share_by (trails_of added with_it)
  counted_then shares more workers with_it it grown pushed so_far =
      let told = map share_by (trails_of added workers) in
      let own = map share_by (map added it.trails.items) in
      grown ∙ ((λ j. so_far j ++ each_share added it.trails.items j) ∙ (append_assoc opening told own
      ∙ ap (λ (rest : List ShareValue). opening ++ rest)
      (sym (map-append share_by (trails_of added workers) (map added it.trails.items)) ∙ ap (map share_by)
      (sym (ap (λ (ws : List (Returned O L)). trails_of added ws) pushed ∙ trails_then added workers it)))))

-- the pairs of a forest whose books were counted before, and of which the trails tell the rest
pub pairs_again : (pairs before : ℕ) (opening told : List ShareValue)
    → before + (sum_of opening).removed ≡ (sum_of opening).inserted
    → pairs + (sum_of (opening ++ told)).removed ≡ (sum_of (opening ++ told)).inserted
    → pairs + (sum_of told).removed ≡ before + (sum_of told).inserted
pairs_again pairs before opening told was are =
    let inserted = sum_by-append (λ (s : ShareValue). s.inserted) opening told in
    let removed = sum_by-append (λ (s : ShareValue). s.removed) opening told in
    omega (arith, was, are, inserted, removed)
