use Rattle.std.proofs.Common.{◌≡◌, ◌<◌, ◌≤◌, ℕ, Bool, true, false, refl, arith}
use Rattle.std.specs.Prelude.{IsTrue, ◌↔◌}
use Rattle.std.proofs.lemmas.Bool.{ltb-true, ltb-false}
use Rattle.bw_delta.specs.Slices.{list_of}
use Rattle.bw_chain.proofs.KeysAt.{below-less, below-most}
use Rattle.bw_chain.proofs.entries.sorted.is_below.Goals as goal

tells : (b : Bool) (place count : ℕ) → (b ≡ true → place < count) → (b ≡ false → count ≤ place) → IsTrue b ↔ (place < count)
tells true place count less most = (λ is. less refl, λ is. refl)
tells false place count less most = let past = most refl in (λ is. absurd (cc), λ is. absurd (omega (arith, past, is)))

pub returns : goal.returns
returns g c =
    let es = list_of c.args.entries in
    tells _ _ _
    (λ is. below-less c.args.key c.args.place c.key.result es c.requires.ascending c.requires.inside c.key.ensures (ltb-true _ _ is))
    (λ is. below-most c.args.key c.args.place c.key.result es c.requires.ascending c.requires.inside c.key.ensures (ltb-false _ _ is))
