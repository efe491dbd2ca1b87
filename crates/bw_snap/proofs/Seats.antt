-- The steps of readers, stamps and the writing end keep the rule over what they have seen.
use Rattle.std.proofs.Common.{◌≡◌, ◌≢◌, ℕ, List, [], set, refl, subst, ⊎_elim}
use mathlib.Core.Option.{some}
use lib.ListN.{get_elem?}
use Rattle.logbook.specs.Pages.{Book}
use Rattle.crossbeam_utils.specs.Register.{Admits, TurnsAt, Forks, Merges}
use Rattle.atomic_table.proofs.Lists.{at_set, at_snoc}
use Rattle.bw_keys.specs.declared.config.Config.{Config}
use Rattle.bw_step.specs.Proposals.{Proposal}
use Rattle.bw_snap.specs.Snapshots.{IsSnapshot, BeginsWith}
use Rattle.bw_snap.specs.Views.{AllBegin, Backs, SeesOn}
use Rattle.bw_snap.specs.declared.shown.Shown.{Shown}
use Rattle.bw_snap.proofs.Beginnings.{begins_itself, begins_by_turns}

abbrev Steps : Type 0
Steps = List Proposal

pub begins_nothing : (xs : Steps) → BeginsWith xs []
begins_nothing xs = (xs, refl)

set_begins : (xs : Steps) (views : List Steps) (seat : ℕ) (v : Steps) → AllBegin xs views → BeginsWith xs v → AllBegin xs (set views seat v)
set_begins xs views seat v h low j u e =
    ⊎_elim (λ (t : (j ≡ seat) × (v ≡ u)). subst (λ (z : Steps). BeginsWith xs z) t.1 low) (λ (t : (j ≢ seat) × (get_elem? views j ≡ some u)). h j u t.1) (at_set views seat j v u e)

module _ (config : Config) (announcements : Book) where
  abbrev pub Holds : Shown → List Steps → Type 0
  Holds s views = Backs config announcements s.table s.front views

  abbrev pub Then : Steps → Shown → Shown → Steps → Type 0
  Then v x y w = SeesOn config announcements v y.table y.front w

  -- a new seat has seen nothing
  pub admits : Admits Holds []
  admits x views h = (h.0, h.1, λ seat v at. ⊎_elim (h.2 seat v) (λ (e : [] ≡ v). subst (λ (z : Steps). BeginsWith x.front.list z) e (begins_nothing x.front.list)) (at_snoc views [] v seat at))

  -- publishing a list that begins with the published one shows it
  pub goes_on : (seat : ℕ) (v : Steps) (x y : Shown) → IsSnapshot config y.front.list y.table → y.front.announcements ≡ announcements → BeginsWith y.front.list x.front.list → TurnsAt Holds seat v x y Then
  goes_on seat v x y snapshot same up views h at =
      let all : AllBegin y.front.list views = λ j u e. begins_by_turns y.front.list x.front.list u up (h.2 j u e) in
      (y.front.list, (snapshot, same, set_begins y.front.list views seat y.front.list all (begins_itself y.front.list)), (snapshot, same, all seat v at, refl))

  -- entering shows what is published
  pub reads : (seat : ℕ) (v : Steps) (x : Shown) → TurnsAt Holds seat v x x Then
  reads seat v x views h at = goes_on seat v x x h.0 h.1 (begins_itself x.front.list) views h at

  -- passing on what was seen keeps it
  pub forks : (seat : ℕ) (v : Steps) → Forks Holds seat v v v
  forks seat v x views h at = (
    h.0,
    h.1,
    λ j u e.
        ⊎_elim (set_begins x.front.list views seat v h.2 (h.2 seat v at) j u) (λ (same : v ≡ u). subst (λ (z : Steps). BeginsWith x.front.list z) same (h.2 seat v at))
        (at_snoc (set views seat v) v u j e),
  )

  -- what was passed on is seen by its receiver
  pub merges : (seat : ℕ) (v : Steps) (other : ℕ) (w : Steps) → Merges Holds seat v other w w []
  merges seat v other w x views h at apart there =
      let b : BeginsWith x.front.list w = ⊎_elim (λ (t : (other ≡ seat) × (w ≡ w)). absurd (apart t.0)) (λ (t : (other ≢ seat) × (get_elem? views other ≡ some w)). h.2 other w t.1) (at_set views seat other w w there) in
      (h.0, h.1, set_begins x.front.list (set views seat w) other [] (set_begins x.front.list views seat w h.2 b) (begins_nothing x.front.list))
