-- The walk of a search exists, is the only one, and ends at the leaf that spans the key.
use Rattle.std.proofs.Common.{◌≡◌, ◌≢◌, ◌⊎◌, ℕ, zero, suc, pred, ◌+◌, ◌-◌, ◌<◌, ◌≤◌, true, List, [], ◌∷◌, Some, None, refl, sym, ◌∙◌, ap, subst, inl, inr, ⊎_elim, arith}
use Rattle.std.proofs.lemmas.Bool.{cases_eq, cases_lt, cases_order}
use Rattle.bw_keys.specs.Ranges.{key_count}
use Rattle.bw_step.specs.declared.view.Stage.{Stage}
use Rattle.bw_step.specs.declared.view.Stage.TheVariants.{Free, Unposted, Posted, Marked, Merged}
use Rattle.bw_step.specs.Stages.{is_in_row, has_term, is_leaving}
use Rattle.bw_law.specs.Rows.{Outline, Spans, InRow, Rows}
use Rattle.bw_law.specs.Tables.{outlines}
use Rattle.bw_law.specs.Walks.{IsLive, GoesRight, GoesDown, GoesOn, IsWalk, IsWalkFrom, last_of}
use Rattle.bw_law.specs.Laws.{WalkLaw}
use Rattle.bw_law.proofs.Lists.{option_cases}

-- a page is merged, or isn't
merged_cases : (stage : Stage) → (stage ≡ Merged) ⊎ (stage ≢ Merged)
merged_cases Free = inr (λ e. grind arith)
merged_cases Unposted = inr (λ e. grind arith)
merged_cases Posted = inr (λ e. grind arith)
merged_cases Marked = inr (λ e. grind arith)
merged_cases Merged = inl refl

-- a page with a term that isn't merged is in a row
pub term_in_row : (stage : Stage) → has_term stage ≡ true → stage ≢ Merged → is_in_row stage ≡ true
term_in_row Free term unmerged = absurd (cc)
term_in_row Unposted term unmerged = absurd (cc)
term_in_row Posted term unmerged = refl
term_in_row Marked term unmerged = refl
term_in_row Merged term unmerged = absurd (unmerged refl)

-- the greatest live route from a page's low up to a number
record Greatest (at : ℕ → Outline) (p n : ℕ) : Type 0 where
  route : ℕ
  child : ℕ
  from_low : (at p).low ≤ route
  up_to : route ≤ n
  live : IsLive at (at p) route child
  greatest : (k c : ℕ) → route < k → k ≤ n → IsLive at (at p) k c → ⊥

-- a route is live at a key, or none is
live_cases : (at : ℕ → Outline) (p k : ℕ) → ((c : ℕ) × IsLive at (at p) k c) ⊎ ((c : ℕ) → IsLive at (at p) k c → ⊥)
live_cases at p k = ⊎_elim
    (λ (none : (at p).routes k ≡ None). inr (λ c live. cc (none, live.0)))
    (λ (some : (c : ℕ) × ((at p).routes k ≡ Some c)). ⊎_elim
    (λ (merged : (at some.0).stage ≡ Merged). inr (λ c live. let same : c ≡ some.0 = cc (some.1, live.0) in live.1 (ap (λ x. (at x).stage) same ∙ merged)))
    (λ (unmerged : (at some.0).stage ≢ Merged). inl (some.0, (some.1, unmerged)))
    (merged_cases (at some.0).stage))
    (option_cases ((at p).routes k))

module _ (top : ℕ) (at : ℕ → Outline) (root : ℕ) (law : Rows top at root) where
  -- the route at an inner page's own low is live
  pub low_is_live : (p level : ℕ) → InRow (at p) → (at p).level ≡ level + 1 → (c : ℕ) × IsLive at (at p) (at p).low c
  low_is_live p level p_in inner =
      let own = law.own_low p level p_in inner in
      let term = law.routed p own.0 (at p).low p_in (omega arith, law.some_key p p_in) own.1 in
      (own.0, (own.1, λ merged. law.leaving_low p own.0 p_in (ap is_leaving merged) term.above (sym term.at_low)))

  -- from an inner page's low on there is a greatest live route
  greatest_to : (distance n p level : ℕ) → InRow (at p) → (at p).level ≡ level + 1 → n ≡ (at p).low + distance → Greatest at p n
  greatest_to zero n p level p_in inner is =
      let low = low_is_live p level p_in inner in
      record { route = (at p).low; child = low.0; from_low = omega arith; up_to = omega arith; live = low.1; greatest = λ k c above under _. omega arith }
  greatest_to (suc distance) n p level p_in inner is = ⊎_elim
      (λ (here : (c : ℕ) × IsLive at (at p) n c). record { route = n; child = here.0; from_low = omega arith; up_to = omega arith; live = here.1; greatest = λ k c above under _. omega arith })
      (λ (none : (c : ℕ) → IsLive at (at p) n c → ⊥).
      let before = greatest_to distance (pred n) p level p_in inner (omega arith) in
      record {
        route = before.route;
        child = before.child;
        from_low = before.from_low;
        up_to = omega (arith, before.up_to);
        live = before.live;
        greatest = λ k c above under live. ⊎_elim
            (λ (is_n : k ≡ n). none c (subst (λ x. IsLive at (at p) x c) is_n live))
            (λ (other : k ≢ n). before.greatest k c above (omega arith) live)
            (cases_eq k n);
      })
      (live_cases at p n)

  -- a search stays among the pages in a row that begin at or below the key
  pub goes_on_in_row : (key p q : ℕ) → InRow (at p) → (at p).low ≤ key → GoesOn at key p q → InRow (at q) × ((at q).low ≤ key)
  goes_on_in_row key p q p_in from goes = ⊎_elim
      (λ (right : GoesRight at key p q). let next = law.linked p q p_in right.1 in (next.0, omega (arith, next.2, right.0)))
      (λ (down : GoesDown at key p q).
      let own = low_is_live p down.inner.0 p_in down.inner.1 in
      let from_low : (at p).low ≤ down.route = ⊎_elim
      (λ (under : down.route < (at p).low). absurd (down.greatest (at p).low own.0 under from own.1))
      (λ (over : (at p).low ≤ down.route). over)
      (cases_lt down.route (at p).low) in
      let term = law.routed p q down.route p_in (from_low, omega (arith, down.within, down.at_or_below)) down.live.0 in
      (term_in_row _ term.posted down.live.1, omega (arith, term.at_low, down.at_or_below)))
      goes

  abbrev pub WalksFrom : ℕ → ℕ → Type 0
  WalksFrom key p = (rest : List ℕ) × IsWalk at key (p ∷ rest)

  -- a walk may begin one page before
  one_more : (key p q : ℕ) → GoesOn at key p q → WalksFrom key q → WalksFrom key p
  one_more key p q goes after = (q ∷ after.0, (goes, after.1))

  -- along a level by right links, to the page that spans the key
  along : (key level : ℕ) → key < top
      → (here : (p : ℕ) → InRow (at p) → (at p).level ≡ level → Spans (at p) key → WalksFrom key p)
      → (fuel p : ℕ) → InRow (at p) → (at p).level ≡ level → (at p).low ≤ key → top ≤ (at p).low + fuel → WalksFrom key p
  along key level below_top here zero p p_in is from enough = absurd (omega (arith, law.some_key p p_in, law.within p p_in))
  along key level below_top here (suc fuel) p p_in is from enough = ⊎_elim
      (λ (inside : key < (at p).high). here p p_in is (from, inside))
      (λ (past : (at p).high ≤ key). ⊎_elim
      (λ (none : (at p).right ≡ None). absurd (omega (arith, law.ends p p_in none)))
      (λ (some : (q : ℕ) × ((at p).right ≡ Some q)).
      let next = law.linked p some.0 p_in some.1 in
      one_more key p some.0 (inl (past, some.1))
      (along key level below_top here fuel some.0 next.0 (next.1 ∙ is) (omega (arith, next.2)) (omega (arith, law.some_key p p_in, next.2))))
      (option_cases (at p).right))
      (cases_lt key (at p).high)

  -- an inner page that spans the key leads one level down
  down_from : (key level p : ℕ) → InRow (at p) → (at p).level ≡ level + 1 → Spans (at p) key → (q : ℕ) × GoesOn at key p q × ((at q).level ≡ level)
  down_from key level p p_in inner spans =
      let best = greatest_to (key - (at p).low) key p level p_in inner (omega (arith, spans)) in
      let term = law.routed p best.child best.route p_in (best.from_low, omega (arith, spans, best.up_to)) best.live.0 in (
        best.child,
        inr (record { inner = (level, inner); within = spans.1; route = best.route; at_or_below = best.up_to; live = best.live; greatest = best.greatest }),
        omega (arith, term.above, inner),
      )

  -- from each page in a row that begins at or below the key there is a walk
  walk_from : (key level p : ℕ) → key < top → InRow (at p) → (at p).level ≡ level → (at p).low ≤ key → WalksFrom key p
  walk_from key zero p below_top p_in is from = along key zero below_top (λ q q_in leaf spans. ([], (leaf, spans))) top p p_in is from (omega arith)
  walk_from key (suc level) p below_top p_in is from = along key (suc level) below_top
      (λ q q_in inner spans.
      let down = down_from key level q q_in (omega (arith, inner)) spans in
      let next = goes_on_in_row key q down.0 q_in spans.0 down.1 in
      one_more key q down.0 down.1 (walk_from key level down.0 below_top next.0 down.2 next.1))
      top p p_in is from (omega arith)

  root_in : InRow (at root)
  root_in = ap is_in_row law.root_posted

  -- so there is one from the root
  pub walk_from_root : (key : ℕ) → key < top → (rest : List ℕ) × IsWalkFrom at root key (root ∷ rest)
  walk_from_root key below_top =
      let walk = walk_from key (at root).level root below_top root_in refl (omega (arith, law.root_first)) in
      (walk.0, (refl, walk.1))

  -- each walk ends at a leaf in the row, which spans the key
  ends_at_leaf : (key p : ℕ) (rest : List ℕ) → InRow (at p) → (at p).low ≤ key → IsWalk at key (p ∷ rest) → InRow (at (last_of p rest)) × ((at (last_of p rest)).level ≡ 0) × Spans (at (last_of p rest)) key
  ends_at_leaf key p [] p_in from walk = (p_in, walk.0, walk.1)
  ends_at_leaf key p (q ∷ rest) p_in from walk = let next = goes_on_in_row key p q p_in from walk.0 in ends_at_leaf key q rest next.0 next.1 walk.1

  -- so does each walk from the root
  pub walk_ends : (key : ℕ) (rest : List ℕ) → IsWalkFrom at root key (root ∷ rest) → InRow (at (last_of root rest)) × ((at (last_of root rest)).level ≡ 0) × Spans (at (last_of root rest)) key
  walk_ends key rest walk = ends_at_leaf key root rest root_in (omega (arith, law.root_first)) walk.1

-- a search goes on to one page
pub only_next : (at : ℕ → Outline) (key p q r : ℕ) → GoesOn at key p q → GoesOn at key p r → q ≡ r
only_next at key p q r a b = ⊎_elim
    (λ (x : GoesRight at key p q). ⊎_elim
    (λ (y : GoesRight at key p r). cc)
    (λ (y : GoesDown at key p r). absurd (omega (arith, x.0, y.within)))
    b)
    (λ (x : GoesDown at key p q). ⊎_elim
    (λ (y : GoesRight at key p r). absurd (omega (arith, y.0, x.within)))
    (λ (y : GoesDown at key p r). ⊎_elim
    (λ (same : x.route ≡ y.route). cc (ap (at p).routes same, x.live.0, y.live.0))
    (⊎_elim
    (λ (less : x.route < y.route). absurd (x.greatest y.route r less y.at_or_below y.live))
    (λ (more : y.route < x.route). absurd (y.greatest x.route q more x.at_or_below x.live)))
    (cases_order x.route y.route))
    b)
    a

-- at the leaf that spans the key it ends
pub ends_there : (at : ℕ → Outline) (key p q : ℕ) → (at p).level ≡ 0 → Spans (at p) key → GoesOn at key p q → ⊥
ends_there at key p q is_leaf spans goes = ⊎_elim
    (λ (right : GoesRight at key p q). omega (arith, right.0, spans))
    (λ (down : GoesDown at key p q). omega (arith, down.inner.1, is_leaf))
    goes

-- from a page there is one walk
only_walk_on : (at : ℕ → Outline) (key p : ℕ) (xs ys : List ℕ) → IsWalk at key (p ∷ xs) → IsWalk at key (p ∷ ys) → xs ≡ ys
only_walk_on at key p [] [] a b = refl
only_walk_on at key p [] (y ∷ ys) a b = absurd (ends_there at key p y a.0 a.1 b.0)
only_walk_on at key p (x ∷ xs) [] a b = absurd (ends_there at key p x b.0 b.1 a.0)
only_walk_on at key p (x ∷ xs) (y ∷ ys) a b =
    let same = only_next at key p x y a.0 b.0 in
    let rest = only_walk_on at key y xs ys (subst (λ z. IsWalk at key (z ∷ xs)) same a.1) b.1 in cc

-- from the root there is one walk
pub only_walk : (at : ℕ → Outline) (root key : ℕ) (xs ys : List ℕ) → IsWalkFrom at root key xs → IsWalkFrom at root key ys → xs ≡ ys
only_walk at root key [] ys a b = absurd a
only_walk at root key (x ∷ xs) [] a b = absurd b
only_walk at root key (x ∷ xs) (y ∷ ys) a b =
    let same : x ≡ y = a.0 ∙ sym b.0 in
    let rest = only_walk_on at key y xs ys (subst (λ z. IsWalk at key (z ∷ xs)) same a.1) b.1 in cc

-- so each search of a lawful table has one walk, and ends at the one leaf whose range holds the key
pub walk_law : WalkLaw
walk_law table law key below =
    let at = outlines table.slots in
    let walk = walk_from_root key_count at table.root law.rows key below in
    let end = walk_ends key_count at table.root law.rows key walk.0 walk.1 in record {
      rest = walk.0;
      is_walk = walk.1;
      only = λ other is. only_walk at table.root key other (table.root ∷ walk.0) is walk.1;
      ends = record { in_row = end.0; is_leaf = end.1; spans = end.2 };
      one_leaf = λ leaf is. law.rows.apart leaf (last_of table.root walk.0) key is.in_row end.0 (is.is_leaf ∙ sym end.1) is.spans end.2;
    }
