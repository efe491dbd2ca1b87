-- One pass over edits and the entries below them: what each record, each base page and each merge does to it.
use Rattle.std.proofs.Common.{◌≡◌, ℕ, ◌+◌, ◌<◌, ◌≤◌, true, List, [], ◌∷◌, ◌++◌, length, append-nil, refl, ap, ◌∙◌, arith}
use Rattle.std.specs.Prelude.{Option, Some, None, unwrap_or}
use Rattle.std.proofs.lemmas.Bool.Decides.{nat_tests}
use Rattle.bw_keys.specs.Ranges.{key_count}
use Rattle.bw_delta.specs.Entries.{at, rises, put, without, below, from}
use Rattle.bw_delta.proofs.At.{at-joined_left, at-joined_right}
use Rattle.bw_delta.proofs.Rises.{rises-lower, rises-below, rises-from, rises-append, below_all, from_all}
use Rattle.bw_chain.specs.Ascends.{IsAscending}
use Rattle.bw_chain.specs.Passing.Edited.{edited_at, edited, edited_below, entry_of, falls, noted}
use Rattle.bw_chain.proofs.Ascending.{rises-higher}
use Rattle.bw_chain.proofs.Lasts.{below_low}
use Rattle.bw_chain.proofs.Overlays.{overlay, same_entries, at-edited_at, at-edited_at_other, rises-edited_at, rises-edited_below, at-edited_below_in, at-edited_below_out, at-noted, at-noted_other, falls-noted, falls-from, at-from_in}

pub falls-snoc : {Y : Type 0} → (low end : ℕ) (es : List (ℕ × Y)) (e : ℕ × Y) → falls low end (es ++ e ∷ []) ≡ true → falls (e.0 + 1) end es ≡ true
falls-snoc low end [] e f = refl
falls-snoc low end (d ∷ es) e f = grind (arith, nat_tests, falls-snoc low d.0 es e, last_below low d.0 es e)
  where
    last_below : {Y : Type 0} → (low end : ℕ) (es : List (ℕ × Y)) (e : ℕ × Y) → falls low end (es ++ e ∷ []) ≡ true → e.0 < end
    last_below low end [] e f = grind (arith, nat_tests)
    last_below low end (d ∷ es) e f = grind (arith, nat_tests, last_below low d.0 es e)

module _ {X : Type 0} where
  overlay-noted : (edit : Option (Option X)) (x stood : Option X) → overlay (Some (unwrap_or edit x)) stood ≡ overlay edit x
  overlay-noted (Some y) x stood = refl
  overlay-noted None x stood = refl

  -- an older record is an edit that newer ones hide
  pub edited_below-noted : (low end key : ℕ) (x : Option X) (edits : List (ℕ × Option X)) (es : List (ℕ × X)) → low ≤ key → key < end → end ≤ key_count → falls low key_count edits ≡ true → rises low key_count es ≡ true
      → edited_below end (noted key x edits) es ≡ edited_below end edits (edited_at key x es)
  edited_below-noted low end key x edits es le inside among f h =
      same_entries low end _ _
      (rises-edited_below low key_count key_count end (noted key x edits) es (falls-noted low key_count key x edits le (omega arith) f) h)
      (rises-edited_below low key_count key_count end edits (edited_at key x es) f (rises-edited_at low key_count key x es le (omega arith) h))
      each
    where
      each : (q : ℕ) → at q (edited_below end (noted key x edits) es) ≡ at q (edited_below end edits (edited_at key x es))
      each q = grind (arith, at-edited_below_in end q (noted key x edits) es, at-edited_below_in end q edits (edited_at key x es), at-edited_below_out end q (noted key x edits) es, at-edited_below_out end q edits (edited_at key x es), at-noted low key_count key x edits f, at-noted_other key q x edits, at-edited_at key q x es, at-edited_at_other key q x es, overlay-noted (at key edits) x (at key es))

  -- a record of a key that is cut off
  pub edited_at-cut : (end key : ℕ) (x : Option X) (es : List (ℕ × X)) → end ≤ key → below end es ≡ below end (edited_at key x es)
  edited_at-cut end key None [] cut = refl
  edited_at-cut end key None (e ∷ es) cut = grind (arith, nat_tests, edited_at-cut end key None es cut)
  edited_at-cut end key (Some x) [] cut = grind (arith, nat_tests)
  edited_at-cut end key (Some x) (e ∷ es) cut = grind (arith, nat_tests, edited_at-cut end key (Some x) es cut)

  pub below-below : (end bound : ℕ) (es : List (ℕ × X)) → end ≤ bound → below end es ≡ below end (below bound es)
  below-below end bound [] le = refl
  below-below end bound (e ∷ es) le = grind (arith, nat_tests, below-below end bound es le)

  -- a change that leaves what stands below the end
  pub edited_below-same : (end : ℕ) (edits : List (ℕ × Option X)) (es fs : List (ℕ × X)) → below end es ≡ below end fs → edited_below end edits es ≡ edited_below end edits fs
  edited_below-same end edits es fs same = ap (λ l. edited (below end edits) l) same

  -- a merge, of which the end leaves the left half
  pub edited_below-left : (end separator : ℕ) (edits : List (ℕ × Option X)) (left right : List (ℕ × X)) → end ≤ separator → below end (below separator left ++ from separator right) ≡ below end left
  edited_below-left end separator edits [] [] le = refl
  edited_below-left end separator edits [] (r ∷ right) le = grind (arith, nat_tests, edited_below-left end separator edits [] right le)
  edited_below-left end separator edits (l ∷ left) right le = grind (arith, nat_tests, edited_below-left end separator edits left right le)

  -- a merge, of which it reaches into the right half
  pub edited_below-joined : (low past end separator : ℕ) (edits : List (ℕ × Option X)) (left right : List (ℕ × X)) → low ≤ separator → separator < end → end ≤ past → past ≤ key_count
      → falls low key_count edits ≡ true → rises low separator left ≡ true → rises separator past right ≡ true
      → edited_below end edits (below separator left ++ from separator right) ≡ edited_below separator edits left ++ edited_below end (from separator edits) right
  edited_below-joined low past end separator edits left right le inside reach among f lower upper =
      let left_half = edited_below separator edits left in
      let right_half = edited_below end (from separator edits) right in
      let left_rises : rises low separator left_half ≡ true = rises-edited_below low separator key_count separator edits left f lower in
      let right_falls : falls separator key_count (from separator edits) ≡ true = falls-from low key_count separator edits f in
      let right_rises : rises separator end right_half ≡ true = rises-edited_below separator past key_count end (from separator edits) right right_falls upper in
      let parts : below separator left ++ from separator right ≡ left ++ right = rw (below_all low separator left lower, from_all past separator separator right (omega arith) upper) refl in
      let whole_rises : rises low past (left ++ right) ≡ true = rises-append past low separator left right le (omega arith) lower upper in
      let halves : below separator left_half ++ from separator right_half ≡ left_half ++ right_half = rw (below_all low separator left_half left_rises, from_all end separator separator right_half (omega arith) right_rises) refl in
      same_entries low end _ _
      (rises-edited_below low past key_count end edits (below separator left ++ from separator right) f (rw parts whole_rises))
      (rises-append end low separator left_half right_half le inside left_rises right_rises)
      (λ q. each q ∙ ap (at q) halves)
    where
      each : (q : ℕ) → at q (edited_below end edits (below separator left ++ from separator right)) ≡ at q (below separator (edited_below separator edits left) ++ from separator (edited_below end (from separator edits) right))
      each q = grind (
        arith,
        at-edited_below_in end q edits (below separator left ++ from separator right),
        at-edited_below_out end q edits (below separator left ++ from separator right),
        at-joined_left separator q left right,
        at-joined_right separator q left right,
        at-joined_left separator q (edited_below separator edits left) (edited_below end (from separator edits) right),
        at-joined_right separator q (edited_below separator edits left) (edited_below end (from separator edits) right),
        at-edited_below_in separator q edits left,
        at-edited_below_in end q (from separator edits) right,
        at-edited_below_out end q (from separator edits) right,
        at-from_in separator q edits,
      )

  -- the edits after those of greater keys, and the one with the least key first
  pub edited-snoc : (edits : List (ℕ × Option X)) (e : ℕ × Option X) (es : List (ℕ × X)) → edited (edits ++ e ∷ []) es ≡ edited edits (edited_at e.0 e.1 es)
  edited-snoc [] e es = refl
  edited-snoc (d ∷ edits) e es = ap (λ l. edited_at d.0 d.1 l) (edited-snoc edits e es)

  put-append : (low bound key : ℕ) (x : X) (es fs : List (ℕ × X)) → bound ≤ key → rises low bound es ≡ true → put key x (es ++ fs) ≡ es ++ put key x fs
  put-append low bound key x [] fs le h = refl
  put-append low bound key x (e ∷ es) fs le h = grind (arith, nat_tests, put-append (e.0 + 1) bound key x es fs le)

  without-append : (low bound key : ℕ) (es fs : List (ℕ × X)) → bound ≤ key → rises low bound es ≡ true → without key (es ++ fs) ≡ es ++ without key fs
  without-append low bound key [] fs le h = refl
  without-append low bound key (e ∷ es) fs le h = grind (arith, nat_tests, without-append (e.0 + 1) bound key es fs le)

  edited_at-append : (low bound key : ℕ) (x : Option X) (es fs : List (ℕ × X)) → bound ≤ key → rises low bound es ≡ true → edited_at key x (es ++ fs) ≡ es ++ edited_at key x fs
  edited_at-append low bound key (Some x) es fs le h = put-append low bound key x es fs le h
  edited_at-append low bound key None es fs le h = without-append low bound key es fs le h

  -- edits leave the entries before them
  pub edited-append : (low bound end : ℕ) (edits : List (ℕ × Option X)) (es fs : List (ℕ × X)) → falls bound end edits ≡ true → rises low bound es ≡ true → edited edits (es ++ fs) ≡ es ++ edited edits fs
  edited-append low bound end [] es fs f h = refl
  edited-append low bound end (e ∷ edits) es fs f h =
      let le : bound ≤ e.0 = grind (arith, nat_tests) in
      let rest : falls bound e.0 edits ≡ true = grind (arith, nat_tests) in
      ap (λ l. edited_at e.0 e.1 l) (edited-append low bound e.0 edits es fs rest h) ∙ edited_at-append low bound e.0 e.1 es (edited edits fs) le h

  -- one edit parts the entries at its key
  pub edited_at-parts : (low end key : ℕ) (x : Option X) (es : List (ℕ × X)) → rises low end es ≡ true → edited_at key x es ≡ below key es ++ entry_of key x ++ from (key + 1) es
  edited_at-parts low end key (Some x) [] h = refl
  edited_at-parts low end key None [] h = refl
  edited_at-parts low end key (Some x) (e ∷ es) h = grind (arith, nat_tests, edited_at-parts (e.0 + 1) end key (Some x) es, below_low (e.0 + 1) end key es, from_all end (e.0 + 1) key es, from_all end (e.0 + 1) (key + 1) es)
  edited_at-parts low end key None (e ∷ es) h = grind (arith, nat_tests, edited_at-parts (e.0 + 1) end key None es, below_low (e.0 + 1) end key es, from_all end (e.0 + 1) (key + 1) es)

  pub before_rises : (low end key : ℕ) (x : Option X) (es : List (ℕ × X)) → rises low end es ≡ true → low ≤ key → rises low (key + 1) (below key es ++ entry_of key x) ≡ true
  before_rises low end key None es h le = rises-higher low key (key + 1) _ (omega arith) (rw append-nil (rises-below end low key es h))
  before_rises low end key (Some x) es h le =
      rises-append (key + 1) low key (below key es) (entry_of key (Some x)) le (omega arith) (rises-below end low key es h) (grind (arith, nat_tests))

  -- entries that rise go on rising after a key
  pub ascending-from : (bound : ℕ) (es : List (ℕ × X)) → IsAscending es → IsAscending (from bound es)
  ascending-from bound es h = rises-lower key_count 0 bound (from bound es) (omega arith) (rises-from key_count 0 bound es h)

  pub ascending-below : (bound : ℕ) (es : List (ℕ × X)) → bound ≤ key_count → IsAscending es → IsAscending (below bound es)
  ascending-below bound es le h = rises-higher 0 bound key_count (below bound es) le (rises-below key_count 0 bound es h)

  pub falls-front : (low end : ℕ) (es : List (ℕ × X)) (e : ℕ × X) → falls low end (es ++ e ∷ []) ≡ true → falls low end es ≡ true
  falls-front low end [] e f = refl
  falls-front low end (d ∷ es) e f = grind (arith, nat_tests, falls-front low d.0 es e)

  -- edits that two ends leave, one after the other
  pub from-both : (end past : ℕ) (es : List (ℕ × X)) → end ≤ past → from past (from end es) ≡ from past es
  from-both end past [] le = refl
  from-both end past (e ∷ es) le = grind (arith, nat_tests, from-both end past es)

  pub length-from : (bound : ℕ) (es : List (ℕ × X)) → length (from bound es) ≤ length es
  length-from bound [] = omega arith
  length-from bound (e ∷ es) = grind (arith, nat_tests, length-from bound es)
