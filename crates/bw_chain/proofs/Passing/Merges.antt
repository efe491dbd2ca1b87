-- The last of falling edits, which has the least key, and the entries at whose front it is made.
use Rattle.std.proofs.Common.{◌≡◌, ℕ, ◌+◌, ◌≤◌, true, List, [], ◌∷◌, ◌++◌, length, length-append, take, drop, append_assoc, refl, ap, sym, ◌∙◌, arith}
use Rattle.std.specs.Prelude.{Option, Some, None}
use Rattle.std.proofs.lemmas.Bool.Decides.{nat_tests}
use Rattle.std.proofs.lemmas.List.{length-drop}
use Rattle.bw_keys.specs.Ranges.{key_count}
use Rattle.bw_delta.specs.Entries.{rises, below, from}
use Rattle.bw_delta.proofs.Rises.{rises-lower}
use Rattle.bw_chain.specs.Ascends.{IsAscending}
use Rattle.bw_chain.specs.Passing.Edited.{IsFalling, edited, entry_of, falls, put_count, puts}
use Rattle.bw_chain.proofs.Passing.Passes.{falls-snoc, edited-snoc, edited_at-parts, edited-append, before_rises, from-both, length-from}

module _ {X : Type 0} where
  pub put_count-snoc : (edits : List (ℕ × Option X)) (e : ℕ × Option X) → put_count (edits ++ e ∷ []) ≡ put_count edits + puts e.1
  put_count-snoc [] e = omega arith
  put_count-snoc (d ∷ edits) e = omega (arith, put_count-snoc edits e)

  -- the entries before a key go on rising
  pub rises-kept : (low end bound : ℕ) (es : List (ℕ × X)) → rises low end es ≡ true → rises low end (below bound es) ≡ true
  rises-kept low end bound [] h = refl
  rises-kept low end bound (e ∷ es) h = grind (arith, nat_tests, rises-kept (e.0 + 1) end bound es, rises-lower end low (e.0 + 1) (below bound es))

  pub puts-few : (edit : Option X) → puts edit ≤ 1
  puts-few (Some x) = omega arith
  puts-few None = omega arith

  -- the edit is made at its place, and those of greater keys after it
  pub edited-last : (edits greater : List (ℕ × Option X)) (e : ℕ × Option X) (es : List (ℕ × X)) → edits ≡ greater ++ e ∷ [] → IsFalling edits → IsAscending es
      → edited edits es ≡ (below e.0 es ++ entry_of e.0 e.1) ++ edited greater (from (e.0 + 1) es)
  edited-last edits greater e es is f h =
      let left : falls (e.0 + 1) key_count greater ≡ true = falls-snoc 0 key_count greater e (rw is at f) in
      ap (λ l. edited l es) is
      ∙ edited-snoc greater e es
      ∙ ap (edited greater) (edited_at-parts 0 key_count e.0 e.1 es h)
      ∙ edited-append 0 (e.0 + 1) key_count greater (below e.0 es ++ entry_of e.0 e.1) (from (e.0 + 1) es) left (before_rises 0 key_count e.0 e.1 es h (omega arith))

  length-entry_of : (key : ℕ) (edit : Option X) → length (entry_of key edit) ≡ puts edit
  length-entry_of key (Some x) = refl
  length-entry_of key None = refl

  -- so they are as many as those before its key, after it, and its own if it puts one
  pub length-edited-last : (edits greater : List (ℕ × Option X)) (e : ℕ × Option X) (es : List (ℕ × X)) → edits ≡ greater ++ e ∷ [] → IsFalling edits → IsAscending es
      → length (edited edits es) ≡ length (below e.0 es) + puts e.1 + length (edited greater (from (e.0 + 1) es))
  length-edited-last edits greater e es is f h =
      let own = entry_of e.0 e.1 in
      let rest = edited greater (from (e.0 + 1) es) in
      omega (arith, ap length (edited-last edits greater e es is f h), length-append (below e.0 es ++ own) rest, length-append (below e.0 es) own, length-entry_of e.0 e.1)

  pub merge_step : (list copied : List (ℕ × X)) (end count : ℕ) (edits greater : List (ℕ × Option X)) (e : ℕ × Option X) (rest : List (ℕ × X)) → edits ≡ greater ++ e ∷ [] → IsFalling edits → IsAscending rest
      → below e.0 rest ≡ take count rest → take (end + count) copied ≡ take end list ++ take count rest
      → (take (end + count) copied ++ entry_of e.0 e.1) ++ edited greater (from (e.0 + 1) rest) ≡ take end list ++ edited edits rest
  merge_step list copied end count edits greater e rest is f h before written =
      let tail = edited greater (from (e.0 + 1) rest) in
      let copies : take (end + count) copied ≡ take end list ++ below e.0 rest = written ∙ ap (λ l. take end list ++ l) (sym before) in
      ap (λ l. (l ++ entry_of e.0 e.1) ++ tail) copies
      ∙ ap (λ l. l ++ tail) (append_assoc (take end list) (below e.0 rest) (entry_of e.0 e.1))
      ∙ append_assoc (take end list) (below e.0 rest ++ entry_of e.0 e.1) tail
      ∙ ap (λ l. take end list ++ l) (sym (edited-last edits greater e rest is f h))

  pub merge_room : (count : ℕ) (edits greater : List (ℕ × Option X)) (e : ℕ × Option X) (rest : List (ℕ × X)) → edits ≡ greater ++ e ∷ [] → count ≤ length rest → from e.0 rest ≡ drop count rest
      → count + puts e.1 + length (from (e.0 + 1) rest) + put_count greater ≤ length rest + put_count edits
  merge_room count edits greater e rest is within after =
      let counted : put_count edits ≡ put_count greater + puts e.1 = ap put_count is ∙ put_count-snoc greater e in
      let both = from-both e.0 (e.0 + 1) rest (omega arith) in
      let fewer : length (from (e.0 + 1) rest) ≤ length (from e.0 rest) = rw both at (length-from (e.0 + 1) (from e.0 rest)) in
      omega (arith, counted, fewer, ap length after, length-drop count rest, within)
