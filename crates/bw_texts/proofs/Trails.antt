-- What one more row adds to the trails and the pairs of a history.
use Rattle.std.proofs.Common.{◌≡◌, ◌≤◌, ◌<◌, ◌+◌, ◌-◌, ◌^◌, ◌∙◌, ◌++◌, ◌∷◌, ◌==◌, [], ℕ, zero, suc, List, length, map, max, set, true, false, cond, refl, sym, ap, arith, slice_index_or, IsTrue, nat_lt, nat_le, unwrap_or, Bool, Option, Result, length-set}
use Rattle.std.proofs.lemmas.Bool.Decides.{nat_tests}
use Rattle.std.proofs.lemmas.List.{append-nil, map-set, get_or-map, length-map}
use Rattle.std.specs.List.{slice_get}
use Rattle.bw_delta.specs.Entries.{last_entry, rises}
use Rattle.bw_step.specs.declared.receipt.Receipt.{Receipt}
use Rattle.bw_texts.specs.declared.history.line.Line.{Line}
use Rattle.bw_texts.specs.declared.part.Part.{Part}
use Rattle.bw_texts.specs.declared.history.line.Line.TheVariants.{Reply, Pair}
use Rattle.bw_texts.specs.Lines.{history_line, is_above, last_key, line_of, pairs_of, trail_of, workers_named}
use Rattle.bw_texts.specs.Histories.{AddsLine, AddsReceipt, AreTrailsOf, added}

pub last_entry_is : (ys : List (ℕ × ℕ)) → slice_get ys (length ys - 1) ≡ last_entry ys
last_entry_is [] = refl
last_entry_is (y ∷ []) = refl
last_entry_is (x ∷ y ∷ ys) =
    let one_less : length (x ∷ y ∷ ys) - 1 ≡ suc (length (y ∷ ys) - 1) = omega arith in
    rw (one_less, last_entry_is (y ∷ ys)) refl

-- an empty trail at the end changes no trail
pub padded : (xs : List (List Receipt)) (w : ℕ) → slice_index_or (xs ++ [] ∷ []) w [] ≡ slice_index_or xs w []
padded [] zero = refl
padded [] (suc w) = refl
padded (x ∷ xs) zero = refl
padded (x ∷ xs) (suc w) = padded xs w

-- a trail that gets one more receipt
pub lengthened : (xs : List (List Receipt)) (named : ℕ) (receipt : Receipt) (worker : ℕ) → named < length xs
    → slice_index_or (set xs named (slice_index_or xs named [] ++ receipt ∷ [])) worker [] ≡ slice_index_or xs worker [] ++ added named receipt worker
lengthened [] named receipt worker h = absurd (omega arith)
lengthened (x ∷ xs) zero receipt zero h = refl
lengthened (x ∷ xs) zero receipt (suc worker) h =
    let other : (0 == suc worker) ≡ false = grind (arith, nat_tests) in
    rw other (sym (append-nil (slice_index_or xs worker [])))
lengthened (x ∷ xs) (suc named) receipt zero h =
    let other : (suc named == 0) ≡ false = grind (arith, nat_tests) in
    rw other (sym (append-nil x))
lengthened (x ∷ xs) (suc named) receipt (suc worker) h =
    let same : (named == worker) ≡ (suc named == suc worker) = grind (arith, nat_tests) in
    lengthened xs named receipt worker (omega arith) ∙ ap (λ b. slice_index_or xs worker [] ++ cond b (receipt ∷ []) []) same

cond_more : (b : Bool) (own : Receipt) (xs ys more : List Receipt) → xs ≡ ys ++ more → cond b (own ∷ xs) xs ≡ cond b (own ∷ ys) ys ++ more
cond_more true own xs ys more e = ap (λ t. own ∷ t) e
cond_more false own xs ys more e = e

trail_more : (worker : ℕ) (lines : List Line) (named : ℕ) (receipt : Receipt) → trail_of worker (lines ++ Reply named receipt ∷ []) ≡ trail_of worker lines ++ added named receipt worker
trail_more worker [] named receipt = refl
trail_more worker (Reply first own ∷ lines) named receipt = cond_more (first == worker) own _ _ _ (trail_more worker lines named receipt)
trail_more worker (Pair key value ∷ lines) named receipt = trail_more worker lines named receipt

trail_same : (worker : ℕ) (lines : List Line) (key value : ℕ) → trail_of worker (lines ++ Pair key value ∷ []) ≡ trail_of worker lines
trail_same worker [] key value = refl
trail_same worker (Reply first own ∷ lines) key value = ap (λ t. cond (first == worker) (own ∷ t) t) (trail_same worker lines key value)
trail_same worker (Pair k v ∷ lines) key value = trail_same worker lines key value

named_more : (lines : List Line) (named : ℕ) (receipt : Receipt) → workers_named (lines ++ Reply named receipt ∷ []) ≡ max (workers_named lines) (named + 1)
named_more [] named receipt = omega arith
named_more (Reply first own ∷ lines) named receipt = let h = named_more lines named receipt in omega arith
named_more (Pair k v ∷ lines) named receipt = named_more lines named receipt

named_same : (lines : List Line) (key value : ℕ) → workers_named (lines ++ Pair key value ∷ []) ≡ workers_named lines
named_same [] key value = refl
named_same (Reply first own ∷ lines) key value = ap (λ n. max (first + 1) n) (named_same lines key value)
named_same (Pair k v ∷ lines) key value = named_same lines key value

pairs_more : (lines : List Line) (key value : ℕ) → pairs_of (lines ++ Pair key value ∷ []) ≡ pairs_of lines ++ (key, value) ∷ []
pairs_more [] key value = refl
pairs_more (Reply first own ∷ lines) key value = pairs_more lines key value
pairs_more (Pair k v ∷ lines) key value = ap (λ t. (k, v) ∷ t) (pairs_more lines key value)

pairs_same : (lines : List Line) (named : ℕ) (receipt : Receipt) → pairs_of (lines ++ Reply named receipt ∷ []) ≡ pairs_of lines
pairs_same [] named receipt = refl
pairs_same (Reply first own ∷ lines) named receipt = pairs_same lines named receipt
pairs_same (Pair k v ∷ lines) named receipt = ap (λ t. (k, v) ∷ t) (pairs_same lines named receipt)

-- a row that is read after a list of pairs is read after the rows with these pairs
pub read_after : (r : Result Line Part) (last : Option ℕ) (now pairs : List (ℕ × ℕ)) (lines : List Line) (fields : List (List ℕ))
    → r ≡ line_of last fields → last ≡ last_key now → now ≡ pairs → pairs ≡ pairs_of lines → r ≡ history_line lines fields
read_after r last now pairs lines fields e is_last is_now are = e ∙ ap (λ key. line_of key fields) (is_last ∙ ap last_key (is_now ∙ are))

-- trails and pairs after one more row are those of the rows with it
pub line_added : (trails trails2 : List (List Receipt)) (pairs pairs2 : List (ℕ × ℕ)) (lines : List Line) (line : Line)
    → AddsLine trails trails2 pairs pairs2 line → AreTrailsOf trails lines → pairs ≡ pairs_of lines
    → AreTrailsOf trails2 (lines ++ line ∷ []) × (pairs2 ≡ pairs_of (lines ++ line ∷ []))
line_added trails trails2 pairs pairs2 lines (Reply worker receipt) adds are same = (
  record {
    count = adds.0.count ∙ (ap (λ n. max n (worker + 1)) are.count ∙ sym (named_more lines worker receipt));
    each = λ w. adds.0.each w ∙ (ap (λ t. t ++ added worker receipt w) (are.each w) ∙ sym (trail_more w lines worker receipt));
  },
  adds.1 ∙ (same ∙ sym (pairs_same lines worker receipt)),
)
line_added trails trails2 pairs pairs2 lines (Pair key value) adds are same = (
  record {
    count = ap length adds.0 ∙ (are.count ∙ sym (named_same lines key value));
    each = λ w. ap (λ t. slice_index_or t w []) adds.0 ∙ (are.each w ∙ sym (trail_same w lines key value));
  },
  adds.1 ∙ (ap (λ t. t ++ (key, value) ∷ []) same ∙ sym (pairs_more lines key value)),
)

below_last : (low : ℕ) (p : ℕ × ℕ) (pairs : List (ℕ × ℕ)) → rises low (2 ^ 64) (p ∷ pairs) ≡ true → low ≤ (unwrap_or (last_entry pairs) p).0
below_last low p [] h = grind (arith, nat_tests)
below_last low p (q ∷ pairs) h =
    let first : low ≤ p.0 = grind (arith, nat_tests) in
    let rest : rises (p.0 + 1) (2 ^ 64) (q ∷ pairs) ≡ true = grind (arith, nat_tests) in
    let last = below_last (p.0 + 1) q pairs rest in
    omega arith

-- pairs that rise still do with one more above the last
pub rises_on : (low : ℕ) (pairs : List (ℕ × ℕ)) (key value : ℕ) → rises low (2 ^ 64) pairs ≡ true → low ≤ key → key < 2 ^ 64
    → IsTrue (is_above (last_key pairs) key) → rises low (2 ^ 64) (pairs ++ (key, value) ∷ []) ≡ true
rises_on low [] key value h le fits above = grind (arith, nat_tests)
rises_on low (p ∷ []) key value h le fits above = grind (arith, nat_tests)
rises_on low (p ∷ q ∷ pairs) key value h le fits above =
    let first : low ≤ p.0 = grind (arith, nat_tests) in
    let small : p.0 < 2 ^ 64 = grind (arith, nat_tests) in
    let rest : rises (p.0 + 1) (2 ^ 64) (q ∷ pairs) ≡ true = grind (arith, nat_tests) in
    let last = below_last (p.0 + 1) q pairs rest in
    let greater : (unwrap_or (last_entry pairs) q).0 < key = grind (arith, nat_tests) in
    let on = rises_on (p.0 + 1) (q ∷ pairs) key value rest (omega arith) fits above in
    let a : nat_le low p.0 ≡ true = grind (arith, nat_tests) in
    let b : nat_lt p.0 (2 ^ 64) ≡ true = grind (arith, nat_tests) in
    rw (a, b) on

-- a trail is filled up to, and gets one more receipt
pub receipt_added : {V : Type 0} (texts : V → List Receipt) (old filled : List V) (named : ℕ) (trail had : V) (receipt : Receipt) → named < length filled
    → texts trail ≡ texts (slice_index_or filled named had) ++ receipt ∷ [] → length filled ≡ max (length old) (named + 1)
    → ((worker : ℕ) → slice_index_or (map texts filled) worker [] ≡ slice_index_or (map texts old) worker [])
    → AddsReceipt (map texts old) (map texts (set filled named trail)) named receipt
receipt_added texts old filled named trail had receipt h is_trail count same = record {
  count = simp (length-map, length-set) count;
  each = λ worker.
      let there : slice_index_or (map texts filled) named [] ≡ texts (slice_index_or filled named had) = get_or-map texts filled named had [] h in
      let inside : named < length (map texts filled) = simp length-map h in
      rw (map-set texts filled named trail, is_trail, ← there) (lengthened (map texts filled) named receipt worker inside
      ∙ ap (λ t. t ++ added named receipt worker) (same worker));
}
