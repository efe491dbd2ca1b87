-- Parts of a page.
use Rattle.std.proofs.Common.{◌≡◌, ℕ, ◌+◌, ◌-◌, ◌^◌, ◌<◌, ◌≤◌, ◌⊎◌, List, [], ◌∷◌, ◌++◌, append_assoc, take, get_or, length, flat_map, codes, sym, ◌∙◌, ap, subst, arith}
use Rattle.std.specs.Prelude.{min, nat_lt, ◌&&◌, if◌then◌else◌}
use Rattle.std.proofs.lemmas.List.{flat_map_more, take_more}
use Rattle.std.specs.String.{string_bytes}
use Rattle.std.proofs.lemmas.Bool.Decides.{nat_tests}
use Rattle.bw_film.specs.declared.frame.Frame.{Frame}
use Rattle.bw_film.specs.Pages.{attribute_text, attributes_text, cut_text, span_between, whole_text}

-- what is appended after what was appended
pub behind : (p a b x y : List ℕ) → x ≡ p ++ a → y ≡ x ++ b → y ≡ p ++ (a ++ b)
behind p a b x y first more = more ∙ ap (λ l. l ++ b) first ∙ append_assoc {A = ℕ} p a b

-- the text of one element more
pub each_more : {X : Type 0} (f : X → List ℕ) (xs : List X) (i : ℕ) (x : X) (p q r : List ℕ) → i < length xs → x ≡ get_or xs i x → q ≡ p ++ flat_map f (take i xs) → r ≡ q ++ f x → r ≡ p ++ flat_map f (take (i + 1) xs)
each_more f xs i x p q r inside at before more =
    more ∙ ap (λ l. l ++ f x) before ∙ flat_map_more f p (take i xs) x ∙ ap (λ l. p ++ flat_map f l) (ap (λ y. take i xs ++ y ∷ []) at ∙ sym (take_more xs i x inside))

-- the texts of a frame, one after the other
pub texts : (frame : Frame) (p x y z w told row note : List ℕ) → told ≡ string_bytes frame.told → row ≡ string_bytes frame.row → note ≡ string_bytes frame.note
    → x ≡ p ++ attribute_text (codes "told") told → y ≡ x ++ attribute_text (codes "proved") frame.proved.now → z ≡ y ++ attribute_text (codes "row") row → w ≡ z ++ attribute_text (codes "note") note
    → w ≡ p ++ attributes_text frame
texts frame p x y z w told row note is_told is_row is_note first second third fourth =
    let a = attribute_text (codes "told") (string_bytes frame.told) in
    let b = attribute_text (codes "proved") frame.proved.now in
    let c = attribute_text (codes "row") (string_bytes frame.row) in
    let d = attribute_text (codes "note") (string_bytes frame.note) in
    let one = first ∙ ap (λ t. p ++ attribute_text (codes "told") t) is_told in
    let three = third ∙ ap (λ t. y ++ attribute_text (codes "row") t) is_row in
    let four = fourth ∙ ap (λ t. z ++ attribute_text (codes "note") t) is_note in
    behind p ((a ++ b) ++ c) d z w (behind p (a ++ b) c y z (behind p a b x y one second) three) four

both : {A : Type 0} (a b c d : ℕ) (x y : A) → a < b → c < d → (if nat_lt a b && nat_lt c d then x else y) ≡ x
both a b c d x y h k = grind (arith, nat_tests)

not_both : {A : Type 0} (a b c d : ℕ) (x y : A) → ((a < b) × (d ≤ c)) ⊎ (b ≤ a) → (if nat_lt a b && nat_lt c d then x else y) ≡ y
not_both a b c d x y h = grind (arith, nat_tests)

-- a page that is cut tells where it goes on
pub cut : (first last moments to next : ℕ) → next ≡ min (last + 1) (2 ^ 64 - 1) → next < moments → last < to → cut_text first last moments next ≡ span_between first last moments to
cut first last moments to next is more before =
    let after = min (last + 1) (2 ^ 64 - 1) in
    ap (cut_text first last moments) is
    ∙ sym (both after moments last to (cut_text first last moments after) (whole_text first last moments) (subst (λ k. k < moments) is more) before)

pub whole : (first last moments to next : ℕ) → next ≡ min (last + 1) (2 ^ 64 - 1) → ((next < moments) × (to ≤ last)) ⊎ (moments ≤ next) → whole_text first last moments ≡ span_between first last moments to
whole first last moments to next is why =
    let after = min (last + 1) (2 ^ 64 - 1) in
    sym (not_both after moments last to (cut_text first last moments after) (whole_text first last moments) (subst (λ k. ((k < moments) × (to ≤ last)) ⊎ (moments ≤ k)) is why))

-- four texts, one after the other
pub four : (p a b c d x y z w : List ℕ) → x ≡ p ++ a → y ≡ x ++ b → z ≡ y ++ c → w ≡ z ++ d → w ≡ p ++ (((a ++ b) ++ c) ++ d)
four p a b c d x y z w first second third fourth = behind p ((a ++ b) ++ c) d z w (behind p (a ++ b) c y z (behind p a b x y first second) third) fourth

-- five texts, one after the other
pub five : (p a b c d e x y z w v : List ℕ) → x ≡ p ++ a → y ≡ x ++ b → z ≡ y ++ c → w ≡ z ++ d → v ≡ w ++ e → v ≡ p ++ ((((a ++ b) ++ c) ++ d) ++ e)
five p a b c d e x y z w v first second third fourth fifth = behind p (((a ++ b) ++ c) ++ d) e w v (four p a b c d x y z w first second third fourth) fifth
