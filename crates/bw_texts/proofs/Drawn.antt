-- One more drawn row, and the last of them.
use Rattle.std.proofs.Common.{◌≡◌, ◌+◌, ◌-◌, ◌<◌, ◌≤◌, ◌++◌, ℕ, suc, List, [], ◌∷◌, arith, ap, sym, ◌∙◌, append_assoc}
use Rattle.std.proofs.lemmas.List.{append-nil}
use Rattle.rand_pcg.specs.Lcg.{Lcg}
use Rattle.bw_texts.specs.declared.trace.row.Row.{Row}
use Rattle.bw_texts.specs.Made.{row_drawn, rows_drawn, two_words_on}

first_of_more : (workers span : ℕ) (random : Lcg) (number more less : ℕ) → more ≡ suc less
    → rows_drawn workers span random number more ≡ row_drawn workers span number random ∷ rows_drawn workers span (two_words_on random) (number + 1) less
first_of_more workers span random number more less e = ap (λ k. rows_drawn workers span random number k) e

pub drawn_more : (workers span : ℕ) (random next : Lcg) (number rows : ℕ) (made all whole : List Row) (row : Row) → number < rows
    → row ≡ row_drawn workers span number random → next ≡ two_words_on random → all ≡ made ++ row ∷ []
    → made ++ rows_drawn workers span random number (rows - number) ≡ whole → all ++ rows_drawn workers span next (number + 1) (rows - (number + 1)) ≡ whole
drawn_more workers span random next number rows made all whole row h is_row is_next is_all before =
    let e : rows - number ≡ suc (rows - (number + 1)) = omega arith in
    let first = first_of_more workers span random number (rows - number) (rows - (number + 1)) e in
    rw (is_all, append_assoc, is_row, is_next) (ap (λ t. made ++ t) (sym first) ∙ before)

pub all_drawn : (workers span : ℕ) (random : Lcg) (number rows : ℕ) (made whole : List Row) → rows ≤ number
    → made ++ rows_drawn workers span random number (rows - number) ≡ whole → made ≡ whole
all_drawn workers span random number rows made whole h before =
    let e : rows - number ≡ 0 = omega arith in
    sym (append-nil made) ∙ (ap (λ k. made ++ rows_drawn workers span random number k) (sym e) ∙ before)
