-- Keys and values that are written in place, cut, and appended to.
use Rattle.std.proofs.Common.{◌≡◌, ℕ, List, ◌++◌, length, length-append, take, refl, ap, sym, ◌∙◌, arith}
use Rattle.std.specs.List.{zip}
use Rattle.bw_delta.proofs.Zips.{take-zip, even-take, zip-append}

module _ {X : Type 0} (keys : List ℕ) (values : List X) (grown : List ℕ) (filled : List X) (written : List ℕ) (its : List X) (rest : List ℕ) (last : List X) (start end : ℕ) where
  pub lists_go_on : (es : List (ℕ × X)) → take start grown ≡ keys → take start filled ≡ values → length its ≡ length written → length last ≡ length rest
      → take end (zip written its) ++ zip rest last ≡ take start (zip grown filled) ++ es
      → (length (take end its ++ last) ≡ length (take end written ++ rest)) × (zip (take end written ++ rest) (take end its ++ last) ≡ zip keys values ++ es)
  lists_go_on es is_keys is_values even more is =
      let cut = even-take end written its even in (
        omega (arith, cut, more, length-append (take end its) last, length-append (take end written) rest),
        zip-append (take end written) rest (take end its) last cut
            ∙ ap (λ l. l ++ zip rest last) (take-zip end written its)
            ∙ is
            ∙ ap (λ l. l ++ es) (sym (take-zip start grown filled) ∙ rw (is_keys, is_values) refl),
      )
