-- Lists to which others are appended.
use Rattle.std.proofs.Common.{◌≡◌, ℕ, List, ◌++◌, length, append_assoc, ap, ◌∙◌}
use Rattle.std.specs.List.{zip}

module _ {Y : Type 0} where
  pub appended_twice : (old middle new es fs : List Y) → middle ≡ old ++ es → new ≡ middle ++ fs → new ≡ old ++ (es ++ fs)
  appended_twice old middle new es fs first second = second ∙ ap (λ l. l ++ fs) first ∙ append_assoc old es fs

-- keys and as many values become those of more entries
abbrev pub GoOn : {X : Type 0} → List ℕ → List X → List (ℕ × X) → List ℕ → List X → Type 0
GoOn keys values es more_keys more_values =
    length values ≡ length keys → (length more_values ≡ length more_keys) × (zip more_keys more_values ≡ zip keys values ++ es)

pub go_on_twice : {X : Type 0} → (keys : List ℕ) (values : List X) (keys' : List ℕ) (values' : List X) (keys'' : List ℕ) (values'' : List X) (es fs : List (ℕ × X)) → GoOn keys values es keys' values' → GoOn keys' values' fs keys'' values'' → GoOn keys values (es ++ fs) keys'' values''
go_on_twice keys values keys' values' keys'' values'' es fs first second even =
    let one = first even in
    let two = second one.0 in
    (two.0, appended_twice (zip keys values) (zip keys' values') (zip keys'' values'') es fs one.1 two.1)
