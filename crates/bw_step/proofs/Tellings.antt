-- What lists of receipts report.
use Rattle.std.proofs.Common.{◌≡◌, List, [], ◌∷◌, ◌++◌, refl, ap, sym, ◌∙◌, append_assoc}
use Rattle.bw_step.specs.declared.receipt.Receipt.{Receipt}
use Rattle.bw_step.specs.Tellings.{Telling, change, look, shape, telling_of, Reported, reported_by, reported_in, unless_shape, without_shapes}

-- two lists report what the one does and then what the other does
pub reported_in-append : (xs ys : List Receipt) → reported_in (xs ++ ys) ≡ reported_in xs ++ reported_in ys
reported_in-append [] ys = refl
reported_in-append (x ∷ xs) ys =
    ap (λ (l : List Reported). reported_by (telling_of x) ++ l) (reported_in-append xs ys) ∙ sym (append_assoc (reported_by (telling_of x)) (reported_in xs) (reported_in ys))

pub without_shapes-append : (xs ys : List Receipt) → without_shapes (xs ++ ys) ≡ without_shapes xs ++ without_shapes ys
without_shapes-append [] ys = refl
without_shapes-append (x ∷ xs) ys =
    ap (λ (l : List Receipt). unless_shape x (telling_of x) ++ l) (without_shapes-append xs ys)
    ∙ sym (append_assoc (unless_shape x (telling_of x)) (without_shapes xs) (without_shapes ys))

reported_unless_shape : (x : Receipt) (telling : Telling) (xs : List Receipt) → telling_of x ≡ telling → reported_in (unless_shape x telling ++ xs) ≡ reported_by telling ++ reported_in xs
reported_unless_shape x (change number key before after) xs is = ap (λ t. reported_by t ++ reported_in xs) is
reported_unless_shape x (look at key found) xs is = ap (λ t. reported_by t ++ reported_in xs) is
reported_unless_shape x shape xs is = refl

-- receipts of a changed shape report nothing
pub reported_in-without_shapes : (xs : List Receipt) → reported_in (without_shapes xs) ≡ reported_in xs
reported_in-without_shapes [] = refl
reported_in-without_shapes (x ∷ xs) =
    reported_unless_shape x (telling_of x) (without_shapes xs) (λ _. telling_of x) ∙ ap (λ (l : List Reported). reported_by (telling_of x) ++ l) (reported_in-without_shapes xs)
