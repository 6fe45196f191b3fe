-- The law of hashing that the impls of lists keep: an impl may cite what is in specs alone.
use Rattle.std.specs.Prelude.{◌≡◌, Bool, true, List, [], ◌∷◌, ◌++◌, flat_map, refl}
use Rattle.std.specs.Hash.{HashWrites}
use Rattle.std.specs.Cmp.Lexicographic.{pointwise}
use Rattle.std.proofs.Common.{ap, ◌∙◌}
use Rattle.std.proofs.lemmas.Bool.{and_parts, false≢true}

-- lists whose items are equal feed a hasher alike, where equal items do
pub feeds_alike : {T : Type 0} {E : T → T → Bool} {F : T → HashWrites}
    → ((x y : T) → E x y ≡ true → F x ≡ F y) → (xs ys : List T) → pointwise E xs ys ≡ true
    → flat_map F xs ≡ flat_map F ys
feeds_alike h [] [] e = refl
feeds_alike h [] (y ∷ ys) e = absurd (false≢true e)
feeds_alike h (x ∷ xs) [] e = absurd (false≢true e)
feeds_alike {E = E} {F = F} h (x ∷ xs) (y ∷ ys) e =
    let parts = and_parts (E x y) (pointwise E xs ys) e in
    ap (λ w. w ++ flat_map F xs) (h x y parts.0) ∙ ap (λ w. F y ++ w) (feeds_alike h xs ys parts.1)
