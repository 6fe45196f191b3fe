-- Paths whose parts are equal one by one are the same path.
use Rattle.std.proofs.Common.{◌≡◌, true, List, [], ◌∷◌, ◌++◌, map, length, take, drop, refl, sym, ap, ◌∙◌}
use Rattle.std.proofs.lemmas.Bool.{and_parts, false≢true, eqb-true}
use Rattle.std.proofs.lemmas.List.{take-append-drop, map-append}
use Rattle.std.specs.Cmp.Lexicographic.{pointwise, same_text}
use Rattle.referencing.specs.Path.{Part, Key, Index, part_eq}

part_same : (p q : Part) → part_eq p q ≡ true → p ≡ q
part_same (Key k) (Key m) e = ap Key (same_text k m (sym e))
part_same (Key k) (Index j) e = absurd (false≢true e)
part_same (Index i) (Key m) e = absurd (false≢true e)
part_same (Index i) (Index j) e = ap Index (eqb-true i j e)

parts_same : {S : Type 0} (part : S → Part) (xs ys : List S) → pointwise (λ a b. part_eq (part a) (part b)) xs ys ≡ true → map part xs ≡ map part ys
parts_same part [] [] e = refl
parts_same part [] (y ∷ ys) e = absurd (false≢true e)
parts_same part (x ∷ xs) [] e = absurd (false≢true e)
parts_same part (x ∷ xs) (y ∷ ys) e =
    let parts = and_parts (part_eq (part x) (part y)) (pointwise (λ a b. part_eq (part a) (part b)) xs ys) e in
    ap (λ p. p ∷ map part xs) (part_same (part x) (part y) parts.0) ∙ ap (λ ps. part y ∷ ps) (parts_same part xs ys parts.1)

-- a path that begins with another is that other and the rest
pub goes_on : {S : Type 0} (part : S → Part) (path before rest : List S) → pointwise (λ a b. part_eq (part a) (part b)) (take (length before) path) before ≡ true
    → rest ≡ drop (length before) path → map part path ≡ map part before ++ map part rest
goes_on part path before rest begins is =
    ap (map part) (sym (take-append-drop (length before) path))
    ∙ map-append part (take (length before) path) (drop (length before) path)
    ∙ ap (λ ps. ps ++ map part (drop (length before) path)) (parts_same part (take (length before) path) before begins)
    ∙ ap (λ r. map part before ++ map part r) (sym is)
