-- Names of dynamic anchors, each once.
use Rattle.std.proofs.Common.{◌≡◌, ℕ, ◌+◌, ◌<◌, List, [], ◌∷◌, ◌++◌, map, flat_map, take, length, get_or, refl, ap, sym, ◌∙◌}
use Rattle.ref_changes.specs.Answers.{Texts}
use Rattle.ref_changes.specs.Changes.{with_texts, with_each}
use Rattle.ref_changes.proofs.Lists.{joined_more}

pub each_joined : (all xs ys : List Texts) → with_each all (xs ++ ys) ≡ with_each (with_each all xs) ys
each_joined all [] ys = refl
each_joined all (x ∷ xs) ys = each_joined (with_texts all x) xs ys

-- with those of one more
pub each_more : {X Y : Type 0} (f : Y → List Texts) (v : X → Y) (all new old : List Texts) (xs : List X) (i : ℕ) (x : X) → i < length xs → x ≡ get_or xs i x
    → old ≡ with_each all (flat_map f (map v (take i xs))) → new ≡ with_each old (f (v x))
    → new ≡ with_each all (flat_map f (map v (take (i + 1) xs)))
each_more f v all new old xs i x within is before added =
    added ∙ ap (λ l. with_each l (f (v x))) before ∙ sym (each_joined all (flat_map f (map v (take i xs))) (f (v x)))
    ∙ ap (with_each all) (sym (joined_more f v xs i x within is))
