-- Paths, and the value that one leads to.
use Rattle.std.proofs.Common.{◌≡◌, List, [], ◌∷◌, ◌++◌, Some, map, reverse, refl, sym, ap, ◌∙◌}
use Rattle.std.proofs.lemmas.List.{map-append, reverse-append}
use Rattle.std.specs.Prelude.{unwrap_or, take, length}
use Rattle.std.specs.List.{last_or}
use Rattle.ref_paths.specs.Path.{Part, Index, last_part, parent_path}

last_after : (part : Part) (path : List Part) → part ∷ path ≡ take (length path) (part ∷ path) ++ unwrap_or (last_or (Some part) path) (Index 0) ∷ []
last_after part [] = refl
last_after part (next ∷ path) = ap (λ ps. part ∷ ps) (last_after next path)

-- a path that has a parent is that and its last part
pub last_is_there : (path before : List Part) → parent_path path ≡ Some before → path ≡ before ++ last_part path ∷ []
last_is_there [] before is = cc
last_is_there (part ∷ path) before is =
    let same : take (length path) (part ∷ path) ≡ before = cc in
    last_after part path ∙ ap (λ ps. ps ++ last_part (part ∷ path) ∷ []) same

-- ---- turned round

pub map-reverse : {X Y : Type 0} (f : X → Y) (xs : List X) → map f (reverse xs) ≡ reverse (map f xs)
map-reverse f [] = refl
map-reverse f (x ∷ xs) = ap (map f) (reverse-append (x ∷ []) xs) ∙ map-append f (reverse xs) (x ∷ []) ∙ ap (λ ys. ys ++ f x ∷ []) (map-reverse f xs) ∙ sym (reverse-append (f x ∷ []) (map f xs))
