-- Tables whose entries are turned round.
use Rattle.std.proofs.Common.{◌≡◌, List, [], ◌∷◌, ◌++◌, ℕ, map, reverse, String, string_bytes, refl, sym, ap, ◌∙◌}
use Rattle.std.proofs.lemmas.List.{map-append, reverse-append}
use Rattle.std.specs.declared.alloc.Global.{Global}
use Rattle.ref_parts.specs.Table.{entries_of}

map-reverse : {X Y : Type 0} (f : X → Y) (xs : List X) → map f (reverse xs) ≡ reverse (map f xs)
map-reverse f [] = refl
map-reverse f (x ∷ xs) = ap (map f) (reverse-append (x ∷ []) xs) ∙ map-append f (reverse xs) (x ∷ []) ∙ ap (λ ys. ys ++ f x ∷ []) (map-reverse f xs) ∙ sym (reverse-append (f x ∷ []) (map f xs))

-- entries that are turned round
pub entries_of-reverse : (es turned : List (String Global × String Global × ℕ)) → turned ≡ reverse es → entries_of turned ≡ reverse (entries_of es)
entries_of-reverse es turned is = ap entries_of is ∙ map-reverse (λ (e : String Global × String Global × ℕ). (string_bytes e.0, string_bytes e.1, e.2)) es
