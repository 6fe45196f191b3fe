-- What three lists are told as, one after another.
use Rattle.std.proofs.Common.{◌≡◌, List, [], ◌++◌, map, sym, ap, ◌∙◌}
use Rattle.std.proofs.lemmas.List.{map-append}

-- each list is told after the ones before it, and nothing is told at first
pub three_lists : {A B : Type 0} (f : A → B) (xs ys zs : List A) (none first second third : List B) → none ≡ [] → first ≡ none ++ map f xs
    → second ≡ first ++ map f ys → third ≡ second ++ map f zs → third ≡ map f (xs ++ ys ++ zs)
three_lists f xs ys zs none first second third is_none is_first is_second is_third =
    is_third
    ∙ ap (λ l. l ++ map f zs) (is_second ∙ ap (λ l. l ++ map f ys) (is_first ∙ ap (λ l. l ++ map f xs) is_none))
    ∙ sym (map-append f (xs ++ ys) zs ∙ ap (λ l. l ++ map f zs) (map-append f xs ys))
