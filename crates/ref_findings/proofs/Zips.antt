-- Lists that agree place by place.
use Rattle.std.proofs.Common.{◌≡◌, List, [], ◌∷◌, ◌++◌, ◌∙◌, append_assoc}
use Rattle.std.specs.List.{AllZip}

-- one after the other
pub zip_append : {A B : Type 0} (R : A → B → Type 0) (xs : List A) (ys : List B) (us : List A) (vs : List B) → AllZip R xs ys → AllZip R us vs → AllZip R (xs ++ us) (ys ++ vs)
zip_append R [] [] us vs front back = back
zip_append R [] (y ∷ ys) us vs front back = absurd front
zip_append R (x ∷ xs) [] us vs front back = absurd front
zip_append R (x ∷ xs) (y ∷ ys) us vs front back = (front.0, zip_append R xs ys us vs front.1 back)

-- six lists after another
pub six : {X : Type 0} (fs a b c d e f : List X) → (((((fs ++ a) ++ b) ++ c) ++ d) ++ e) ++ f ≡ fs ++ (a ++ (b ++ (c ++ (d ++ (e ++ f)))))
six fs a b c d e f =
    append_assoc ((((fs ++ a) ++ b) ++ c) ++ d) e f ∙ append_assoc (((fs ++ a) ++ b) ++ c) d (e ++ f) ∙ append_assoc ((fs ++ a) ++ b) c (d ++ (e ++ f))
    ∙ append_assoc (fs ++ a) b (c ++ (d ++ (e ++ f))) ∙ append_assoc fs a (b ++ (c ++ (d ++ (e ++ f))))
