-- Lists that are read item by item.
use Rattle.std.proofs.Common.{◌≡◌, ℕ, ◌+◌, ◌<◌, List, [], ◌∷◌, ◌++◌, length, drop, get_or, Option, Some, None, option_map, option_and_then, refl, sym, ap, ◌∙◌, append_assoc, add-one}
use Rattle.std.proofs.Math.Seq.{drop-cons}
use Rattle.std.proofs.lemmas.List.{map-append}
use Rattle.serde_json.specs.Data.{Data}
use Rattle.serde_json.specs.View.{view}
use Rattle.serde_json.specs.declared.value.Value.{Value}
use Rattle.ref_error.specs.Retrieving.{trees_of}
use Rattle.ref_report.specs.Request.{retrievable_of}

-- what is read so far, before what is left to read
abbrev pub in_front : {B : Type 0} → List B → Option (List B) → Option (List B)
in_front done left = option_map (λ ys. done ++ ys) left

pub in_front_push : {B : Type 0} (done : List B) (y : B) (left : Option (List B)) → in_front (done ++ y ∷ []) left ≡ in_front done (option_map (λ ys. y ∷ ys) left)
in_front_push done y None = refl
in_front_push done y (Some ys) = ap Some (append_assoc done (y ∷ []) ys)

-- ---- a list that is read further

pub drop_read : {X : Type 0} (xs : List X) (i : ℕ) (x : X) → i < length xs → x ≡ get_or xs i x → drop i xs ≡ x ∷ drop (i + 1) xs
drop_read xs i x h e =
    let cut : drop i xs ≡ get_or xs i x ∷ drop (i + 1) xs = rw (add-one, drop-cons xs i x) in
    cut ∙ ap (λ y. y ∷ drop (i + 1) xs) (sym e)

pub retrievable_next : (done : List (List ℕ × Value)) (e : List ℕ × Value) (d : Data) (left : Option (List (List ℕ × Data))) → Some (e.0, view e.1) ≡ retrievable_of d
    → in_front (trees_of (done ++ e ∷ [])) left ≡ in_front (trees_of done) (option_and_then (λ y. option_map (λ ys. y ∷ ys) left) (retrievable_of d))
retrievable_next done e d left is =
    ap (λ xs. in_front xs left) (map-append (λ (p : List ℕ × Value). (p.0, view p.1)) done (e ∷ []))
    ∙ in_front_push (trees_of done) (e.0, view e.1) left
    ∙ ap (λ o. in_front (trees_of done) (option_and_then (λ y. option_map (λ ys. y ∷ ys) left) o)) is
