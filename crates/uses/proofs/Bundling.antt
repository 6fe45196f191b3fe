-- What listed places refer to, place by place.
use Rattle.std.proofs.Common.{◌≡◌, ℕ, Bool, true, false, cond, List, [], ◌∷◌, ◌++◌, map, Option, None, Some, refl, ap, ◌∙◌}
use Rattle.std.proofs.lemmas.List.{map-append}
use Rattle.std.proofs.lemmas.List.Elements.{filter-append, filter_map-append}
use Rattle.std.specs.List.{cons_option, filter, filter_map}
use Rattle.std.specs.Option.{option_to_list}
use Rattle.referencing.specs.Listing.{Listed}

one : (o : Option (List ℕ)) → cons_option o [] ≡ option_to_list o
one None = refl
one (Some uri) = refl

kept : (f : Listed → Option (List ℕ)) (q : Listed) (b : Bool)
    → filter_map f (cond b (q ∷ []) []) ≡ option_to_list (cond b (f q) None)
kept f q true = one (f q)
kept f q false = refl

-- one place more; one that is left out refers to nothing
pub one_more : {P : Type 0} (test : Listed → Bool) (f : Listed → Option (List ℕ)) (g : P → Listed) (ps : List P) (p : P)
    → filter_map f (filter test (map g (ps ++ p ∷ [])))
    ≡ filter_map f (filter test (map g ps)) ++ option_to_list (cond (test (g p)) (f (g p)) None)
one_more test f g ps p =
    let before = filter_map f (filter test (map g ps)) in
    ap (λ qs. filter_map f (filter test qs)) (map-append g ps (p ∷ []))
    ∙ ap (filter_map f) (filter-append test (map g ps) (g p ∷ []))
    ∙ filter_map-append f (filter test (map g ps)) (filter test (g p ∷ []))
    ∙ ap (λ us. before ++ us) (kept f (g p) (test (g p)))
