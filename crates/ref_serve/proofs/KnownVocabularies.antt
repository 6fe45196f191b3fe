-- The known vocabularies of a set, which are listed one after another.
use Rattle.std.proofs.Common.{◌≡◌, ℕ, List, [], ◌∷◌, ◌++◌, Bool, true, false, cond, map, filter, Ok, refl, ap, sym, ◌∙◌, append_assoc}
use Rattle.std.specs.List.{AllZip}
use Rattle.serde_json.specs.Data.{Data, string}
use Rattle.ref_vocabularies.specs.Vocabularies.{Known, Core, Applicator, Unevaluated, Validation, Metadata, Format, FormatAnnotation, Content, FormatAssertion, Standard, VocabularySet, all_known, contains, from_text}
use Rattle.ref_serve.specs.Listings.{known_uri, known_uris}

pub known_from_uri : (k : Known) → from_text (known_uri k) ≡ Ok (Standard k)
known_from_uri Core = refl
known_from_uri Applicator = refl
known_from_uri Unevaluated = refl
known_from_uri Validation = refl
known_from_uri Metadata = refl
known_from_uri Format = refl
known_from_uri FormatAnnotation = refl
known_from_uri Content = refl
known_from_uri FormatAssertion = refl

-- the texts that are left are the URIs of known vocabularies, with which the list is whole
abbrev pub IsLeft : VocabularySet → List (List ℕ) → List Data → List Data → Type 0
IsLeft set left done start =
    (ks : List Known) × AllZip (λ text k. text ≡ known_uri k) left ks × (done ++ map (λ t. string t) (known_uris set ks) ≡ start ++ map (λ t. string t) (known_uris set all_known))

-- ---- one of them more

first_by : (b : Bool) (k : Known) (uris : List (List ℕ)) (kept : List Known) → map known_uri kept ≡ uris
    → map (λ t. string t) (map known_uri (cond b (k ∷ []) [])) ++ map (λ t. string t) uris ≡ map (λ t. string t) (map known_uri (cond b (k ∷ kept) kept))
first_by true k uris kept is = ap (λ us. string (known_uri k) ∷ map (λ t. string t) us) (sym is)
first_by false k uris kept is = ap (map (λ t. string t)) (sym is)

first_known : (set : VocabularySet) (k : Known) (ks : List Known)
    → map (λ t. string t) (known_uris set (k ∷ [])) ++ map (λ t. string t) (known_uris set ks) ≡ map (λ t. string t) (known_uris set (k ∷ ks))
first_known set k ks = first_by (contains set (Standard k)) k (known_uris set ks) (filter (λ j. contains set (Standard j)) ks) refl

pub one_known_more : (set : VocabularySet) (uri : List ℕ) (left : List (List ℕ)) (done next start : List Data) → IsLeft set (uri ∷ left) done start
    → ((k : Known) → from_text uri ≡ Ok (Standard k) → uri ≡ known_uri k → next ≡ done ++ map (λ t. string t) (known_uris set (k ∷ []))) → IsLeft set left next start
one_known_more set uri left done next start ([], are, is) pushed = absurd are
one_known_more set uri left done next start (k ∷ ks, are, is) pushed = (
  ks,
  are.1,
  ap (λ l. l ++ map (λ t. string t) (known_uris set ks)) (pushed k (ap from_text are.0 ∙ known_from_uri k) are.0)
      ∙ append_assoc done (map (λ t. string t) (known_uris set (k ∷ []))) (map (λ t. string t) (known_uris set ks))
      ∙ ap (λ l. done ++ l) (first_known set k ks) ∙ is,
)
