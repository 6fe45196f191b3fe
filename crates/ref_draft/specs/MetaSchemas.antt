-- The URIs of the drafts' meta-schemas.
use Rattle.std.specs.Prelude.{ℕ, List, [], ◌∷◌, ◌++◌, map, codes}
use Rattle.ref_draft.specs.declared.draft.Draft.{Draft}
use Rattle.ref_draft.specs.declared.draft.Draft.TheVariants.{Draft4, Draft6, Draft7, Draft201909, Draft202012, Unknown}

-- those of 2019-09: the schema's, then one for each vocabulary
abbrev pub uris_of_2019 : List (List ℕ)
uris_of_2019 =
    map (λ part. codes "https://json-schema.org/draft/2019-09/" ++ part)
    (map codes
    ("schema" ∷ "meta/applicator" ∷ "meta/content" ∷ "meta/core" ∷ "meta/format"
    ∷ "meta/meta-data" ∷ "meta/validation" ∷ []))

-- those of 2020-12
abbrev pub uris_of_2020 : List (List ℕ)
uris_of_2020 =
    map (λ part. codes "https://json-schema.org/draft/2020-12/" ++ part)
    (map codes
    ("schema" ∷ "meta/core" ∷ "meta/applicator" ∷ "meta/unevaluated" ∷ "meta/validation"
    ∷ "meta/meta-data" ∷ "meta/format-annotation" ∷ "meta/format-assertion" ∷ "meta/content"
    ∷ []))

-- those of a draft; a custom meta-schema's are those of 2020-12
abbrev pub uris_for_draft : Draft → List (List ℕ)
uris_for_draft Draft4 = codes "http://json-schema.org/draft-04/schema#" ∷ []
uris_for_draft Draft6 = codes "http://json-schema.org/draft-06/schema#" ∷ []
uris_for_draft Draft7 = codes "http://json-schema.org/draft-07/schema#" ∷ []
uris_for_draft Draft201909 = uris_of_2019
uris_for_draft Draft202012 = uris_of_2020
uris_for_draft Unknown = uris_of_2020

-- all of them, by draft
abbrev pub uris : List (List ℕ)
uris =
    uris_for_draft Draft4 ++ uris_for_draft Draft6 ++ uris_for_draft Draft7 ++ uris_of_2019
    ++ uris_of_2020
