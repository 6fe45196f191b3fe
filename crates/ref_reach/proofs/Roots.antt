-- The root of a document, where it is there.
use Rattle.std.proofs.Common.{◌≡◌, ◌∙◌, ℕ, List, [], ◌∷◌, ◌++◌, map, Some, None, slice_get, ap, sym, append-nil}
use Rattle.std.proofs.lemmas.List.{map-append}
use Rattle.std.specs.Option.{option_map_or}
use Rattle.serde_json.specs.Data.{Data}
use Rattle.ref_draft.specs.declared.draft.Draft.{Draft}
use Rattle.ref_reach.specs.declared.place.Place as rust
use Rattle.ref_reach.specs.Places.{Place}
use Rattle.ref_reach.specs.Leading.{Known}
use Rattle.ref_reach.specs.Schemas.{schema_root, root_under, schema_root_in}
use Rattle.ref_reach.specs.Views.{place_of}
use Rattle.ref_reach.specs.inner.Adding.{AddsPlaces}

no_uri : (known : Known) (draft : Draft) (n : ℕ) → slice_get known.uris n ≡ None → schema_root_in known draft n ≡ []
no_uri known draft n is = ap (λ o. option_map_or (root_under known draft n) o []) is

with_uri : (known : Known) (draft : Draft) (n : ℕ) (uri : List ℕ) → slice_get known.uris n ≡ Some uri → schema_root_in known draft n ≡ root_under known draft n uri
with_uri known draft n uri is = ap (λ o. option_map_or (root_under known draft n) o []) is

with_tree : (known : Known) (draft : Draft) (n : ℕ) (uri : List ℕ) (tree : Data) → slice_get known.trees n ≡ Some tree → root_under known draft n uri ≡ schema_root draft n uri tree ∷ []
with_tree known draft n uri tree is = ap (λ o. option_map_or (λ t. schema_root draft n uri t ∷ []) o []) is

no_tree : (known : Known) (draft : Draft) (n : ℕ) (uri : List ℕ) → slice_get known.trees n ≡ None → root_under known draft n uri ≡ []
no_tree known draft n uri is = ap (λ o. option_map_or (λ t. schema_root draft n uri t ∷ []) o []) is

nothing_added : (more : List Place) (old : List rust.Place) → more ≡ [] → AddsPlaces more old old
nothing_added more old is = sym (append-nil (map place_of old)) ∙ ap (λ l. map place_of old ++ l) (sym is)

pub adds_without_uri : (known : Known) (draft : Draft) (n : ℕ) (old : List rust.Place) → slice_get known.uris n ≡ None → AddsPlaces (schema_root_in known draft n) old old
adds_without_uri known draft n old is = nothing_added (schema_root_in known draft n) old (no_uri known draft n is)

pub adds_without_tree : (known : Known) (draft : Draft) (n : ℕ) (uri : List ℕ) (old : List rust.Place) → slice_get known.uris n ≡ Some uri → slice_get known.trees n ≡ None → AddsPlaces (schema_root_in known draft n) old old
adds_without_tree known draft n uri old there is = nothing_added (schema_root_in known draft n) old (with_uri known draft n uri there ∙ no_tree known draft n uri is)

pub adds_root : (known : Known) (draft : Draft) (n : ℕ) (uri : List ℕ) (tree : Data) (old new : List rust.Place) (root : rust.Place) → slice_get known.uris n ≡ Some uri → slice_get known.trees n ≡ Some tree
    → place_of root ≡ schema_root draft n uri tree → new ≡ old ++ root ∷ [] → AddsPlaces (schema_root_in known draft n) old new
adds_root known draft n uri tree old new root there is same added =
    ap (map place_of) added ∙ map-append place_of old (root ∷ []) ∙ ap (λ p. map place_of old ++ p ∷ []) same
    ∙ ap (λ l. map place_of old ++ l) (sym (with_uri known draft n uri there ∙ with_tree known draft n uri tree is))
