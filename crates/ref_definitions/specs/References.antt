-- References of a layer without an open want: none leads to a URI that is not present.
use Rattle.std.specs.Prelude.{◌≡◌, ℕ, List, [], ◌∷◌, codes, Some, Ok, Err}
use Rattle.std.specs.List.{Contains}
use Rattle.ref_draft.specs.Schema.{text_under}
use Rattle.ref_definitions.specs.World.{Document, Layer, World}
use Rattle.ref_definitions.specs.Places.{Place, places}
use Rattle.ref_definitions.specs.Fault.{Unretrievable}
use Rattle.ref_definitions.specs.Wants.{open_wants}
use Rattle.ref_definitions.specs.Lookup.{Resolver, lookup}

-- Where no want is open, the text under `$ref` of a place, looked up from the place's base with any scope, is never
-- unretrievable. A pointer or an anchor in it may still be unresolvable.
abbrev pub ReferencesAreRetrieved : Type 0
ReferencesAreRetrieved =
    (layer : Layer) (parents : World) (d : Document) (place : Place) (resolver : Resolver)
    (reference : List ℕ)
    → open_wants (layer ∷ parents) layer ≡ []
    → Contains layer d → Contains (places d) place → place.base ≡ Ok resolver.base
    → text_under (codes "$ref") place.value ≡ Some reference
    → (uri source : List ℕ)
    → ¬ (lookup (layer ∷ parents) resolver reference ≡ Err (Unretrievable uri source))
