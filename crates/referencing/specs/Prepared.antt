-- What holds of every registry, and what it returns of URIs.
use Rattle.std.specs.Prelude.{◌≡◌, ℕ, List, [], ◌∷◌, Bool, false, is_some, string_bytes, codes, decimal, ◌++◌, length, drop, Some, Ok, Err, ⊤}
use Rattle.std.specs.List.{Contains}
use Rattle.std.specs.Option.{option_map_or}
use Rattle.std.specs.Result.{result_ok}
use Rattle.ref_uri.specs.Targets.{uri_of}
use Rattle.ref_draft.specs.Schema.{text_under}
use Rattle.ref_definitions.specs.World.{Document, Layer, World, local_documents}
use Rattle.ref_definitions.specs.Places.{Place, places}
use Rattle.ref_definitions.specs.Fault.{Unretrievable}
use Rattle.ref_definitions.specs.Lookup.{Resolver, lookup}
use Rattle.ref_definitions.specs.Resources.{meant_place}
use Rattle.ref_definitions.specs.Wants.{faults, open_wants}
use Rattle.ref_definitions.specs.Preparing.{Retriever, Given, IsOutcome}
use Rattle.ref_definitions.specs.Closure.{IsReady, IsUsedUp}
use Rattle.ref_definitions.specs.Pending.{given_of_builder}
use Rattle.ref_error.specs.declared.error.Error.{Error}
use Rattle.ref_error.specs.declared.error.Error.TheVariants as error
use Rattle.referencing.specs.Builder.{Builder}

-- its own documents have no fault and no open want
pub record IsPrepared (world : World) : Type 0 where
  pub no_fault : faults (local_documents world) ≡ []
  pub no_want : open_wants world (local_documents world) ≡ []

-- no `$ref` of an own place is unretrievable: looked up from the place's base, with any dynamic scope, its text leads to a
-- value, or to another fault
abbrev pub ReferencesAreRetrieved : World → Type 0
ReferencesAreRetrieved world =
    (d : Document) (place : Place) (resolver : Resolver) (reference : List ℕ)
    → Contains (local_documents world) d → Contains (places d) place → place.base ≡ Ok resolver.base
    → text_under (codes "$ref") place.value ≡ Some reference
    → (uri source : List ℕ) → ¬ (lookup world resolver reference ≡ Err (Unretrievable uri source))

-- what a registry shows for debugging: how many own documents and how many parents it has
abbrev pub registry_text : World → List ℕ
registry_text world =
    codes "Registry { documents: " ++ decimal (length (local_documents world))
    ++ codes ", parents: " ++ decimal (length (drop 1 world)) ++ codes " }"

-- whether a text is a URI that means a place
abbrev pub contains_resource : World → List ℕ → Bool
contains_resource world text =
    option_map_or (λ uri. is_some (meant_place world uri)) (result_ok (uri_of text)) false

-- what preparing is given by a builder with this retriever
abbrev pub given_of : {R : Type 0} → Retriever → Builder R → Given
given_of retriever b = given_of_builder retriever b.limit b.draft b.parents b.pending

-- a registry's world is that of an outcome, before the parents; so its own documents are those given and what was
-- retrieved for them, and nothing in it is faulty or wanted
abbrev pub IsPreparedOf : Given → World → Type 0
IsPreparedOf given world =
    (layer : Layer) × IsOutcome given (Ok layer) × IsReady given layer
    × (world ≡ layer ∷ given.parents)

-- the documents that are given have no fault and no open want
abbrev pub AreComplete : Given → Type 0
AreComplete given =
    (faults given.documents ≡ [])
    × (open_wants (given.documents ∷ given.parents) given.documents ≡ [])

-- where the error is the limit, it is used up
abbrev pub LimitIsUsedUp : Given → Error → Type 0
LimitIsUsedUp given (error.RetrievalLimit uri limit) = IsUsedUp given (string_bytes uri) limit
LimitIsUsedUp given other = ⊤
