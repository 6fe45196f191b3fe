-- The results of calls on the documents of a registry as wholes.
use Rattle.std.specs.Prelude.{◌≡◌, ℕ, List, [], ◌∷◌, ◌++◌, map, filter, codes, Option, None, Some, Result, Ok, Err}
use Rattle.serde_json.specs.Data.{Data, string}
use Rattle.ref_paths.specs.Path.{Part}
use Rattle.ref_parts.specs.Pointer.{pointer_text}
use Rattle.ref_uri.specs.Targets.{Refusal}
use Rattle.ref_definitions.specs.World.{World, local_documents}
use Rattle.ref_definitions.specs.Results.{◌>>=◌}
use Rattle.ref_definitions.specs.Listing.{Listed, local_places}
use Rattle.ref_vocabularies.specs.Vocabularies.{Known, Core, Applicator, Unevaluated, Validation, Metadata, Format, FormatAnnotation, Content, FormatAssertion, Standard, VocabularySet, all_known, contains, find_vocabularies}
use Rattle.ref_lint.specs.Dangling.{DanglingReference, dangling}
use Rattle.ref_bundle.specs.Needed.{Further}
use Rattle.ref_bundle.specs.Embedding.{Obstacle, NotAnObject, IdentifierBesideRef, NotAnIdentifier, NotKept, UnnamedDraft, ResolvedAgain}
use Rattle.ref_bundle.specs.Bundle.{Bundle, BundleRefusal, Problem, NoDocument, NotEmbedded, NoMap, KeyTaken, SharedUri, ReplacedUri, ShadowedUri, AddedMember, bundle_with}
use Rattle.ref_bundle.specs.Saying.{refusal_text}
use Rattle.ref_draft.specs.Names.{draft_name}
use Rattle.ref_draft.specs.Schema.{identifier}
use Rattle.ref_draft.specs.Anchors.{Kind, Plain, Dynamic, anchors}
use Rattle.ref_calls.specs.Objects.{object_of, list_of, texts, whole}
use Rattle.ref_calls.specs.Errors.{error_members, fault_members}
use Rattle.ref_calls.specs.Calls.{required_member, number_in, draft_of, schema_of}
use Rattle.ref_further.specs.Further.{AreFurther}
use Rattle.ref_serve.specs.State.{Registries, registry_under}
use Rattle.ref_serve.specs.Results.{Then}

-- the members of a place in one of a registry's own documents
abbrev pub site_members : ℕ → List Part → List (List ℕ × Data)
site_members document path =
    (codes "document", whole document) ∷ (codes "pointer", string (pointer_text path)) ∷ []

-- what is listed of the registry that is asked
abbrev pub registry_list : (World → Data) → Registries → Data → Result Data Data
registry_list list state d =
    registry_under state d (codes "registry") >>= λ registry. Ok (list registry.1.0)

-- ---- places

-- a base; each own place of a registry has one, so the empty text of a refused one is in no answer
abbrev pub base_text : Result (List ℕ) Refusal → List ℕ
base_text (Ok base) = base
base_text (Err refusal) = []

-- the member of its identifier, where it has one
abbrev pub identifier_member : Option (List ℕ) → List (List ℕ × Data)
identifier_member None = []
identifier_member (Some id) = (codes "identifier", string id) ∷ []

-- the member of an anchor
abbrev pub anchor_member : List ℕ × Kind → List ℕ × Data
anchor_member (name, Plain) = (codes "anchor", string name)
anchor_member (name, Dynamic) = (codes "dynamicAnchor", string name)

-- the object of a place
abbrev pub place_object : Listed → Data
place_object p =
    object_of
    (site_members p.document p.path ++ (codes "base", string (base_text p.base))
    ∷ (codes "draft", string (draft_name p.draft))
    ∷ identifier_member (identifier p.draft p.value)
    ++ map anchor_member (anchors p.draft p.value))

-- those of a registry's own documents, in order
unfoldable pub places_list : World → Data
places_list world = list_of (map place_object (local_places (local_documents world)))

-- `places`
unfoldable pub places_result : Registries → Data → Result Data Data
places_result state d = registry_list places_list state d

-- ---- dangling

-- the object of an unresolvable reference: the place whose `$ref` it is, and the error object of its fault
abbrev pub dangling_object : DanglingReference → Data
dangling_object r =
    object_of
    (site_members r.document r.path ++ (codes "error", object_of (fault_members r.fault)) ∷ [])

-- those of a registry's own documents, in order
unfoldable pub dangling_list : World → Data
dangling_list world = list_of (map dangling_object (dangling world))

-- `dangling`
unfoldable pub dangling_result : Registries → Data → Result Data Data
dangling_result state d = registry_list dangling_list state d

-- ---- vocabularies

-- the URI of a known vocabulary: the newer one where both drafts have it
abbrev pub known_uri : Known → List ℕ
known_uri Core = codes "https://json-schema.org/draft/2020-12/vocab/core"
known_uri Applicator = codes "https://json-schema.org/draft/2020-12/vocab/applicator"
known_uri Unevaluated = codes "https://json-schema.org/draft/2020-12/vocab/unevaluated"
known_uri Validation = codes "https://json-schema.org/draft/2020-12/vocab/validation"
known_uri Metadata = codes "https://json-schema.org/draft/2020-12/vocab/meta-data"
known_uri Format = codes "https://json-schema.org/draft/2019-09/vocab/format"
known_uri FormatAnnotation = codes "https://json-schema.org/draft/2020-12/vocab/format-annotation"
known_uri Content = codes "https://json-schema.org/draft/2020-12/vocab/content"
known_uri FormatAssertion = codes "https://json-schema.org/draft/2020-12/vocab/format-assertion"

-- the known ones of a list that a set has, by their URIs
abbrev pub known_uris : VocabularySet → List Known → List (List ℕ)
known_uris set ks = map known_uri (filter (λ k. contains set (Standard k)) ks)

-- the URIs of a set: the known ones in their order, and then the others
unfoldable pub vocabulary_uris : VocabularySet → List (List ℕ)
vocabulary_uris set = known_uris set all_known ++ set.customs

-- `vocabularies`
unfoldable pub vocabularies_result : Registries → Data → Result Data Data
vocabularies_result state d = do
  registry ← registry_under state d (codes "registry")
  schema ← schema_of d
  draft ← draft_of d
  Ok (object_of
      ((codes "vocabularies", texts (vocabulary_uris (find_vocabularies registry.1.0 draft schema)))
      ∷ []))

-- ---- bundle

-- the name of what keeps a document out of a bundle
abbrev pub obstacle_name : Obstacle → List ℕ
obstacle_name NotAnObject = codes "NotAnObject"
obstacle_name IdentifierBesideRef = codes "IdentifierBesideRef"
obstacle_name NotAnIdentifier = codes "NotAnIdentifier"
obstacle_name (NotKept uri) = codes "NotKept"
obstacle_name (UnnamedDraft draft) = codes "UnnamedDraft"
obstacle_name ResolvedAgain = codes "ResolvedAgain"

abbrev pub problem_name : Problem → List ℕ
problem_name NoDocument = codes "NoDocument"
problem_name (NotEmbedded obstacle) = obstacle_name obstacle
problem_name NoMap = codes "NoMap"
problem_name (KeyTaken uri) = codes "KeyTaken"
problem_name (SharedUri uri document path) = codes "SharedUri"
problem_name (ReplacedUri uri base) = codes "ReplacedUri"
problem_name (ShadowedUri uri base document path) = codes "ShadowedUri"
problem_name (AddedMember uri key) = codes "AddedMember"

-- the members of a refusal's error
abbrev pub refusal_members : BundleRefusal → List (List ℕ × Data)
refusal_members r =
    error_members (codes "NotBundled") (refusal_text r)
    ++ (codes "reason", string (problem_name r.problem)) ∷ site_members r.document r.path

-- the object with a bundle's tree, or the error of the refusal
abbrev pub bundled_result : Result Bundle BundleRefusal → Result Data Data
bundled_result (Ok bundle) = Ok (object_of ((codes "bundle", bundle.value) ∷ []))
bundled_result (Err refusal) = Err (object_of (refusal_members refusal))

-- the number under `document`
unfoldable pub document_number : Data → Result ℕ Data
document_number d = do
  value ← required_member (codes "document") d
  number_in (codes "document") value

-- the bundle of a document, by the further places of the documents of its registry
unfoldable pub IsBundled : World → ℕ → Result Data Data → Type 0
IsBundled world document outcome =
    (further : Further) × AreFurther (local_documents world) further
    × (outcome ≡ bundled_result (bundle_with world further document))

-- `bundle`
unfoldable pub IsBundle : Registries → Data → Result Data Data → Type 0
IsBundle state d outcome =
    Then (registry_under state d (codes "registry"))
    (λ registry. Then (document_number d) (IsBundled registry.1.0)) outcome
