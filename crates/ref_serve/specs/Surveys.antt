-- The result of `survey`.
use Rattle.std.specs.Prelude.{◌≡◌, ℕ, List, [], ◌∷◌, ◌++◌, map, codes, if◌then◌else◌, Option, None, Some, Result, Ok}
use Rattle.serde_json.specs.Data.{Data, string}
use Rattle.ref_draft.specs.Names.{draft_name}
use Rattle.ref_descriptions.specs.declared.reading.Reading.{Reading}
use Rattle.ref_descriptions.specs.declared.version.Version.{Version}
use Rattle.ref_descriptions.specs.Fields.{kind_name}
use Rattle.ref_descriptions.specs.Versions.{version_name}
use Rattle.ref_descriptions.specs.Readings.{is_schema_of_a_draft}
use Rattle.ref_definitions.specs.World.{World, local_documents}
use Rattle.ref_reach.specs.Places.{Place}
use Rattle.ref_further.specs.Survey.{IsSurvey}
use Rattle.ref_calls.specs.Objects.{object_of, list_of}
use Rattle.ref_serve.specs.State.{Registries, registry_under}
use Rattle.ref_serve.specs.Results.{Then}
use Rattle.ref_serve.specs.Listings.{site_members}

-- the member of the version of a description, where an object is in one
abbrev pub version_member : Option Version → List (List ℕ × Data)
version_member None = []
version_member (Some v) = (codes "version", string (version_name v)) ∷ []

-- that of the draft of a schema that is read by one
abbrev pub draft_member : Reading → List (List ℕ × Data)
draft_member r =
    if is_schema_of_a_draft r then (codes "draft", string (draft_name r.draft)) ∷ [] else []

-- the object of a place
abbrev pub surveyed_object : Place → Data
surveyed_object p =
    object_of
    (site_members p.document p.path ++ (codes "base", string p.base)
    ∷ (codes "kind", string (kind_name p.reading.kind))
    ∷ version_member p.reading.version ++ draft_member p.reading)

-- those of a registry's own documents
abbrev pub AreSurveyed : World → Result Data Data → Type 0
AreSurveyed world outcome =
    (places : List Place) × IsSurvey (local_documents world) places
    × (outcome ≡ Ok (list_of (map surveyed_object places)))

-- `survey`
unfoldable pub IsSurveyed : Registries → Data → Result Data Data → Type 0
IsSurveyed state d outcome =
    Then (registry_under state d (codes "registry")) (λ registry. AreSurveyed registry.1.0) outcome
