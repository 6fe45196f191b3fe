-- The places of schemas: those that keywords lead to from the roots of documents, and what references lead to where no keyword
-- does.
use Rattle.std.specs.Prelude.{◌≡◌, ℕ, Bool, List, [], ◌∷◌, ◌++◌, flat_map, is_some, if◌then◌else◌, None}
use Rattle.std.specs.Option.{option_map_or}
use Rattle.std.specs.Prelude.{slice_get}
use Rattle.serde_json.specs.Data.{Data}
use Rattle.ref_parts.specs.Pointer.{pointer_text}
use Rattle.ref_draft.specs.declared.draft.Draft.{Draft}
use Rattle.ref_draft.specs.Schema.{detect}
use Rattle.ref_descriptions.specs.declared.kind.Kind.TheVariants.{Schema}
use Rattle.ref_descriptions.specs.declared.reading.Reading.{Reading}
use Rattle.ref_descriptions.specs.References.{Reference}
use Rattle.ref_reach.specs.Places.{Place, place_with, identifier_of, below_place, own_at}
use Rattle.ref_reach.specs.Leading.{Known, Outcome, Leads, Nothing, outcome}

-- a schema that is in no description, and of a draft
abbrev pub schema_reading : Draft → Reading
schema_reading draft = record { version = None; kind = Schema; draft = draft }

-- the root of a document that is read so, under the URI of the document
abbrev pub root_read : Reading → ℕ → List ℕ → Data → Place
root_read r number uri tree = place_with number [] tree r uri (identifier_of r tree)

-- the root of a document as a schema: of the draft that it names, or else of this one (2020-12 Core, 8.1.1)
abbrev pub schema_root : Draft → ℕ → List ℕ → Data → Place
schema_root draft number uri tree =
    root_read (schema_reading (detect draft tree)) number uri tree

abbrev pub root_under : Known → Draft → ℕ → List ℕ → List Place
root_under known draft number uri =
    option_map_or (λ tree. schema_root draft number uri tree ∷ [])
    (slice_get known.trees number) []

-- that of the document with a number, where there is one
abbrev pub schema_root_in : Known → Draft → ℕ → List Place
schema_root_in known draft number =
    option_map_or (root_under known draft number) (slice_get known.uris number) []

-- The places that schemas have by themselves: the roots of the documents with these numbers, and after them the subschemas
-- right below each of these places in turn
abbrev pub AreSchemas : Known → Draft → List ℕ → List Place → Type 0
AreSchemas known draft numbers places =
    places ≡ flat_map (schema_root_in known draft) numbers ++ flat_map below_place places

-- whether a place is among these, by its document and its pointer
abbrev pub is_among : List Place → Place → Bool
is_among places p = is_some (own_at places p.document (pointer_text p.path))

-- what a reference leads to is a new place unless it is among these
abbrev pub unless_among : List Place → Outcome → Outcome
unless_among places (Leads p) = if is_among places p then Nothing else Leads p
unless_among places other = other

-- what a reference of a schema is, beside the places that schemas and descriptions have by themselves
abbrev pub schema_outcome : Known → List Place → Place → Reference → Outcome
schema_outcome known places p r = unless_among known.own (unless_among places (outcome known p r))
