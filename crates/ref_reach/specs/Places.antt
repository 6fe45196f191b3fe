-- Places of documents, and those that descriptions have by themselves.
use Rattle.std.specs.Prelude.{◌≡◌, ℕ, List, [], ◌∷◌, ◌++◌, map, flat_map, Bool, is_some, codes, if◌then◌else◌, Option, None, option_and_then, unwrap_or, decimal, slice_get}
use Rattle.std.specs.Option.{option_map_or}
use Rattle.std.specs.List.{enumerate_from}
use Rattle.std.specs.Result.{result_ok}
use Rattle.serde_json.specs.Data.{Data}
use Rattle.ref_paths.specs.Path.{Part}
use Rattle.ref_parts.specs.Pointer.{pointer_text}
use Rattle.ref_parts.specs.Table.{Entry, last_value}
use Rattle.ref_draft.specs.Schema.{text_under, identifier}
use Rattle.ref_uri.specs.Targets.{uri_against}
use Rattle.ref_descriptions.specs.declared.version.Version.{Version}
use Rattle.ref_descriptions.specs.declared.version.Version.TheVariants.{V3_2}
use Rattle.ref_descriptions.specs.declared.reading.Reading.{Reading}
use Rattle.ref_descriptions.specs.Versions.{version_of}
use Rattle.ref_descriptions.specs.Readings.{is_schema_of_a_draft, reading_of_root}
use Rattle.ref_descriptions.specs.Below.{Inner, below}

-- a document: its URI, and its tree
pub record Source : Type 0 where
  pub uri : List ℕ
  pub tree : Data

-- A place: the number of its document, its path there and its value, how it is read, the base of its references, and whether
-- it has that by a text of its own
pub record Place : Type 0 where
  pub document : ℕ
  pub path : List Part
  pub value : Data
  pub reading : Reading
  pub base : List ℕ
  pub is_identified : Bool

-- the URI that a text means against a base, where there is a text that means one
abbrev pub meant : List ℕ → Option (List ℕ) → Option (List ℕ)
meant outer text = option_and_then (λ t. result_ok (uri_against outer t)) text

-- a place whose base is what its text means, or else the base around it
abbrev pub place_with : ℕ → List Part → Data → Reading → List ℕ → Option (List ℕ) → Place
place_with document path value reading outer text =
    record {
      document = document;
      path = path;
      value = value;
      reading = reading;
      base = unwrap_or (meant outer text) outer;
      is_identified = is_some (meant outer text);
    }

-- the identifier of what is read so: a schema of a draft may have one (2020-12 Core, 8.2.1)
abbrev pub identifier_of : Reading → Data → Option (List ℕ)
identifier_of r value = if is_schema_of_a_draft r then identifier r.draft value else None

-- the `$self` of a description (3.2, "OpenAPI Object")
abbrev pub self_of : Version → Data → Option (List ℕ)
self_of V3_2 root = text_under (codes "$self") root
self_of other root = None

-- the root of a description of a version
abbrev pub root_place : ℕ → List ℕ → Data → Version → Place
root_place number uri tree version =
    place_with number [] tree (reading_of_root version tree) uri (self_of version tree)

-- that of the document with a number, where it is a description
abbrev pub root_in : ℕ × Source → List Place
root_in e =
    option_map_or (λ version. root_place e.0 e.1.uri e.1.tree version ∷ [])
    (version_of e.1.tree) []

-- those of documents
abbrev pub roots : List Source → List Place
roots sources = flat_map root_in (enumerate_from 0 sources)

-- an object right below a place
abbrev pub inner_place : Place → Inner → Place
inner_place p inner =
    place_with p.document (p.path ++ inner.path) inner.value inner.reading p.base
    (identifier_of inner.reading inner.value)

-- the objects right below it
abbrev pub below_place : Place → List Place
below_place p = map (inner_place p) (below p.reading p.value)

-- The places that descriptions have by themselves: the roots, and after them what is right below each of these places in
-- turn
abbrev pub AreOwn : List Source → List Place → Type 0
AreOwn sources own = own ≡ roots sources ++ flat_map below_place own

-- the entry of the place with a number, under its pointer and the number of its document
abbrev pub own_entry : ℕ × Place → Entry ℕ
own_entry e = (pointer_text e.1.path, decimal e.1.document, e.0)

abbrev pub own_entries : List Place → List (Entry ℕ)
own_entries own = map own_entry (enumerate_from 0 own)

-- the place at a pointer of a document: the last, where there were several
abbrev pub own_at : List Place → ℕ → List ℕ → Option Place
own_at own document pointer =
    option_and_then (slice_get own) (last_value pointer (decimal document) (own_entries own))
