-- The places of a document where schemas are, where a text that means no URI counts as none: an identifier, a `$ref` or
-- a `$schema`. And which places have such a text.
use Rattle.std.specs.Prelude.{ℕ, Bool, true, false, ◌||◌, List, map, codes, if◌then◌else◌, Option, Some, None, Result, Ok, Err}
use Rattle.serde_json.specs.Data.{Data}
use Rattle.ref_draft.specs.declared.draft.Draft.{Draft}
use Rattle.ref_draft.specs.declared.draft.Draft.TheVariants.{Draft4, Draft6, Draft7, Draft201909, Draft202012, Unknown}
use Rattle.ref_draft.specs.Schema.{detect}
use Rattle.ref_draft.specs.Children.{Child, Walked, children}
use Rattle.ref_uri.specs.Targets.{Refusal}
use Rattle.ref_definitions.specs.World.{Document}
use Rattle.ref_definitions.specs.Places.{Place, child_place, places_by}
use Rattle.ref_definitions.specs.Wants.{reference_at, schema_at}

-- whether a text means no URI, where there is one
abbrev pub is_refused : Option (Result (List ℕ) Refusal) → Bool
is_refused None = false
is_refused (Some (Ok uri)) = false
is_refused (Some (Err refusal)) = true

-- the draft of a value in a schema of draft d: a `$schema` that means no URI counts as absent
abbrev pub read_draft : Draft → Data → Draft
read_draft d value = if is_refused (schema_at value) then d else detect d value

-- a tree under a URI as a document, where draft d is that of a root that names none
abbrev pub document : Draft → List ℕ → Data → Document
document d uri tree = record { uri = uri; tree = tree; draft = read_draft d tree }

-- a base, or the base around it where there is none
abbrev pub nearest_of : List ℕ → Result (List ℕ) Refusal → List ℕ
nearest_of outer (Ok base) = base
nearest_of outer (Err refusal) = outer

-- the base of a place (2020-12 Core, 8.2.1), or the base around it where its identifier means no URI
abbrev pub nearest_base : Place → List ℕ
nearest_base p = nearest_of p.outer p.base

-- a child with the draft that it is read by in a schema of draft d
abbrev pub with_read_draft : Draft → Child → Walked
with_read_draft d child =
    record { path = child.0; value = child.1; draft = read_draft d child.1 }

-- the children of a value with their drafts
abbrev pub read_children : Draft → Data → List Walked
read_children d value = map (with_read_draft d) (children d value)

-- the children of a place, under that base
abbrev pub children_near : Place → List Place
children_near p = map (child_place p.path (nearest_base p)) (read_children p.draft p.value)

-- the places of a document: its levels joined, which end at the depth of the tree
abbrev pub places_near : Document → List Place
places_near d = places_by children_near d

-- whether the identifier of a place, its `$ref` or its `$schema` means no URI
abbrev pub is_faulty : Place → Bool
is_faulty p =
    is_refused (Some p.base)
    || (is_refused (reference_at (nearest_base p) p.value) || is_refused (schema_at p.value))

-- the keyword that a draft has for dynamic references (2020-12 Core, 8.2.3.2; 2019-09 Core, 8.2.4.2.1)
abbrev pub dynamic_keyword : Draft → Option (List ℕ)
dynamic_keyword Draft4 = None
dynamic_keyword Draft6 = None
dynamic_keyword Draft7 = None
dynamic_keyword Draft201909 = Some (codes "$recursiveRef")
dynamic_keyword Draft202012 = Some (codes "$dynamicRef")
dynamic_keyword Unknown = Some (codes "$dynamicRef")
