-- What references are looked up in: the documents, and after them those parts of descriptions that have URIs of their own.
use Rattle.std.specs.Prelude.{ℕ, List, [], ◌∷◌, ◌++◌, map, filter, Option, Some, None, unwrap_or}
use Rattle.serde_json.specs.Data.{Data}
use Rattle.ref_paths.specs.Path.{Part, Key}
use Rattle.ref_draft.specs.declared.draft.Draft.{Draft}
use Rattle.ref_draft.specs.declared.draft.Draft.TheVariants.{Draft7}
use Rattle.ref_draft.specs.Keywords.{id_keyword}
use Rattle.ref_draft.specs.Schema.{detect}
use Rattle.ref_definitions.specs.World.{Document, Layer}
use Rattle.ref_findings.specs.Mending.{with_nulls}
use Rattle.ref_findings.specs.Sources.{tree_in_place}
use Rattle.ref_descriptions.specs.declared.version.Version.{Version}
use Rattle.ref_descriptions.specs.declared.version.Version.TheVariants.{V2_0, V3_0, V3_1, V3_2}
use Rattle.ref_descriptions.specs.Versions.{version_of}
use Rattle.ref_reach.specs.Places.{Source, Place}

-- The draft that a document is read by: this one, but for descriptions of 2.0 and 3.0. Of these it counts only for the
-- `definitions` of 2.0
abbrev pub draft_for : Draft → Option Version → Draft
draft_for draft None = draft
draft_for draft (Some V2_0) = Draft7
draft_for draft (Some V3_0) = Draft7
draft_for draft (Some V3_1) = draft
draft_for draft (Some V3_2) = draft

-- a tree as it is read: with `null` in place of each text that means no URI
abbrev pub tree_read : Draft → List ℕ → Data → Data
tree_read draft uri tree =
    unwrap_or (tree_in_place draft (record { uri = uri; tree = Some tree })) tree

-- a document of a tree under a URI
abbrev pub held : Draft → List ℕ → Data → Document
held draft uri tree =
    record { uri = uri; tree = tree_read draft uri tree; draft = detect draft tree }

abbrev pub held_source : Draft → Source → Document
held_source draft s = held (draft_for draft (version_of s.tree)) s.uri s.tree

-- The tree of a part that has a URI of its own: with `null` in place of its identifier, which is resolved already. Resolved
-- once more against that URI, `sub/a` would mean `sub/sub/a`
abbrev pub part_tree : Place → Data
part_tree p = with_nulls ((Key (id_keyword p.reading.draft) ∷ []) ∷ []) p.value

abbrev pub held_part : Place → Document
held_part p = held p.reading.draft p.base (part_tree p)

-- the places that have URIs of their own
abbrev pub identified : List Place → List Place
identified places = filter (λ p. p.is_identified) places

abbrev pub layer_held : Draft → List Source → List Place → Layer
layer_held draft sources own =
    map (held_source draft) sources ++ map held_part (identified own)

-- the document and the path of each of these parts
abbrev pub part_held : Place → ℕ × List Part
part_held p = (p.document, p.path)

abbrev pub parts_held : List Place → List (ℕ × List Part)
parts_held own = map part_held (identified own)
