-- The places of a document where schemas are, given by levels (the subschema keywords of the drafts).
use Rattle.std.specs.Prelude.{ℕ, zero, suc, List, [], ◌∷◌, ◌++◌, flat_map, map, Option, Some, None, Result, Ok, Err}
use Rattle.serde_json.specs.Data.{Data, depth}
use Rattle.ref_paths.specs.Path.{Part}
use Rattle.ref_draft.specs.declared.draft.Draft.{Draft}
use Rattle.ref_draft.specs.Schema.{identifier}
use Rattle.ref_draft.specs.Children.{Walked, walked_children}
use Rattle.ref_uri.specs.Targets.{Refusal, uri_against}
use Rattle.ref_definitions.specs.World.{Document}

-- a place: its path in the document, its value and draft, the base URI around it, and its own, or why its identifier doesn't
-- resolve
pub record Place : Type 0 where
  pub path : List Part
  pub value : Data
  pub draft : Draft
  pub outer : List ℕ
  pub base : Result (List ℕ) Refusal

-- the identifier of a place's value, by its draft
abbrev pub identifier_of : Place → Option (List ℕ)
identifier_of p = identifier p.draft p.value

-- the base of a value: its identifier against the base around it, or that base (2020-12 Core, 8.2.1)
abbrev pub base_within : List ℕ → Option (List ℕ) → Result (List ℕ) Refusal
base_within outer None = Ok outer
base_within outer (Some id) = uri_against outer id

-- level 0: the root, whose identifier resolves against the document's URI
abbrev pub root : Document → Place
root d =
    record {
      path = [];
      value = d.tree;
      draft = d.draft;
      outer = d.uri;
      base = base_within d.uri (identifier d.draft d.tree);
    }

-- a child of a place
abbrev pub child_place : List Part → List ℕ → Walked → Place
child_place path base child =
    record {
      path = path
          ++ child.path;
      value = child.value;
      draft = child.draft;
      outer = base;
      base = base_within base (identifier child.draft child.value);
    }

-- the children of a place: none where its identifier doesn't resolve
abbrev pub children_with : Result (List ℕ) Refusal → Place → List Place
children_with (Ok base) p = map (child_place p.path base) (walked_children p.draft p.value)
children_with (Err refusal) p = []

-- the children of a place, by its base
abbrev pub children_of : Place → List Place
children_of p = children_with p.base p

-- n levels below places, by any children of places: each the joined children of the one above
abbrev pub levels : (Place → List Place) → ℕ → List Place → List Place
levels children zero places = []
levels children (suc n) places =
    flat_map children places ++ levels children n (flat_map children places)

-- the levels by the children of places
abbrev pub levels_below : ℕ → List Place → List Place
levels_below n places = levels children_of n places

-- the root and the levels below it, as many as the tree is deep
abbrev pub places_by : (Place → List Place) → Document → List Place
places_by children d = root d ∷ levels children (depth d.tree) (root d ∷ [])

-- The places of a document: its levels joined. No level is below the depth of the tree.
abbrev pub places : Document → List Place
places d = places_by children_of d
