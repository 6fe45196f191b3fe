-- Where the pointer of a reference and the keywords of subschemas lead to the same place with the same base.
use Rattle.std.specs.Prelude.{◌≡◌, ℕ, List, [], ◌∷◌, ◌++◌, All, ◌<◌, IsUtf8, IsTrue, ◌⊎◌, Some, None, is_some, Ok}
use Rattle.std.specs.List.{Contains}
use Rattle.serde_json.specs.Data.{Data}
use Rattle.serde_json.specs.Find.{get}
use Rattle.ref_paths.specs.Path.{Part, HasFittingIndexes}
use Rattle.ref_parts.specs.Pointer.{pointer_text}
use Rattle.ref_draft.specs.declared.draft.Draft.{Draft}
use Rattle.ref_draft.specs.Keywords.{is_before_2020, is_map_keyword, id_keyword}
use Rattle.ref_draft.specs.Schema.{text_under}
use Rattle.ref_draft.specs.Children.{AllAreThere, walked_children}
use Rattle.ref_definitions.specs.World.{Document, Layer, World}
use Rattle.ref_definitions.specs.Places.{Place, root, children_of, places, identifier_of}
use Rattle.ref_definitions.specs.Resources.{resources}
use Rattle.ref_definitions.specs.Lookup.{located_value}

-- a place at or below another: the other itself, or a place at or below one of its children
pub data IsAtOrBelow (q : Place) : Place → Type 0 where
  itself : IsAtOrBelow q q
  below : (p child : Place) → Contains (children_of p) child → IsAtOrBelow q child → IsAtOrBelow q p

-- the maps of subschemas of a value hold no text under the identifier's keyword: no property is named `$id`, say
abbrev pub HasPlainMaps : Draft → Data → Type 0
HasPlainMaps draft value =
    (keyword : List ℕ) (schemas : Data) → IsTrue (is_map_keyword draft keyword)
    → get keyword value ≡ Some schemas → text_under (id_keyword draft) schemas ≡ None

-- A resource of a layer that the pointer and the keywords read alike: it has a URI that no other place has, one draft
-- throughout, and before 2020-12 no map of subschemas that looks like a schema with an identifier.
pub record IsReadAlike (layer : Layer) (d : Document) (r : Place) (uri : List ℕ) : Type 0 where
  pub document : Contains layer d
  pub place : Contains (places d) r
  pub resource : (r ≡ root d) ⊎ IsTrue (is_some (identifier_of r))
  pub base : r.base ≡ Ok uri
  pub alone : (p : Place) → Contains (resources layer) (uri, p) → p ≡ r
  pub one_draft : (p : Place) → IsAtOrBelow p r → p.draft ≡ r.draft
  pub plain_maps : IsTrue (is_before_2020 r.draft) → (p : Place) → IsAtOrBelow p r
      → HasPlainMaps r.draft p.value

-- each child of a place of the document is at its path, as it does where objects have each key once
abbrev pub ChildrenAreThere : Document → Type 0
ChildrenAreThere d =
    (p : Place) → Contains (places d) p → AllAreThere p.value (walked_children p.draft p.value)

-- a path as a program holds it: its keys are text, and its indexes fit 64 bits
pub record IsPathOfTexts (path : List Part) : Type 0 where
  pub utf8 : IsUtf8 (pointer_text path)
  pub bytes : All (λ b. b < 256) (pointer_text path)
  pub fits : HasFittingIndexes path

-- The pointer of a path, looked up from a URI, leads to a place with its value, its draft and its base.
abbrev pub LeadsTo : World → List ℕ → List Part → Place → Type 0
LeadsTo world uri path q =
    (base : List ℕ) → q.base ≡ Ok base
    → located_value world uri path
    ≡ Ok (record {
      value = q.value;
      draft = q.draft;
      resolver = record { base = base; scope = uri ∷ [] };
    })

-- The two agree at each place at or below such a resource, by the path from there, in a document whose children are at their
-- paths.
abbrev pub WalksAgree : Type 0
WalksAgree =
    (layer : Layer) (parents : World) (d : Document) (r q : Place) (uri : List ℕ) (path : List Part)
    → ChildrenAreThere d → IsReadAlike layer d r uri → IsAtOrBelow q r → q.path ≡ r.path ++ path
    → IsPathOfTexts path
    → LeadsTo (layer ∷ parents) uri path q
