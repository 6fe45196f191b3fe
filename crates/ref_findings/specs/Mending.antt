-- A source as it is read where texts in it mean no URI: `null` counts in place of each.
use Rattle.std.specs.Prelude.{ℕ, suc, Bool, true, false, List, [], ◌∷◌, ◌++◌, flat_map, map, codes, if◌then◌else◌, Some}
use Rattle.std.specs.List.{list_any}
use Rattle.serde_json.specs.Data.{Data, null, boolean, number, string, array, object, Items, no_items, item, Members, no_members, member}
use Rattle.ref_paths.specs.Path.{Part, Key, Index, part_eq}
use Rattle.ref_draft.specs.Keywords.{id_keyword}
use Rattle.ref_definitions.specs.Places.{Place}
use Rattle.ref_definitions.specs.Wants.{reference_at, schema_at}
use Rattle.ref_findings.specs.Places.{nearest_base, is_refused}

-- ---- which texts

-- a keyword, where the text under it means no URI
abbrev pub keyword_if : Bool → List ℕ → List (List ℕ)
keyword_if refused keyword = if refused then keyword ∷ [] else []

-- the keywords of a place whose texts mean no URI: its identifier, its `$ref` and its `$schema`
abbrev pub refused_keywords : Place → List (List ℕ)
refused_keywords p =
    keyword_if (is_refused (Some p.base)) (id_keyword p.draft)
    ++ (keyword_if (is_refused (reference_at (nearest_base p) p.value)) (codes "$ref")
    ++ keyword_if (is_refused (schema_at p.value)) (codes "$schema"))

-- the paths of these texts
abbrev pub refused_at : Place → List (List Part)
refused_at p = map (λ keyword. p.path ++ Key keyword ∷ []) (refused_keywords p)

-- ---- a tree with `null` at paths

-- the rest of a path that begins with a part
abbrev pub rest_after : Part → List Part → List (List Part)
rest_after part [] = []
rest_after part (first ∷ path) = if part_eq first part then path ∷ [] else []

-- the rests of the paths that do
abbrev pub rests : Part → List (List Part) → List (List Part)
rests part paths = flat_map (rest_after part) paths

-- whether a path is empty
abbrev pub is_empty : List Part → Bool
is_empty [] = true
is_empty (part ∷ path) = false

-- a value, or `null` where one of the paths ends at it
abbrev pub null_or : List (List Part) → Data → Data
null_or paths d = if list_any is_empty paths then null else d

-- a tree with `null` in place of the value at each of these paths that leads to one
abbrev mutual
  pub with_nulls : List (List Part) → Data → Data
  with_nulls paths null = null
  with_nulls paths (boolean b) = null_or paths (boolean b)
  with_nulls paths (number n) = null_or paths (number n)
  with_nulls paths (string s) = null_or paths (string s)
  with_nulls paths (array ds) = null_or paths (array (items_with_nulls paths 0 ds))
  with_nulls paths (object ms) = null_or paths (object (members_with_nulls paths ms))

  -- of elements that are counted from i on
  pub items_with_nulls : List (List Part) → ℕ → Items → Items
  items_with_nulls paths i no_items = no_items
  items_with_nulls paths i (item d ds) =
      item (with_nulls (rests (Index i) paths) d) (items_with_nulls paths (suc i) ds)

  pub members_with_nulls : List (List Part) → Members → Members
  members_with_nulls paths no_members = no_members
  members_with_nulls paths (member key d ms) =
      member key (with_nulls (rests (Key key) paths) d) (members_with_nulls paths ms)

-- the tree of a document with these places, as it is read
abbrev pub mended_tree : List Place → Data → Data
mended_tree places tree = with_nulls (flat_map refused_at places) tree
