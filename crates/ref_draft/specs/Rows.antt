-- Literal schemas for rows that compute.
use Prim.Native.String.{String as Literal}
use Rattle.std.specs.Prelude.{true, List, map, codes}
use Rattle.serde_json.specs.Data.{Data, boolean, string, array, object, no_items, item, no_members, member}
use Rattle.ref_paths.specs.Path.{Part, Key}
use Rattle.ref_draft.specs.declared.draft.Draft.{Draft}
use Rattle.ref_draft.specs.Children.{children}

abbrev pub empty : Data
empty = object no_members

abbrev pub yes : Data
yes = boolean true

abbrev pub text : Literal → Data
text t = string (codes t)

-- an object with one member, with two, the keys in byte order
abbrev pub one : Literal → Data → Data
one key d = object (member (codes key) d no_members)

abbrev pub two : Literal → Data → Literal → Data → Data
two key d other e = object (member (codes key) d (member (codes other) e no_members))

-- an array of one element, of two
abbrev pub list : Data → Data
list d = array (item d no_items)

abbrev pub pair : Data → Data → Data
pair d e = array (item d (item e no_items))

abbrev pub key : Literal → Part
key k = Key (codes k)

-- a schema that names its meta-schema
abbrev pub schema : Literal → Data
schema uri = one "$schema" (text uri)

-- a schema with keywords that the drafts read differently
abbrev pub sample : Data
sample =
    object
    (member (codes "$defs") (one "a" yes)
    (member (codes "additionalItems") yes (member (codes "contains") yes
    (member (codes "dependencies") (two "b" empty "c" (list yes))
    (member (codes "if") yes (member (codes "items") (list empty)
    (member (codes "prefixItems") (list yes)
    (member (codes "properties") (one "d" yes) no_members))))))))

-- the paths of its children
abbrev pub paths : Draft → List (List Part)
paths d = map (λ child. child.0) (children d sample)

-- {"dependencies":{"a":{},"b":["c"]},"items":[true,{}]}
abbrev pub dependent_schema : Data
dependent_schema = two "dependencies" (two "a" empty "b" (list (text "c"))) "items" (pair yes empty)
