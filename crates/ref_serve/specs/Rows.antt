-- Literal registries and calls for rows that compute.
use Prim.Native.String.{String as Literal}
use Rattle.std.specs.Prelude.{[], ◌∷◌, codes, false, Some, None}
use Rattle.serde_json.specs.Data.{Data, array, no_items, item}
use Rattle.ref_draft.specs.declared.draft.Draft.TheVariants.{Draft202012}
use Rattle.ref_definitions.specs.Rows.{at}
use Rattle.ref_calls.specs.Scopes.{own_scope}
use Rattle.ref_serve.specs.Results.{Start, start_from}
use Rattle.ref_serve.specs.State.{OpenRegistry, Registries}

-- an open registry of one document of 2020-12 without parents
abbrev pub registry : Literal → Data → OpenRegistry
registry uri tree = ((at Draft202012 uri tree ∷ []) ∷ [], [])

-- that registry under the number 0, and a closed one under 1
abbrev pub opened : Literal → Data → Registries
opened uri tree = Some (registry uri tree, []) ∷ None ∷ []

-- a list of three
abbrev pub triple : Data → Data → Data → Data
triple a b c = array (item a (item b (item c no_items)))

-- what is asked of no world in which one scope is kept, from a base with an empty scope
abbrev pub from_base : Literal → Start
from_base base =
    start_from
    (record {
      number = 0;
      world = [];
      parents = [];
      scopes = (codes "http://e/" ∷ []) ∷ [];
      values = false;
      candidates = false;
      kept = None;
    }) (codes base) (own_scope [])
