-- A place of the program that is to be visited, as one of the definitions.
use Rattle.std.specs.Prelude.{ℕ, List}
use Rattle.serde_json.specs.Data.{Data}
use Rattle.serde_json.specs.View.{view}
use Rattle.ref_paths.specs.Path.{Part}
use Rattle.ref_draft.specs.declared.draft.Draft.{Draft}
use Rattle.ref_draft.specs.Schema.{identifier}
use Rattle.ref_definitions.specs.Places.{Place, base_within}
use Rattle.ref_index.specs.Below.{parts_of}
use Rattle.ref_index.specs.declared.queue.ValueRef.{ValueRef}
use Rattle.ref_index.specs.declared.queue.ValueRef.TheVariants.{Borrowed, Owned}
use Rattle.ref_index.specs.declared.queue.Visit.{Visit}

-- the tree of a value that is walked
abbrev pub value_of : ValueRef → Data
value_of (Borrowed value path) = view value.now
value_of (Owned value path) = view value.now

-- its path
abbrev pub path_of : ValueRef → List Part
path_of (Borrowed value path) = parts_of path
path_of (Owned value path) = parts_of path

-- the place with this path, value and draft, and this base around it
abbrev pub place_with : List Part → Data → Draft → List ℕ → Place
place_with path value draft outer =
    record {
      path = path;
      value = value;
      draft = draft;
      outer = outer;
      base = base_within outer (identifier draft value);
    }

-- the place of a visit
abbrev pub place_of : Visit → Place
place_of v = place_with (path_of v.value) (value_of v.value) v.draft v.outer.value
