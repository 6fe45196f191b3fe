-- Where a pointer leads, with the path there, and where a name does.
use Rattle.std.specs.Prelude.{◌≡◌, ℕ, List, ◌∷◌, ◌++◌, Option, MatchOption, Result, Ok}
use Rattle.std.specs.Borrow.{Bor}
use Rattle.serde_json.specs.Data.{Data}
use Rattle.serde_json.specs.View.{view}
use Rattle.serde_json.specs.declared.value.Value.{Value}
use Rattle.ref_draft.specs.declared.draft.Draft.{Draft}
use Rattle.ref_definitions.specs.Results.{◌>>=◌}
use Rattle.ref_definitions.specs.Fault.{Fault, as_invalid_uri}
use Rattle.ref_definitions.specs.Pointers.{pointed_value}
use Rattle.ref_definitions.specs.Lookup as world
use Rattle.ref_paths.specs.Path.{Part}
use Rattle.ref_resolver.specs.Locations.{parts_along}

-- where a pointer leads in a resource of a draft that a resolver is at
abbrev pub at_pointer : world.Resolver → Draft → List ℕ → Data → List ℕ → Result world.Found Fault
at_pointer r draft pointer value text =
    pointed_value draft pointer r.base value text >>= λ to. Ok (world.pointer_found r draft to)

-- a value of a draft that an anchor names under a URI: its identifier is resolved against that URI
abbrev pub under_uri : world.Resolver → List ℕ → Draft → Data → Result world.Found Fault
under_uri r uri draft value =
    as_invalid_uri (world.in_subresource (record r { base = uri }) draft value)
    >>= λ moved. Ok (record { value = value; draft = draft; resolver = moved })

-- a token adds its part to a path where it leads to a value, and the parts of more tokens are those from there on
abbrev pub IsPartOn : List ℕ → Data → List ℕ → List (List ℕ) → List Part → List Part
    → Option (Bor Value) → Type 0
IsPartOn pointer value token more before after next =
    MatchOption next (after ≡ before ++ parts_along pointer value (token ∷ more))
    (λ v. after ++ parts_along pointer (view v.now) more
    ≡ before ++ parts_along pointer value (token ∷ more))
