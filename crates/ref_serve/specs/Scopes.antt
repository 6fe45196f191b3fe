-- How much of a dynamic scope matters to a look-up.
use Rattle.std.specs.Prelude.{◌≡◌, ◌==◌, Bool, true, ℕ, List, [], ◌∷◌, ◌++◌, Result, Ok, Err}
use Rattle.ref_parts.specs.Pointer.{slash}
use Rattle.ref_uri.specs.Targets.{fragment_part}
use Rattle.ref_definitions.specs.World.{World}
use Rattle.ref_definitions.specs.Fault.{Fault}
use Rattle.ref_definitions.specs.Lookup.{Resolver, Found, lookup}
use Rattle.ref_resolver.specs.Locations.{lookup_location}

-- whether there is no fragment, or it is a JSON Pointer
abbrev pub is_pointer : List ℕ → Bool
is_pointer [] = true
is_pointer (c ∷ text) = c == slash

-- a resolver with more URIs behind its scope, and what is found with these behind the scope there
abbrev pub with_behind : List (List ℕ) → Resolver → Resolver
with_behind more r = record r { scope = r.scope ++ more }

abbrev pub found_behind : List (List ℕ) → Result Found Fault → Result Found Fault
found_behind more (Ok f) = Ok (record f { resolver = with_behind more f.resolver })
found_behind more (Err fault) = Err fault

-- a look-up without a fragment or by a JSON Pointer, from a scope and from its innermost URI alone: the others stay behind
abbrev pub ScopeStaysBehind : Type 0
ScopeStaysBehind =
    (world : World) (base inner : List ℕ) (more : List (List ℕ)) (reference : List ℕ)
    → is_pointer (fragment_part reference) ≡ true
    → lookup world (record { base = base; scope = inner ∷ more }) reference
    ≡ found_behind more (lookup world (record { base = base; scope = inner ∷ [] }) reference)

-- and its value is at the same place
abbrev pub PlaceIsTheSame : Type 0
PlaceIsTheSame =
    (world : World) (base inner : List ℕ) (more : List (List ℕ)) (reference : List ℕ)
    → is_pointer (fragment_part reference) ≡ true
    → lookup_location world (record { base = base; scope = inner ∷ more }) reference
    ≡ lookup_location world (record { base = base; scope = inner ∷ [] }) reference

-- whatever is found has the scope that it is looked up from at its end
abbrev pub FoundEndsWithItsScope : Type 0
FoundEndsWithItsScope =
    (world : World) (r : Resolver) (reference : List ℕ) (found : Found)
    → lookup world r reference ≡ Ok found
    → (front : List (List ℕ)) × (found.resolver.scope ≡ front ++ r.scope)
