-- A fragment that is a name, as the code asks for it, for private clauses.
use Rattle.std.specs.Prelude.{ℕ, Bool, false, not, ◌==◌, List, [], ◌∷◌, Result}
use Rattle.ref_parts.specs.Pointer.{slash}
use Rattle.ref_definitions.specs.Results.{◌>>=◌}
use Rattle.ref_definitions.specs.World.{World}
use Rattle.ref_definitions.specs.Fault.{Fault}
use Rattle.ref_definitions.specs.Anchors.{anchor}
use Rattle.ref_definitions.specs.Lookup.{Resolver, Found, named_found}

-- whether a fragment is a name: it is neither empty nor a pointer
abbrev pub is_name : List ℕ → Bool
is_name [] = false
is_name (c ∷ text) = not (c == slash)

-- what a name leads to in the resource that a resolver is at
abbrev pub at_name : World → Resolver → List ℕ → Result Found Fault
at_name w r name = anchor w r.base name >>= λ n. named_found w r n n.kind
