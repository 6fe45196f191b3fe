-- What a name means under a URI of the dynamic scope, as the code asks for it, for private clauses.
use Rattle.std.specs.Prelude.{◌≡◌, ℕ, List, [], ◌∷◌, filter, flat_map, Option, MatchOption, Result, Ok}
use Rattle.ref_definitions.specs.World.{World}
use Rattle.ref_definitions.specs.Fault.{Fault}
use Rattle.ref_definitions.specs.Anchors.{Named, anchor}
use Rattle.ref_definitions.specs.Lookup.{Resolver, fault_of, entry_of, is_dynamic, unless_fault, entry_found, outermost, by_scope, in_scope}
use Rattle.ref_resolver.specs.declared.located.Located.{Located}
use Rattle.ref_resolver.specs.inner.Located.{IsLocated}

-- of what it means, the fault that ends a lookup, or else the dynamic entry
abbrev pub dynamic_of : List ℕ × Result Named Fault → Result (List (List ℕ × Named)) Fault
dynamic_of meaning =
    unless_fault (fault_of meaning) (Ok (filter (λ e. is_dynamic e.1.kind) (entry_of meaning)))

-- under a URI
abbrev pub dynamic_under : World → List ℕ → List ℕ → Result (List (List ℕ × Named)) Fault
dynamic_under world uri name = dynamic_of (uri, anchor world uri name)

-- a place is that of the dynamic entry, and none is there without one
abbrev pub IsDynamicUnder : World → List ℕ → List ℕ → Option Located → Type 0
IsDynamicUnder world uri name found =
    MatchOption found (dynamic_under world uri name ≡ Ok [])
    (λ l. (n : Named) × (dynamic_under world uri name ≡ Ok ((uri, n) ∷ []))
    × IsLocated l n.place)

-- what a dynamic anchor leads to by the scope is a place, with its identifier against a URI, under which the anchor
-- means it where the first entry is what it means under the base
abbrev pub IsOutermost : World → Resolver → Named → List ℕ → List ℕ → Located → Type 0
IsOutermost world r first name uri l =
    (n : Named) × (by_scope r first (in_scope world name r.scope) ≡ entry_found r (uri, n))
    × IsLocated l n.place × (anchor world r.base name ≡ Ok first → anchor world uri name ≡ Ok n)
    × ((outermost (r.base, first) (flat_map entry_of (in_scope world name r.scope))).0 ≡ uri)
