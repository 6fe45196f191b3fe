-- What is seen of structs.
use Rattle.std.specs.Prelude.{◌≡◌, ℕ, List, Option, None, Some, option_map, Result, Ok}
use Rattle.serde_json.specs.View.{view}
use Rattle.ref_definitions.specs.World.{World}
use Rattle.ref_definitions.specs.Fault.{Fault}
use Rattle.ref_definitions.specs.Lookup.{Resolver, Found as WorldFound, lookup}
use Rattle.ref_definitions.specs.Recursive.{lookup_recursive}
use Rattle.ref_index.specs.Spots.{Spot}
use Rattle.ref_resolver.specs.Locations.{IsValueAt, lookup_location, recursive_reference, location_view}
use Rattle.ref_resolver.specs.Resolving.{resolver_of}
use Rattle.ref_calls.specs.Given.{kept_of}
use Rattle.ref_serve.specs.declared.asked.Asked.{Asked}
use Rattle.ref_serve.specs.declared.asked.Start.{Start}
use Rattle.ref_serve.specs.declared.place.Found.{Found}
use Rattle.ref_serve.specs.Results as results

abbrev pub asked_view : Asked → results.Asked
asked_view a =
    record {
      number = a.number;
      world = a.registry.now.0;
      parents = a.registry.now.1;
      scopes = a.scopes.now;
      values = a.values;
      candidates = a.candidates;
      kept = option_map kept_of a.kept;
    }

-- what is asked, from a resolver
abbrev pub started : Asked → Resolver → results.Start
started a r = record { asked = asked_view a; resolver = r }

abbrev pub start_view : Start → results.Start
start_view s = started s.asked (resolver_of s.resolver)

-- what a reference means, or without one what a recursive reference means
abbrev pub answer_at : World → Resolver → Option (List ℕ) → Result WorldFound Fault
answer_at world r None = lookup_recursive world r
answer_at world r (Some reference) = lookup world r reference

-- where it is
abbrev pub place_at : World → Resolver → Option (List ℕ) → Option (ℕ × Spot)
place_at world r None = lookup_location world r (recursive_reference world r)
place_at world r (Some reference) = lookup_location world r reference

-- it was found at this place, and the resolver there
abbrev pub IsFoundBy : World → Option (ℕ × Spot) → Result WorldFound Fault → Found → Resolver
    → Type 0
IsFoundBy world at answer f r =
    (answer ≡ Ok (record { value = view f.value.now; draft = f.draft; resolver = r }))
    × IsValueAt world f.location (view f.value.now) × (at ≡ Some (location_view f.location))
