-- What is seen of steps that are followed.
use Rattle.std.specs.Prelude.{◌≡◌, ℕ, Option, option_map, IfSome, Result, Ok, Err}
use Rattle.serde_json.specs.View.{view}
use Rattle.serde_json.specs.declared.value.Value.{Value}
use Rattle.ref_definitions.specs.World.{World}
use Rattle.ref_definitions.specs.Fault.{Fault}
use Rattle.ref_definitions.specs.Lookup.{Found as WorldFound}
use Rattle.ref_definitions.specs.Follow as world
use Rattle.ref_index.specs.Spots.{Spot}
use Rattle.ref_resolver.specs.Locations.{IsValueAt, location_view}
use Rattle.ref_resolver.specs.Resolving.{resolver_of}
use Rattle.ref_json.specs.declared.stop.Stop.{Stop}
use Rattle.ref_json.specs.declared.stop.Stop.TheVariants.{Memory, Because}
use Rattle.ref_calls.specs.Objects.{object_of}
use Rattle.ref_serve.specs.declared.following.Followed.{Followed}
use Rattle.ref_serve.specs.Following.{step_members}

-- where the steps before led
abbrev pub followed_view : Followed → world.Followed
followed_view f =
    record {
      last = option_map (λ x. (view x.value.now, x.draft)) f.last;
      resolver = resolver_of f.resolver;
    }

-- what was found last is at its location
abbrev pub IsPlaced : World → Followed → Type 0
IsPlaced w f = IfSome f.last (λ x. IsValueAt w x.location (view x.value.now))

-- where that is
abbrev pub placed_at : Followed → Option (ℕ × Spot)
placed_at f = option_map (λ x. location_view x.location) f.last

-- what a look-up finds is where the steps led
abbrev pub IsLookedUpTo : Result WorldFound Fault → world.Followed → Type 0
IsLookedUpTo answer f = (found : WorldFound) × (answer ≡ Ok found) × (f ≡ world.after_lookup found)

-- the error is that of the step which is faulty, unless memory ran out
abbrev pub IsStepError : Result world.Followed (ℕ × Fault) → Stop Value → Type 0
IsStepError answer Memory = Unit {0}
IsStepError answer (Because value) =
    (n : ℕ) × (fault : Fault) × (answer ≡ Err (n, fault))
    × (view value ≡ object_of (step_members n fault))
