-- A resolver of the program as the definitions have it.
use Rattle.serde_json.specs.View.{view}
use Rattle.ref_definitions.specs.World.{World}
use Rattle.ref_definitions.specs.Lookup as world
use Rattle.ref_resolver.specs.Layered.{world_in}
use Rattle.ref_resolver.specs.declared.resolver.Resolver.{Resolver}
use Rattle.ref_resolver.specs.declared.resolver.Resolved.{Resolved}

-- its base and dynamic scope
abbrev pub resolver_of : Resolver → world.Resolver
resolver_of r = record { base = r.base.value; scope = r.scope }

-- the world of its registry
abbrev pub world_of : Resolver → World
world_of r = world_in r.layers

-- what a lookup found: the value, its draft, and the resolver there
abbrev pub found_of : Resolved → world.Found
found_of r =
    record { value = view r.contents.now; draft = r.draft; resolver = resolver_of r.resolver }

-- the world of its registry
abbrev pub world_found : Resolved → World
world_found r = world_of r.resolver
