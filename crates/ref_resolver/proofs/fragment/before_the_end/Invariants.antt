use Rattle.std.proofs.Common.{◌≡◌, [], Ok, map, vec_len}
use Rattle.ref_definitions.specs.Anchors.{Named}
use Rattle.ref_resolver.specs.inner.Scoped.{dynamic_under}
use Rattle.ref_resolver.specs.Resolving.{resolver_of, world_of}
use Rattle.ref_resolver.proofs.Scoping.{IsLeft}
use Rattle.ref_resolver.proofs.fragment.before_the_end.Given as goal

abbrev pub invariant-loop-uri : goal.invariant-loop-uri
invariant-loop-uri l =
    ((n : Named) → IsLeft (world_of l.resolver) (resolver_of l.resolver) l.name n (map (λ uri. uri.now) l.uris.items))
    × (dynamic_under (world_of l.resolver) l.asked l.name ≡ Ok [])

abbrev pub decreases-loop-uri : goal.decreases-loop-uri
decreases-loop-uri l = vec_len l.uris
