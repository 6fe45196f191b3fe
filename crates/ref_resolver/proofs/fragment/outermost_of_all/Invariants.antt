use Rattle.ref_definitions.specs.Anchors.{Named}
use Rattle.ref_resolver.specs.inner.Located.{IsLocated}
use Rattle.ref_resolver.specs.Resolving.{resolver_of, world_of}
use Rattle.ref_resolver.proofs.Scoping.{IsFoundFor}
use Rattle.ref_resolver.proofs.fragment.outermost_of_all.Given as goal

abbrev pub invariant-loop-outer : goal.invariant-loop-outer
invariant-loop-outer l =
    ((n : Named) → IsLocated l.fn.first n.place → IsFoundFor (world_of l.resolver) (resolver_of l.resolver) l.name n l.uri l.outer-iterator l.place)
    × (goal.iterator-loop-outer).can_next l.outer-iterator
    × (goal.iterator-loop-outer).is_finite l.outer-iterator
