use Rattle.std.proofs.Common.{◌≡◌, None, Ok, map}
use denote.Text.{Utf8}
use denote.Shadow.{shadow}
use Rattle.std.specs.List.{take_while, last_or}
use Rattle.std.specs.Option.{unwrap_or}
use Rattle.ref_definitions.specs.Lookup.{lookup}
use Rattle.ref_definitions.specs.Recursive.{answers_marked, lookup_recursive, outermost_marked}
use Rattle.ref_resolver.specs.Resolving.{resolver_of, world_of, found_of, world_found}
use Rattle.ref_resolver.specs.Locations.{recursive_reference}
use Rattle.ref_resolver.proofs.resolver.Resolver.recursive.Given as goal

abbrev pub invariant-loop-uri : goal.invariant-loop-uri
invariant-loop-uri l =
    (lookup_recursive (world_of l.self) (resolver_of l.self)
    ≡ outermost_marked (Ok (found_of l.resolved)) (map (λ uri. lookup (world_of l.self) (resolver_of l.self) uri) l.uri-iterator))
    × (lookup (world_of l.self) (resolver_of l.self) l.reference ≡ Ok (found_of l.resolved))
    × (world_found l.resolved ≡ world_of l.self)
    × (recursive_reference (world_of l.self) (resolver_of l.self) ≡ unwrap_or (last_or None (take_while (λ uri. answers_marked (lookup (world_of l.self) (resolver_of l.self) uri)) l.uri-iterator)) l.reference)
    × shadow (Utf8 l.reference)
    × (goal.iterator-loop-uri).can_next l.uri-iterator
    × (goal.iterator-loop-uri).is_finite l.uri-iterator
