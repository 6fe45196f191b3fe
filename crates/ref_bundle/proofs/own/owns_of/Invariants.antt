use Rattle.std.proofs.Common.{◌≡◌, map, length}
use Rattle.std.specs.Vec.Iter.{into_iter_items, into_iter_len}
use Rattle.ref_definitions.specs.World.{local_documents}
use Rattle.ref_bundle.specs.Saying.{seen_spot}
use Rattle.ref_bundle.proofs.Gathering.{IsPartly}
use Rattle.ref_bundle.proofs.own.owns_of.Given as goal

abbrev pub invariant-loop-places : goal.invariant-loop-places
invariant-loop-places l =
    IsPartly (local_documents l.registry) (map (λ g. map seen_spot g.items) (into_iter_items l.places-iterator)) l.owns.items
    × (into_iter_len l.places-iterator ≡ length (into_iter_items l.places-iterator))
