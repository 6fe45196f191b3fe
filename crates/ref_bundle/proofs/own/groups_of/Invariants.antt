use Rattle.std.proofs.Common.{◌≡◌, [], map, length}
use Rattle.std.specs.Vec.Iter.{into_iter_items, into_iter_len}
use Rattle.ref_definitions.specs.Listing.{local_places}
use Rattle.referencing.specs.ListedPlaces.{listed_of}
use Rattle.ref_definitions.specs.World.{local_documents}
use Rattle.ref_bundle.specs.inner.Seen.{all_seen, gathered_places}
use Rattle.ref_bundle.specs.Saying.{seen_spot}
use Rattle.ref_bundle.proofs.own.groups_of.Given as goal

abbrev pub invariant-loop-place : goal.invariant-loop-place
invariant-loop-place l =
    (gathered_places (map (λ g. map seen_spot g.items) l.groups.items) (all_seen (local_documents l.registry) (map listed_of (into_iter_items l.place-iterator))) ≡ gathered_places [] (all_seen (local_documents l.registry) (local_places (local_documents l.registry))))
    × (into_iter_len l.place-iterator ≡ length (into_iter_items l.place-iterator))
