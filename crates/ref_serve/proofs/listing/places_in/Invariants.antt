use Rattle.std.proofs.Common.{◌≡◌, ◌++◌, map, drop}
use Rattle.serde_json.specs.View.{view}
use Rattle.ref_index.specs.Listing.{listed_of}
use Rattle.ref_serve.specs.Listings.{place_object}
use Rattle.ref_serve.proofs.listing.places_in.Given as goal

abbrev pub invariant-loop-place : goal.invariant-loop-place
invariant-loop-place l =
    map view l.list.items ++ map place_object (map listed_of (drop l.place-index l.place-items)) ≡ map place_object (map listed_of l.place-items)
