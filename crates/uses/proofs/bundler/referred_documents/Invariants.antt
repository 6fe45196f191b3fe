use Rattle.std.proofs.Common.{◌≡◌, map, take}
use Rattle.std.specs.List.{filter, filter_map}
use Rattle.referencing.specs.ListedPlaces.{listed_of}
use Rattle.uses.specs.Bundling.{refers_to, is_of}
use Rattle.uses.proofs.bundler.referred_documents.Given as goal

abbrev pub invariant-loop-place : goal.invariant-loop-place
invariant-loop-place l = l.uris.items ≡ filter_map refers_to (filter (is_of l.document) (map listed_of (take l.place-index l.place-items)))
