use Rattle.std.proofs.Common.{map, drop}
use Rattle.serde_json.specs.View.{view}
use Rattle.ref_lint.specs.Dangling.{dangling}
use Rattle.ref_serve.specs.Listings.{dangling_object}
use Rattle.ref_serve.proofs.DanglingList.{IsLeft}
use Rattle.ref_serve.proofs.listing.dangling_in.Given as goal

abbrev pub invariant-loop-entry : goal.invariant-loop-entry
invariant-loop-entry l = IsLeft (drop l.entry-index l.entry-items) (map view l.list.items) (map dangling_object (dangling l.registry))
