use Rattle.std.proofs.Common.{◌≡◌, map, flat_map, take, None}
use Rattle.ref_reach.specs.Views.{place_of}
use Rattle.ref_changes.specs.Changes.{first}
use Rattle.ref_comparison.specs.Further.{place_differences}
use Rattle.ref_comparison.specs.Views.{sides_of}
use Rattle.ref_comparison.specs.inner.Grouped.{places_in}
use Rattle.ref_comparison.proofs.further.places_difference.Given as goal

abbrev pub invariant-loop-place : goal.invariant-loop-place
invariant-loop-place l =
    first (flat_map (place_differences (sides_of l.sides) (places_in l.after)) (map place_of (take l.place-index l.places))) ≡ None
