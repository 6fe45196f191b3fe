use Rattle.std.proofs.Common.{◌≡◌, map, flat_map, take, None}
use Rattle.ref_changes.specs.Changes.{first, site_differences}
use Rattle.ref_changes.specs.Views.{change_of, site_of_place}
use Rattle.ref_changes.proofs.comparing.places_difference.Given as goal

abbrev pub invariant-loop-place : goal.invariant-loop-place
invariant-loop-place l =
    first (flat_map (site_differences (change_of l.change) (map site_of_place l.after.places.now)) (map site_of_place (take l.place-index l.before))) ≡ None
