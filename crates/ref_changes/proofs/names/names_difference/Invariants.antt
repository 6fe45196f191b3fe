use Rattle.std.proofs.Common.{◌≡◌, map, flat_map, take, None}
use Rattle.ref_changes.specs.Changes.{first, name_differences}
use Rattle.ref_changes.specs.Views.{change_of, site_of_place, texts_of}
use Rattle.ref_changes.proofs.names.names_difference.Given as goal

abbrev pub invariant-loop-place : goal.invariant-loop-place
invariant-loop-place l =
    first (flat_map (name_differences (change_of l.change) (map site_of_place l.after.places.now) (texts_of l.names)) (map site_of_place (take l.place-index l.before))) ≡ None
