use Rattle.std.proofs.Common.{◌≡◌, [], map, flat_map, take}
use Rattle.ref_changes.specs.Changes.{with_each, site_names}
use Rattle.ref_changes.specs.Views.{change_of, site_of_place, texts_of}
use Rattle.ref_changes.proofs.names.all_names.Given as goal

abbrev pub invariant-loop-place : goal.invariant-loop-place
invariant-loop-place l =
    map texts_of l.all.items
    ≡ with_each [] (flat_map (site_names (change_of l.change) (map site_of_place l.after.places.now)) (map site_of_place (take l.place-index l.before)))
