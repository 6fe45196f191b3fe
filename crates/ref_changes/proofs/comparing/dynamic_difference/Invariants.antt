use Rattle.std.proofs.Common.{◌≡◌, map, flat_map, take, None}
use Rattle.ref_changes.specs.Changes.{first, name_differences}
use Rattle.ref_changes.specs.Views.{change_of, site_of_place, texts_of}
use Rattle.ref_changes.proofs.comparing.dynamic_difference.Given as goal

abbrev pub invariant-loop-names : goal.invariant-loop-names
invariant-loop-names l =
    first
    (flat_map
    (λ n. flat_map (name_differences (change_of l.change) (map site_of_place l.after.places.now) n) (map site_of_place l.before))
    (map texts_of (take l.names-index l.all)))
    ≡ None
