use Rattle.std.proofs.Common.{◌≡◌, map, flat_map, take}
use Rattle.ref_changes.specs.Changes.{with_each, keyword_names}
use Rattle.ref_changes.specs.Views.{change_of, site_of_place, texts_of}
use Rattle.ref_changes.proofs.names.add_place.Given as goal

abbrev pub invariant-loop-keyword : goal.invariant-loop-keyword
invariant-loop-keyword l =
    map texts_of l.all.items
    ≡ with_each (map texts_of l.initial.all.items) (flat_map (keyword_names (change_of l.change) (site_of_place l.before) (site_of_place l.after)) (map (λ k. k.now) (take l.keyword-index l.keyword-items)))
