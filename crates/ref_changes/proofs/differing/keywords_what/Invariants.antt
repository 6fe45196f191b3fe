use Rattle.std.proofs.Common.{◌≡◌, map, flat_map, take, None}
use Rattle.ref_changes.specs.Changes.{first, keyword_whats}
use Rattle.ref_changes.specs.Views.{change_of, site_of_place}
use Rattle.ref_changes.proofs.differing.keywords_what.Given as goal

abbrev pub invariant-loop-keyword : goal.invariant-loop-keyword
invariant-loop-keyword l =
    first (flat_map (keyword_whats (change_of l.change) (site_of_place l.before) (site_of_place l.after)) (map (λ k. k.now) (take l.keyword-index l.keyword-items))) ≡ None
