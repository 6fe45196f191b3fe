use Rattle.std.proofs.Common.{◌≡◌, ◌++◌, Some, map, length, option_map}
use Rattle.serde_json.specs.View.{view}
use Rattle.ref_paths.specs.Segment.{part_of}
use Rattle.ref_rules.specs.InPlace.{in_place}
use Rattle.ref_rules.proofs.applying.in_place.Given as goal

abbrev pub invariant-parts : goal.invariant-parts
invariant-parts l =
    l.flags.items ++ in_place l.draft (option_map (λ v. view v.now) l.at) (map part_of l.rest)
    ≡ in_place l.draft (Some (view l.root)) (map part_of l.path)

abbrev pub decreases-parts : goal.decreases-parts
decreases-parts l = length l.rest
