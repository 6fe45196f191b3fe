use Rattle.std.proofs.Common.{◌≡◌, map, length, option_map}
use Rattle.serde_json.specs.View.{view}
use Rattle.ref_paths.specs.Segment.{part_of}
use Rattle.ref_rules.specs.InPlace.{is_in_place}
use Rattle.ref_rules.proofs.applying.leads.Given as goal

abbrev pub invariant-parts : goal.invariant-parts
invariant-parts l =
    is_in_place l.draft (option_map (λ v. view v.now) l.schema) (map part_of l.path)
    ≡ is_in_place l.draft (option_map (λ v. view v.now) l.at) (map part_of l.rest)

abbrev pub decreases-parts : goal.decreases-parts
decreases-parts l = length l.rest
