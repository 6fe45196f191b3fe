use Rattle.std.proofs.Common.{◌≡◌, suc, ◌++◌, [], length, map, reverse}
use Rattle.std.specs.Option.{option_map_or}
use Rattle.ref_paths.specs.Segment.{part_of}
use Rattle.ref_index.proofs.path.segments_of.Given as goal

abbrev pub invariant-loop-rest : goal.invariant-loop-rest
invariant-loop-rest l = l.fn.path ≡ option_map_or (λ node. node.now) l.rest [] ++ reverse (map part_of l.segments.items)

abbrev pub decreases-loop-rest : goal.decreases-loop-rest
decreases-loop-rest l = option_map_or (λ node. suc (length node.now)) l.rest 0
