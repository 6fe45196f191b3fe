use Rattle.std.proofs.Common.{◌≡◌, ◌++◌, map, drop}
use Rattle.serde_json.specs.View.{view}
use Rattle.ref_paths.specs.Path.{value_at}
use Rattle.ref_paths.specs.Segment.{part_of}
use Rattle.ref_reach.proofs.leading.value_at.Given as goal

abbrev pub invariant-loop-segment : goal.invariant-loop-segment
invariant-loop-segment l = (value_at (view l.initial.value) (map part_of l.path) ≡ value_at (view l.value) (map part_of (drop l.segment-index l.path))) × (map part_of l.path ≡ l.at ++ map part_of (drop l.segment-index l.path))
