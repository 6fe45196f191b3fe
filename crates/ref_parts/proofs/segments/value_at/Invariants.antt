use Rattle.std.proofs.Common.{◌≡◌, map, drop}
use Rattle.serde_json.specs.View.{view}
use Rattle.ref_paths.specs.Path.{value_at}
use Rattle.ref_paths.specs.Segment.{part_of}
use Rattle.ref_parts.proofs.segments.value_at.Given as goal

abbrev pub invariant-loop-part : goal.invariant-loop-part
invariant-loop-part l = value_at (view l.here) (map part_of (drop l.part-index l.path)) ≡ value_at (view l.value) (map part_of l.path)
