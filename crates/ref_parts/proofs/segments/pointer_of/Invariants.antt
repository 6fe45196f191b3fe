use Rattle.std.proofs.Common.{◌≡◌, map, take, string_bytes}
use Rattle.ref_paths.specs.Path.{HasFittingIndexes}
use Rattle.ref_parts.specs.Pointer.{pointer_text}
use Rattle.ref_paths.specs.Segment.{part_of}
use Rattle.ref_parts.proofs.segments.pointer_of.Given as goal

abbrev pub invariant-loop-segment : goal.invariant-loop-segment
invariant-loop-segment l =
    (string_bytes l.pointer ≡ pointer_text (map part_of (take l.segment-index l.path)))
    × HasFittingIndexes (map part_of (take l.segment-index l.path))
