use Rattle.std.proofs.Common.{◌≡◌, map, take}
use Rattle.ref_paths.specs.Segment.{part_of}
use Rattle.ref_resolver.proofs.location.borrowed.Given as goal

abbrev pub invariant-loop-part : goal.invariant-loop-part
invariant-loop-part l = map part_of l.parts.items ≡ map part_of (take l.part-index l.path)
