use Rattle.std.proofs.Common.{◌≡◌, ◌++◌, map}
use Rattle.ref_paths.specs.Segment.{part_of}
use Rattle.ref_reach.proofs.leading.joined.Given as goal

abbrev pub invariant-loop-segment : goal.invariant-loop-segment
invariant-loop-segment l = map part_of l.list.items ≡ map part_of l.initial.list.items ++ map part_of l.yielded
