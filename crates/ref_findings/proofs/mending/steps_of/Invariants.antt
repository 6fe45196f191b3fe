use Rattle.std.proofs.Common.{◌≡◌, map, take}
use Rattle.ref_paths.specs.Segment.{part_of}
use Rattle.ref_findings.specs.inner.Seen.{step_of}
use Rattle.ref_findings.proofs.mending.steps_of.Given as goal

abbrev pub invariant-loop-part : goal.invariant-loop-part
invariant-loop-part l = map step_of l.steps.items ≡ map part_of (take l.part-index l.path)
