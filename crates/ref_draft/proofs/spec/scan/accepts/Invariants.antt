use Rattle.std.proofs.Common.{◌≡◌, map}
use Rattle.std.specs.Slice.Iter.{iter_rest}
use Rattle.ref_draft.specs.ScanSteps.{scan}
use Rattle.ref_paths.specs.Segment.{part_of}
use Rattle.ref_draft.proofs.spec.scan.accepts.Given as goal

abbrev pub invariant-loop-segment : goal.invariant-loop-segment
invariant-loop-segment l =
    (goal.iterator-loop-segment).can_next l.rest × (goal.iterator-loop-segment).is_finite l.rest × (scan l.draft l.object (map part_of (iter_rest l.rest)) ≡ scan l.draft l.object l.segments)
