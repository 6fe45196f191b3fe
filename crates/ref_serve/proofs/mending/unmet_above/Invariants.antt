use Rattle.std.proofs.Common.{◌≡◌, List, length}
use Rattle.std.specs.Vec.Iter.{into_iter_items, into_iter_len}
use Rattle.ref_findings.specs.Findings.{Finding}
use Rattle.ref_findings.specs.Entries.{SaysFindings}
use Rattle.ref_serve.specs.inner.Mended.{world_above}
use Rattle.ref_serve.proofs.Passing.{IsPassed}
use Rattle.ref_serve.proofs.mending.unmet_above.Given as goal

abbrev pub invariant-loop-finding : goal.invariant-loop-finding
invariant-loop-finding l =
    ((fs : List Finding) → SaysFindings l.fn.found fs → IsPassed (world_above l.fn.above) (into_iter_items l.finding-iterator) l.list.items fs)
    × (into_iter_len l.finding-iterator ≡ length (into_iter_items l.finding-iterator))
