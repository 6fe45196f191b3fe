use Rattle.std.proofs.Common.{List, ◌-◌, length}
use Rattle.ref_findings.specs.Sources.{Source}
use Rattle.ref_findings.specs.inner.Wanted.{IsGoing}
use Rattle.ref_findings.proofs.gathering.retrieve_next.Given as goal

abbrev pub invariant-loop-wants : goal.invariant-loop-wants
invariant-loop-wants g l =
    (sources gathered : List Source) → IsGoing (g.R.Retrieve.meaning l.retriever) l.draft sources l.initial.wants gathered
    → IsGoing (g.R.Retrieve.meaning l.retriever) l.draft sources l.wants gathered

abbrev pub decreases-loop-wants : goal.decreases-loop-wants
decreases-loop-wants g l = length l.wants.wanted.items - l.wants.next
