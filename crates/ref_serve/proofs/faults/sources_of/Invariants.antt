use Rattle.std.proofs.Common.{◌≡◌, map, drop}
use Rattle.ref_calls.specs.Given.{given_of}
use Rattle.ref_calls.proofs.Further.{in_front}
use Rattle.ref_findings.specs.Entries.{source_of}
use Rattle.ref_serve.specs.Faults.{sources_under}
use Rattle.ref_serve.proofs.faults.sources_of.Given as goal

abbrev pub invariant-loop-document : goal.invariant-loop-document
invariant-loop-document l =
    in_front (map source_of l.sources.items) (sources_under l.field (map given_of (drop l.document-index l.documents))) ≡ sources_under l.field (map given_of l.documents)
