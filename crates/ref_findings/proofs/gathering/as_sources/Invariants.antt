use Rattle.std.proofs.Common.{◌≡◌, map, take}
use Rattle.ref_findings.specs.Entries.{source_of}
use Rattle.ref_findings.specs.Held.{held_source}
use Rattle.ref_findings.proofs.gathering.as_sources.Given as goal

abbrev pub invariant-loop-document : goal.invariant-loop-document
invariant-loop-document l = map source_of l.sources.items ≡ map held_source (take l.document-index l.held)
