use Rattle.std.proofs.Common.{◌≡◌, map, take}
use Rattle.ref_findings.specs.Entries.{source_of}
use Rattle.ref_workspace.specs.Open.{document_of}
use Rattle.ref_workspace.specs.Workspace.{as_source}
use Rattle.ref_workspace.proofs.sources.sources_of.Given as goal

abbrev pub invariant-loop-document : goal.invariant-loop-document
invariant-loop-document l =
    map source_of l.sources.items ≡ map as_source (map document_of (take l.document-index l.documents))
