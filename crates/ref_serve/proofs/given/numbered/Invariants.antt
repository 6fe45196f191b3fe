use Rattle.std.proofs.Common.{◌≡◌, ◌++◌, map, drop}
use Rattle.ref_index.specs.Document.{document_of}
use Rattle.ref_definitions.specs.World.{local_documents}
use Rattle.ref_serve.specs.Opening.{numbered_from}
use Rattle.ref_serve.proofs.given.numbered.Given as goal

abbrev pub invariant-loop-number : goal.invariant-loop-number
invariant-loop-number l =
    l.entries ++ numbered_from l.number (map document_of (drop l.number l.document-items)) ≡ numbered_from 0 (local_documents l.registry)
