use Rattle.std.proofs.Common.{◌≡◌, ◌++◌, map}
use Rattle.ref_definitions.specs.Pending as world
use Rattle.ref_index.specs.Document.{document_of}
use Rattle.referencing.specs.Builder.{pending_under}
use Rattle.referencing.proofs.prepare.documents.Given as goal

abbrev pub invariant-loop-uri : goal.invariant-loop-uri
invariant-loop-uri l =
    (map document_of l.documents.items ++ map (world.document_of l.draft) (map pending_under l.uri-iterator) ≡ map (world.document_of l.draft) (map pending_under l.fn.pending.entries))
