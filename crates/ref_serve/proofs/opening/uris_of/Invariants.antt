use Rattle.std.proofs.Common.{◌≡◌, ◌++◌, drop, map}
use Rattle.serde_json.specs.Data.{string}
use Rattle.serde_json.specs.View.{view}
use Rattle.ref_index.specs.Document.{document_of}
use Rattle.ref_definitions.specs.World.{local_documents}
use Rattle.ref_serve.proofs.opening.uris_of.Given as goal

abbrev pub invariant-loop-document : goal.invariant-loop-document
invariant-loop-document l =
    map view l.list.items ++ map (λ t. string t) (map (λ d. d.uri) (map document_of (drop l.document-index l.document-items))) ≡ map (λ t. string t) (map (λ d. d.uri) (local_documents l.registry))
