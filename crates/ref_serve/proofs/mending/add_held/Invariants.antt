use Rattle.std.proofs.Common.{◌≡◌, ◌++◌, map, flat_map, length}
use Rattle.std.specs.Vec.Iter.{into_iter_items, into_iter_len}
use Rattle.ref_findings.specs.Held.{held_source}
use Rattle.ref_calls.specs.Given.{given_of}
use Rattle.ref_serve.specs.Mending.{document_of}
use Rattle.ref_serve.proofs.mending.add_held.Given as goal

abbrev pub invariant-loop-document : goal.invariant-loop-document
invariant-loop-document l =
    (map given_of l.documents.items ++ flat_map document_of (map held_source (into_iter_items l.document-iterator)) ≡ map given_of l.initial.documents.items ++ flat_map document_of (map held_source l.fn.held.items))
    × (into_iter_len l.document-iterator ≡ length (into_iter_items l.document-iterator))
