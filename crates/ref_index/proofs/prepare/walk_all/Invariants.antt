use Rattle.std.proofs.Common.{◌≡◌, ◌++◌, map, length}
use Rattle.std.specs.Vec.Iter.{into_iter_items, into_iter_len}
use Rattle.ref_index.specs.Document.{document_of}
use Rattle.ref_index.proofs.prepare.walk_all.Given as goal

abbrev pub invariant-loop-document : goal.invariant-loop-document
invariant-loop-document l =
    (l.walked ≡ map document_of l.yielded)
    × (l.yielded ++ into_iter_items l.document-iterator ≡ into_iter_items l.initial.document-iterator)
    × (into_iter_len l.document-iterator ≡ length (into_iter_items l.document-iterator))
