use Rattle.std.proofs.Common.{◌≡◌, ◌++◌, map, length}
use Rattle.std.specs.Vec.Iter.{into_iter_items, into_iter_len}
use Rattle.ref_calls.specs.Given.{given_of}
use Rattle.ref_serve.specs.inner.Mended.{tree_maybe, with_trees}
use Rattle.ref_serve.proofs.mending.with_trees.Given as goal

abbrev pub invariant-loop-document : goal.invariant-loop-document
invariant-loop-document l =
    (map given_of l.list.items ++ with_trees (map given_of (into_iter_items l.document-iterator)) (map tree_maybe (into_iter_items l.trees)) ≡ with_trees (map given_of l.fn.documents.items) (map tree_maybe l.fn.trees.items))
    × (into_iter_len l.document-iterator ≡ length (into_iter_items l.document-iterator)) × (into_iter_len l.trees ≡ length (into_iter_items l.trees))
