use Rattle.std.proofs.Common.{◌≡◌, map, length}
use Rattle.std.specs.Vec.Iter.{into_iter_items, into_iter_len}
use Rattle.ref_error.specs.Retrieving.{trees_of}
use Rattle.ref_calls.specs.Calls.{under_uris}
use Rattle.ref_calls.specs.Given.{given_of}
use Rattle.ref_calls.proofs.Further.{in_front}
use Rattle.ref_calls.proofs.document.under_uris.Given as goal

abbrev pub invariant-loop-text : goal.invariant-loop-text
invariant-loop-text l =
    (in_front (trees_of l.pairs.items) (under_uris l.field (map given_of (into_iter_items l.text-iterator))) ≡ under_uris l.field (map given_of l.fn.documents.items))
    × (into_iter_len l.text-iterator ≡ length (into_iter_items l.text-iterator))
