use Rattle.std.proofs.Common.{◌≡◌, ℕ, List, None, bytes_eq, length}
use Rattle.std.specs.Vec.Iter.{into_iter_items, into_iter_len}
use Rattle.std.specs.HashMap.{get}
use Rattle.std.specs.Map.{update_all}
use Rattle.ref_error.proofs.retriever.last_of.Given as goal

abbrev pub invariant-loop-uri : goal.invariant-loop-uri
invariant-loop-uri l =
    ((wanted : List ℕ) → update_all bytes_eq (get bytes_eq l.documents) (into_iter_items l.uri-iterator) wanted ≡ update_all bytes_eq (λ _. None) l.fn.pairs.items wanted)
    × (into_iter_len l.uri-iterator ≡ length (into_iter_items l.uri-iterator))
