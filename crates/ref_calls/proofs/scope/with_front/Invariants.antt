use Rattle.std.proofs.Common.{◌≡◌, ◌++◌, vec_len}
use Rattle.ref_calls.proofs.scope.with_front.Given as goal

abbrev pub invariant-loop-uri : goal.invariant-loop-uri
invariant-loop-uri l = l.uris.items ++ l.list ≡ l.fn.uris.items ++ l.fn.behind

abbrev pub decreases-loop-uri : goal.decreases-loop-uri
decreases-loop-uri l = vec_len l.uris
