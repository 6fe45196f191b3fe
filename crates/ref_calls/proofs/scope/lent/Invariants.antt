use Rattle.std.proofs.Common.{◌≡◌, ◌++◌, map}
use Rattle.ref_calls.proofs.scope.lent.Given as goal

abbrev pub invariant-loop-uri : goal.invariant-loop-uri
invariant-loop-uri l = map (λ u. u.now) l.list.items ++ l.uri-iterator ≡ l.uris
