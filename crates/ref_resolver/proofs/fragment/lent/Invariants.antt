use Rattle.std.proofs.Common.{◌≡◌, ◌++◌, map}
use Rattle.ref_resolver.proofs.fragment.lent.Given as goal

abbrev pub invariant-loop-uri : goal.invariant-loop-uri
invariant-loop-uri l = map (λ uri. uri.now) l.list.items ++ l.uri-iterator ≡ l.uris
