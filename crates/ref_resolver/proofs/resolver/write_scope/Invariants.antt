use Rattle.std.proofs.Common.{◌≡◌, ℕ, List, ◌++◌, codes}
use Rattle.std.specs.Fmt.{HasWritten, IsPlainFormatter}
use Rattle.std.specs.List.{join_by}
use Rattle.ref_resolver.proofs.Showing.{rest}
use Rattle.ref_resolver.proofs.resolver.write_scope.Given as goal

abbrev pub invariant-loop-uri : goal.invariant-loop-uri
invariant-loop-uri g l =
    (IsPlainFormatter l.fn.f → (text : List ℕ) × HasWritten g.W.Write.write_str_gives l.fn.f text l.f
    × (text ++ rest l.is_first l.uri-iterator ≡ join_by (λ uri. uri) (codes ", ") l.fn.scope))
    × (goal.iterator-loop-uri g).can_next l.uri-iterator
    × (goal.iterator-loop-uri g).is_finite l.uri-iterator
