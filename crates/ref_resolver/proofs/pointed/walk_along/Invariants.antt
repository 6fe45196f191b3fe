use Rattle.std.proofs.Common.{◌≡◌, length}
use denote.Text.{Utf8}
use denote.Shadow.{shadow}
use Rattle.serde_json.specs.View.{view}
use Rattle.ref_parts.specs.Pointer.{tokens}
use Rattle.ref_resolver.specs.inner.Walking.{along_of, passed_along}
use Rattle.ref_resolver.proofs.pointed.walk_along.Given as goal

abbrev pub invariant-loop-token : goal.invariant-loop-token
invariant-loop-token l =
    (passed_along l.walk.draft l.walk.pointer.now (along_of l.fn.along) (view l.fn.along.value.now) (tokens l.fn.text) ≡ passed_along l.walk.draft l.walk.pointer.now (along_of l.along) (view l.along.value.now) (tokens l.rest))
    × shadow (Utf8 l.rest)

abbrev pub decreases-loop-token : goal.decreases-loop-token
decreases-loop-token l = length l.rest
