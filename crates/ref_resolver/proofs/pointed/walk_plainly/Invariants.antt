use Rattle.std.proofs.Common.{◌≡◌, ◌≢◌, All, length}
use denote.Text.{Utf8}
use denote.Shadow.{shadow}
use Rattle.serde_json.specs.View.{view}
use Rattle.ref_parts.specs.Pointer.{tokens}
use Rattle.ref_resolver.specs.inner.Walking.{along_of, passed_along}
use Rattle.ref_resolver.proofs.pointed.walk_plainly.Given as goal

abbrev pub invariant-loop-place : goal.invariant-loop-place
invariant-loop-place l =
    (passed_along l.walk.draft l.walk.pointer.now (along_of l.fn.along) (view l.fn.along.value.now) (tokens l.fn.text) ≡ passed_along l.walk.draft l.walk.pointer.now (along_of l.along) (view l.along.value.now) (tokens l.rest))
    × (All (λ b. b ≢ 37) l.rest → All (λ b. b ≢ 37) l.fn.text)
    × shadow (Utf8 l.rest)

abbrev pub decreases-loop-place : goal.decreases-loop-place
decreases-loop-place l = length l.rest
