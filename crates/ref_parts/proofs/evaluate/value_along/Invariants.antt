use Rattle.std.proofs.Common.{◌≡◌, length, All, ◌≢◌}
use denote.Text.{Utf8}
use denote.Shadow.{shadow}
use Rattle.serde_json.specs.View.{view}
use Rattle.ref_parts.specs.Pointer.{value_along, tokens, tilde}
use Rattle.ref_parts.proofs.evaluate.value_along.Given as goal

abbrev pub invariant-tokens : goal.invariant-tokens
invariant-tokens l =
    (value_along (view l.target) (tokens l.rest) ≡ value_along (view l.fn.document) (tokens l.fn.text))
    × (All (λ b. b ≢ tilde) l.fn.text → All (λ b. b ≢ tilde) l.rest) × shadow (Utf8 l.rest)

abbrev pub decreases-tokens : goal.decreases-tokens
decreases-tokens l = length l.rest
