use Rattle.std.proofs.Common.{◌≡◌, ℕ, List, ◌++◌, length, map}
use denote.Text.{Utf8}
use denote.Shadow.{shadow}
use Rattle.serde_json.specs.View.{view}
use Rattle.ref_parts.specs.Pointer.{tokens}
use Rattle.ref_paths.specs.Segment.{part_of}
use Rattle.ref_resolver.specs.Locations.{parts_along}
use Rattle.ref_resolver.proofs.location.push_parts.Given as goal

abbrev pub invariant-loop-token : goal.invariant-loop-token
invariant-loop-token l =
    ((pointer : List ℕ) → map part_of l.path.items ++ parts_along pointer (view l.value) (tokens l.rest) ≡ map part_of l.fn.path.items ++ parts_along pointer (view l.fn.value) (tokens l.fn.text)) × shadow (Utf8 l.rest)

abbrev pub decreases-loop-token : goal.decreases-loop-token
decreases-loop-token l = length l.rest
