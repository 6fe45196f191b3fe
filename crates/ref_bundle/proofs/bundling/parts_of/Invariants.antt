use Rattle.std.proofs.Common.{◌≡◌, ◌==◌, ◌&&◌, not, map, filter, take}
use Rattle.std.specs.List.{AllByRecursion}
use Rattle.ref_bundle.specs.inner.Reach.{is_marked}
use Rattle.ref_bundle.specs.inner.Seen.{numbered_document, numbered_part, HasBase}
use Rattle.ref_bundle.proofs.bundling.parts_of.Given as goal

abbrev pub invariant-loop-own : goal.invariant-loop-own
invariant-loop-own l =
    (map numbered_part l.parts.items ≡ filter (λ e. not (e.0 == l.top) && is_marked l.needed e.0) (map numbered_document (take l.own-index l.owns))) × AllByRecursion HasBase l.parts.items
