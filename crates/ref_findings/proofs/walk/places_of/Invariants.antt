use Rattle.std.proofs.Common.{◌-◌, map, take, length}
use Rattle.std.specs.List.{AllByRecursion}
use Rattle.serde_json.specs.View.{view}
use Rattle.ref_index.specs.Listed.{ChildrenAreAt}
use Rattle.ref_findings.specs.Places.{document, places_near}
use Rattle.ref_findings.specs.inner.Queue.{IsAt}
use Rattle.ref_findings.specs.inner.Seen.{place_of}
use Rattle.ref_findings.proofs.walk.places_of.Given as goal

abbrev pub invariant-loop-head : goal.invariant-loop-head
invariant-loop-head l =
    IsAt (document l.fn.draft l.uri (view l.value)) (map place_of l.places.items) l.head
    × AllByRecursion ChildrenAreAt (map place_of (take l.head l.places.items))

abbrev pub decreases-loop-head : goal.decreases-loop-head
decreases-loop-head l = length (places_near (document l.fn.draft l.uri (view l.value))) - l.head
