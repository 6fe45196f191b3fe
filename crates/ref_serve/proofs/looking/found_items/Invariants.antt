use Rattle.std.proofs.Common.{map, drop}
use Rattle.serde_json.specs.View.{view, items_view}
use Rattle.ref_resolver.specs.Resolving.{resolver_of as resolver_view}
use Rattle.ref_calls.specs.Calls.{each_item}
use Rattle.ref_serve.specs.Results.{question_in}
use Rattle.ref_serve.specs.inner.Seen.{started}
use Rattle.ref_serve.proofs.ListOfReferences.{IsSoFar}
use Rattle.ref_serve.proofs.looking.found_items.Given as goal

abbrev pub invariant-loop-index : goal.invariant-loop-index
invariant-loop-index l =
    let start = started l.asked (resolver_view l.resolver) in
    IsSoFar (map view l.list.items) (each_item (question_in start) l.index (items_view (drop l.index l.items))) (each_item (question_in start) 0 (items_view l.items))
