use Rattle.std.proofs.Common.{◌≡◌, ◌++◌, map, drop}
use Rattle.serde_json.specs.View.{items_view}
use Rattle.ref_draft.specs.Children.{with_draft, elements_from}
use Rattle.ref_draft.specs.Views.{walked_child}
use Rattle.ref_draft.proofs.spec.walk.push_elements.Given as goal

abbrev pub invariant-loop-index : goal.invariant-loop-index
invariant-loop-index l =
    map walked_child l.children.items ++ map (with_draft l.draft) (elements_from l.keyword l.index (items_view (drop l.index l.items)))
    ≡ map walked_child l.initial.children.items ++ map (with_draft l.draft) (elements_from l.keyword 0 (items_view l.items))
