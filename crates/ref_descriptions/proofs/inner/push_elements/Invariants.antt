use Rattle.std.proofs.Common.{◌≡◌, ◌++◌, map, drop}
use Rattle.std.specs.List.{filter}
use Rattle.serde_json.specs.View.{items_view}
use Rattle.ref_draft.specs.Children.{elements_from, has_object}
use Rattle.ref_descriptions.specs.Below.{inner_value}
use Rattle.ref_descriptions.specs.Views.{inner_of}
use Rattle.ref_descriptions.proofs.inner.push_elements.Given as goal

abbrev pub invariant-loop-index : goal.invariant-loop-index
invariant-loop-index l =
    map inner_of l.list.items ++ map (inner_value l.reading l.kind) (filter has_object (elements_from l.name l.index (items_view (drop l.index l.items))))
    ≡ map inner_of l.initial.list.items ++ map (inner_value l.reading l.kind) (filter has_object (elements_from l.name 0 (items_view l.items)))
