use Rattle.std.proofs.Common.{◌≡◌, map}
use Rattle.std.specs.List.{filter}
use Rattle.ref_draft.specs.Views.{walked_child}
use Rattle.ref_descriptions.specs.Below.{inner_schema, is_object_below}
use Rattle.ref_descriptions.specs.Views.{inner_of}
use Rattle.ref_descriptions.proofs.inner.below_schema.Given as goal

abbrev pub invariant-loop-child : goal.invariant-loop-child
invariant-loop-child l = map inner_of l.list.items ≡ map (inner_schema l.reading) (filter is_object_below (map walked_child l.yielded))
