use Rattle.std.proofs.Common.{◌≡◌, ◌++◌, map}
use Rattle.serde_json.specs.View.{view, members_view}
use Rattle.ref_descriptions.specs.Below.{below_members, below_fields}
use Rattle.ref_descriptions.specs.Views.{inner_of}
use Rattle.ref_descriptions.proofs.inner.below_fields.Given as goal

abbrev pub invariant-loop-name : goal.invariant-loop-name
invariant-loop-name l =
    map inner_of l.list.items ++ below_members l.reading l.version (members_view l.name-iterator)
    ≡ below_fields l.reading (view l.fn.value) l.version
