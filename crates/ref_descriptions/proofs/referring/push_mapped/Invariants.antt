use Rattle.std.proofs.Common.{◌≡◌, ◌++◌, map}
use Rattle.serde_json.specs.View.{members_view}
use Rattle.ref_descriptions.specs.References.{mapped_references}
use Rattle.ref_descriptions.specs.Views.{reference_of}
use Rattle.ref_descriptions.proofs.referring.push_mapped.Given as goal

abbrev pub invariant-loop-key : goal.invariant-loop-key
invariant-loop-key l =
    map reference_of l.list.items ++ mapped_references (members_view l.key-iterator)
    ≡ map reference_of l.initial.list.items ++ mapped_references (members_view l.mapping.entries)
