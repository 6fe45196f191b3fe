use Rattle.std.proofs.Common.{◌≡◌, ◌++◌, map}
use Rattle.std.specs.List.{filter}
use Rattle.serde_json.specs.View.{members_view}
use Rattle.ref_draft.specs.Children.{each_member, has_object}
use Rattle.ref_descriptions.specs.Below.{inner_value}
use Rattle.ref_descriptions.specs.Views.{inner_of}
use Rattle.ref_descriptions.proofs.inner.push_members.Given as goal

abbrev pub invariant-loop-key : goal.invariant-loop-key
invariant-loop-key l =
    map inner_of l.list.items ++ map (inner_value l.reading l.kind) (filter has_object (each_member l.name (members_view l.key-iterator)))
    ≡ map inner_of l.initial.list.items ++ map (inner_value l.reading l.kind) (filter has_object (each_member l.name (members_view l.members.entries)))
