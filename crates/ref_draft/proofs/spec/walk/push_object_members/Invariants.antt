use Rattle.std.proofs.Common.{◌≡◌, ◌++◌, map}
use Rattle.std.specs.List.{filter}
use Rattle.serde_json.specs.View.{members_view}
use Rattle.ref_draft.specs.Children.{with_draft, each_member, has_object}
use Rattle.ref_draft.specs.Views.{walked_child}
use Rattle.ref_draft.proofs.spec.walk.push_object_members.Given as goal

abbrev pub invariant-loop-key : goal.invariant-loop-key
invariant-loop-key l =
    map walked_child l.children.items ++ map (with_draft l.draft) (filter has_object (each_member l.keyword (members_view l.key-iterator)))
    ≡ map walked_child l.initial.children.items ++ map (with_draft l.draft) (filter has_object (each_member l.keyword (members_view l.members.entries)))
