use Rattle.std.proofs.Common.{◌≡◌, ◌++◌, map}
use Rattle.serde_json.specs.View.{members_view}
use Rattle.ref_draft.specs.Children.{with_draft, each_member}
use Rattle.ref_draft.specs.Views.{walked_child}
use Rattle.ref_draft.proofs.spec.walk.push_members.Given as goal

abbrev pub invariant-loop-key : goal.invariant-loop-key
invariant-loop-key l =
    map walked_child l.children.items ++ map (with_draft l.draft) (each_member l.keyword (members_view l.key-iterator))
    ≡ map walked_child l.initial.children.items ++ map (with_draft l.draft) (each_member l.keyword (members_view l.members.entries))
