use Rattle.std.proofs.Common.{◌≡◌, ◌++◌, map}
use Rattle.serde_json.specs.View.{view, members_view}
use Rattle.ref_draft.specs.Children.{AllAreThere, InKeyOrder, with_draft, children_below, children}
use Rattle.ref_draft.specs.inner.WalkSteps.{AreFoundIn, members_in}
use Rattle.ref_draft.specs.Views.{walked_child}
use Rattle.ref_draft.proofs.spec.walk.children.Given as goal

abbrev pub invariant-loop-keyword : goal.invariant-loop-keyword
invariant-loop-keyword l =
    (map walked_child l.children.items ++ map (with_draft l.draft) (children_below l.draft (members_view l.keyword-iterator))
    ≡ map (with_draft l.draft) (children l.draft (view l.contents)))
    × AllAreThere (view l.contents) (map walked_child l.children.items)
    × AreFoundIn (members_in (view l.contents)) (members_view l.keyword-iterator)
    × InKeyOrder (view l.contents)
