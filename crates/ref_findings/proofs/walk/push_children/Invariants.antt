use Rattle.std.proofs.Common.{◌≡◌, List, ◌++◌, map, IfSome}
use Rattle.ref_draft.specs.Views.{walked_child}
use Rattle.ref_definitions.specs.Places.{child_place}
use Rattle.ref_findings.specs.declared.place.Place.{Place}
use Rattle.ref_findings.specs.inner.Seen.{place_of, read_again, IsKeywordBelow}
use Rattle.ref_findings.proofs.walk.push_children.Given as goal

abbrev pub invariant-loop-child : goal.invariant-loop-child
invariant-loop-child l =
    ((more : List Place) × (l.places.items ≡ l.initial.places.items ++ more) × (map place_of more ≡ map (child_place l.path l.base.value) (map (read_again l.draft) (map walked_child l.yielded))))
    × IfSome l.last (IsKeywordBelow l.path)
