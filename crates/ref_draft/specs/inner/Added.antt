-- What is added to the list of children.
use Rattle.std.specs.Prelude.{◌≡◌, List, ◌++◌, map}
use Rattle.ref_draft.specs.declared.draft.Draft.{Draft}
use Rattle.ref_draft.specs.declared.spec.walk.Child.{Child}
use Rattle.ref_draft.specs.Children.{Child as Pair, with_draft}
use Rattle.ref_draft.specs.Views.{walked_child}

-- the children cs were added at the end, each with the draft that d detects on it
abbrev pub Adds : Draft → List Pair → List Child → List Child → Type 0
Adds d cs old new = map walked_child new ≡ map walked_child old ++ map (with_draft d) cs
