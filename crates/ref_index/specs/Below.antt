-- Paths of places whose last parts have no link yet.
use Rattle.std.specs.Prelude.{List, [], ◌∷◌, ◌++◌, Option, Some, None}
use Rattle.ref_paths.specs.Path.{Part, Key}
use Rattle.ref_draft.specs.Views.{segment_parts}
use Rattle.ref_index.specs.declared.path.Tail.{Tail}
use Rattle.ref_index.specs.declared.path.Below.{Below}

-- a keyword and what follows it
abbrev pub tail_parts : Tail → List Part
tail_parts t = Key t.keyword.now ∷ segment_parts t.segment

-- what follows a path, where something does
abbrev pub parts_after : Option Tail → List Part
parts_after None = []
parts_after (Some t) = tail_parts t

-- the path
abbrev pub parts_of : Below → List Part
parts_of b = b.above ++ parts_after b.tail
