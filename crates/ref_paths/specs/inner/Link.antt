-- The parts of a path, read from its last link.
use Rattle.std.specs.Prelude.{List, [], ◌∷◌, ◌++◌, Option, Some, None}
use Rattle.std.specs.declared.rc.Rc.{Rc}
use Rattle.ref_paths.specs.Path.{Part}
use Rattle.ref_paths.specs.Segment.{part_of}
use Rattle.ref_paths.specs.declared.path.Link.{Link}

-- the parts that linked segments hold, the root's first
abbrev pub path_of : {A : Type 0} → Option (Rc Link A) → List Part
path_of None = []
path_of (Some link) = link.value.parent ++ part_of link.value.segment ∷ []
