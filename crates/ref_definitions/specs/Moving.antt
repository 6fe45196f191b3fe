-- Places of a tree that is put below a path.
use Rattle.std.specs.Prelude.{List, ◌++◌}
use Rattle.ref_paths.specs.Path.{Part}
use Rattle.ref_definitions.specs.Places.{Place}

-- a place, with another path before its own
abbrev pub below_path : List Part → Place → Place
below_path front p = record p { path = front ++ p.path }
