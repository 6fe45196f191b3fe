-- What could not be read.
use Rattle.std.specs.Prelude.{ℕ, List, map, string_bytes}
use Rattle.ref_files.specs.declared.failure.Failure.{Failure}
use Rattle.ref_files.specs.declared.failure.Failures.{Failures}

-- the paths, in the order in which they were tried
abbrev pub paths : Failures → List (List ℕ)
paths f = map (λ (one : Failure). string_bytes one.path) f.list.items
