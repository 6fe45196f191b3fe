-- The place that a request is about.
use Rattle.std.specs.Prelude.{ℕ, List, [], Option, Some, None}
use Rattle.ref_positions.specs.declared.part.Part.{Part}
use Rattle.ref_positions.specs.declared.part.Step.{Step}
use Rattle.ref_lsp.specs.declared.asked.Asked.{Asked}
use Rattle.ref_lsp.specs.Keys.{key_before}

abbrev pub path_in : Option Part → List Step
path_in (Some part) = part.path.items
path_in None = []

-- the steps to a value; none where there is none
abbrev pub path_of : Asked → List Step
path_of asked = path_in asked.part

-- its key, where its last step is to a member
abbrev pub key_of : Asked → Option (List ℕ)
key_of asked = key_before 0 (path_of asked)
