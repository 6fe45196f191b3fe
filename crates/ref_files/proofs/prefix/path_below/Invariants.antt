use Rattle.std.proofs.Common.{◌≡◌, map, take, string_bytes}
use Rattle.ref_files.specs.declared.name.Name.{Name}
use Rattle.ref_files.specs.Plain.{path_of}
use Rattle.ref_files.proofs.prefix.path_below.Given as goal

abbrev pub invariant-loop-name : goal.invariant-loop-name
invariant-loop-name l = string_bytes l.path ≡ path_of l.folder (map (λ (name : Name). string_bytes name.text) (take l.name-index l.names))
