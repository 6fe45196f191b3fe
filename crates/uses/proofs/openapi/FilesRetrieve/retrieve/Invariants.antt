use Rattle.std.proofs.Common.{◌≡◌, bytes_eq, take, false}
use Rattle.std.specs.List.{list_any}
use Rattle.uses.proofs.openapi.FilesRetrieve.retrieve.Given as goal

abbrev pub invariant-loop-at : goal.invariant-loop-at
invariant-loop-at l = list_any (λ file. bytes_eq file.0 l.uri) (take l.at-index l.at-items) ≡ false
