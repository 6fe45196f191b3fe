use Rattle.std.proofs.Common.{◌≡◌, length}
use Rattle.std.specs.List.{list_any}
use Rattle.ref_lsp.specs.Keys.{has_schemas}
use Rattle.ref_lsp.proofs.completion.has_schemas.Given as goal

abbrev pub invariant-steps : goal.invariant-steps
invariant-steps l = list_any has_schemas l.steps ≡ list_any has_schemas l.rest

abbrev pub decreases-steps : goal.decreases-steps
decreases-steps l = length l.rest
