use Rattle.std.proofs.Common.{◌≡◌, length}
use Rattle.serde_json.specs.View.{items_view}
use Rattle.ref_lsp.specs.Ranges as spec
use Rattle.ref_lsp.proofs.actions.has_fixes.Given as goal

abbrev pub invariant-kinds : goal.invariant-kinds
invariant-kinds l = spec.has_fixes (items_view l.kinds) ≡ spec.has_fixes (items_view l.rest)

abbrev pub decreases-kinds : goal.decreases-kinds
decreases-kinds l = length l.rest
