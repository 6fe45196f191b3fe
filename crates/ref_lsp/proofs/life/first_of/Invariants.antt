use Rattle.std.proofs.Common.{◌≡◌, length}
use Rattle.serde_json.specs.View.{items_view}
use Rattle.ref_lsp.specs.Clients as spec
use Rattle.ref_lsp.proofs.life.first_of.Given as goal

abbrev pub invariant-names : goal.invariant-names
invariant-names l = spec.first_of (items_view l.names) ≡ spec.first_of (items_view l.rest)

abbrev pub decreases-names : goal.decreases-names
decreases-names l = length l.rest
