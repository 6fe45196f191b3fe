use Rattle.std.proofs.Common.{◌≡◌, length}
use Rattle.serde_json.specs.View.{items_view}
use Rattle.ref_lsp.specs.Clients as spec
use Rattle.ref_lsp.proofs.life.has_markdown.Given as goal

abbrev pub invariant-formats : goal.invariant-formats
invariant-formats l = spec.has_markdown (items_view l.formats) ≡ spec.has_markdown (items_view l.rest)

abbrev pub decreases-formats : goal.decreases-formats
decreases-formats l = length l.rest
