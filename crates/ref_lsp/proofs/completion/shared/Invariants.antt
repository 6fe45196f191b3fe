use Rattle.std.proofs.Common.{◌≡◌, ◌+◌, length}
use Rattle.ref_lsp.specs.Relative.{shared}
use Rattle.ref_lsp.proofs.Folders.{joined}
use Rattle.ref_lsp.proofs.completion.shared.Given as goal

abbrev pub invariant-bytes : goal.invariant-bytes
invariant-bytes l =
    (shared l.base l.uri ≡ joined l.start l.passed (shared l.left l.right))
    × (l.passed + length l.left ≡ length l.base)

abbrev pub decreases-bytes : goal.decreases-bytes
decreases-bytes l = length l.left
