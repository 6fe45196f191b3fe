use Rattle.std.proofs.Common.{◌≡◌, ◌+◌, length}
use Rattle.ref_lsp.specs.Turns as turns
use Rattle.ref_lsp.proofs.texts.last_put.Given as goal

abbrev pub invariant-texts : goal.invariant-texts
invariant-texts l =
    (turns.latest l.number 0 l.texts ≡ turns.later l.found (turns.latest l.number l.place l.rest))
    × (l.place + length l.rest ≡ length l.texts)

abbrev pub decreases-texts : goal.decreases-texts
decreases-texts l = length l.rest
