use Rattle.std.proofs.Common.{◌≡◌, ◌+◌, length, option_map}
use Rattle.ref_lsp.specs.Diagnostics as spec
use Rattle.ref_lsp.proofs.shown.is_bounded.Given as goal

abbrev pub invariant-notes : goal.invariant-notes
invariant-notes l =
    (spec.searches_from (option_map (λ j. (j.0.now.judged.items, j.1.now)) l.judged) 0 l.notes + l.left
    ≡ 48 + spec.searches_from (option_map (λ j. (j.0.now.judged.items, j.1.now)) l.judged) l.number l.rest)
    × (l.number + length l.rest ≡ length l.notes)

abbrev pub decreases-notes : goal.decreases-notes
decreases-notes l = length l.rest
