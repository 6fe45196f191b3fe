use Rattle.std.proofs.Common.{◌≡◌, ◌++◌, string_bytes}
use Rattle.ref_lsp.specs.Relative as spec
use Rattle.ref_lsp.proofs.completion.push_ups.Given as goal

abbrev pub invariant-ups : goal.invariant-ups
invariant-ups l = string_bytes l.text ++ spec.ups l.left ≡ string_bytes l.fn.text ++ spec.ups l.count

abbrev pub decreases-ups : goal.decreases-ups
decreases-ups l = l.left
