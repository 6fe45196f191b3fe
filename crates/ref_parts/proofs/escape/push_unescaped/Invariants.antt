use Rattle.std.proofs.Common.{◌≡◌, ◌∷◌, ◌++◌, length, string_bytes}
use denote.Text.{Utf8}
use denote.Shadow.{shadow}
use Rattle.ref_parts.specs.Pointer.{unescape, tilde}
use Rattle.ref_parts.proofs.escape.push_unescaped.Given as goal

abbrev pub invariant-runs : goal.invariant-runs
invariant-runs l =
    (string_bytes l.key ++ unescape l.rest ≡ string_bytes l.fn.key ++ unescape (tilde ∷ l.fn.escaped)) × shadow (Utf8 l.rest)

abbrev pub decreases-runs : goal.decreases-runs
decreases-runs l = length l.rest
