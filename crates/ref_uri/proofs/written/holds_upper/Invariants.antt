use Rattle.std.proofs.Common.{◌≡◌, map, take}
use Rattle.std.specs.Char.{to_ascii_lowercase}
use Rattle.ref_uri.proofs.written.holds_upper.Given as goal

abbrev pub invariant-loop-c : goal.invariant-loop-c
invariant-loop-c l = map to_ascii_lowercase (take l.c-index l.text) ≡ take l.c-index l.text
