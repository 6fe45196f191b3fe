use Rattle.std.proofs.Common.{◌≡◌, ◌++◌, map, take, string_bytes}
use Rattle.std.specs.Char.{to_ascii_lowercase}
use Rattle.ref_uri.proofs.written.push_lower.Given as goal

abbrev pub invariant-loop-c : goal.invariant-loop-c
invariant-loop-c l = string_bytes l.buffer ≡ string_bytes l.fn.buffer ++ map to_ascii_lowercase (take l.c-index l.c-items)
