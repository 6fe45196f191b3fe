use Rattle.std.proofs.Common.{◌≡◌, ◌≤◌, ◌-◌, ◌++◌, true, take, drop, length, string_bytes}
use Rattle.std.specs.Str.{IsAscii}
use Rattle.ref_uri.specs.Characters.{has_whole_triples}
use Rattle.ref_uri.specs.Normal.{normal_text}
use Rattle.ref_uri.proofs.written.push_normal_again.Given as goal

abbrev pub invariant-runs : goal.invariant-runs
invariant-runs l =
    (take l.end (string_bytes l.buffer) ≡ string_bytes l.fn.buffer)
    × (string_bytes l.buffer ++ normal_text (drop l.at (string_bytes l.fn.buffer)) ≡ string_bytes l.fn.buffer ++ normal_text (drop l.start (string_bytes l.fn.buffer)))
    × (has_whole_triples (drop l.at (string_bytes l.fn.buffer)) ≡ true)
    × IsAscii (string_bytes l.buffer) × (l.at ≤ l.end) × (l.end ≤ length (string_bytes l.buffer))

abbrev pub decreases-runs : goal.decreases-runs
decreases-runs l = l.end - l.at
