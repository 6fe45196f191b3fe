use Rattle.std.proofs.Common.{◌≡◌, ◌++◌, true, length, string_bytes}
use Rattle.std.specs.Str.{IsAscii}
use denote.Text.{Utf8}
use denote.Shadow.{shadow}
use Rattle.ref_uri.specs.Characters.{has_whole_triples}
use Rattle.ref_uri.specs.Normal.{normal_encoded}
use Rattle.ref_uri.specs.inner.Written.{in_case}
use Rattle.ref_uri.proofs.written.push_encoded.Given as goal

abbrev pub invariant-runs : goal.invariant-runs
invariant-runs l =
    (string_bytes l.buffer ++ normal_encoded (in_case l.case) l.rest ≡ string_bytes l.fn.buffer ++ normal_encoded (in_case l.case) l.fn.text)
    × IsAscii l.rest × (has_whole_triples l.rest ≡ true) × shadow (Utf8 l.rest)

abbrev pub decreases-runs : goal.decreases-runs
decreases-runs l = length l.rest
