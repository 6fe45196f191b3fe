use Rattle.std.proofs.Common.{◌≡◌, ◌++◌, length, string_bytes}
use Rattle.std.specs.Str.{IsAscii}
use denote.Text.{Utf8}
use denote.Shadow.{shadow}
use Rattle.ref_uri.specs.Normal.{normal_text}
use Rattle.ref_uri.specs.inner.Written.{IsNormalUpTo}
use Rattle.ref_uri.proofs.written.push_normal_text.Given as goal

abbrev pub invariant-triples : goal.invariant-triples
invariant-triples l =
    (string_bytes l.buffer ++ normal_text l.rest ≡ string_bytes l.fn.buffer ++ normal_text l.fn.text)
    × IsNormalUpTo l.rest l.len × IsAscii l.rest × shadow (Utf8 l.rest)

abbrev pub decreases-triples : goal.decreases-triples
decreases-triples l = length l.rest
