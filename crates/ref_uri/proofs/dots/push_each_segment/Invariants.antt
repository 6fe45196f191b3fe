use Rattle.std.proofs.Common.{◌≡◌, ◌≤◌, true, length, string_bytes}
use Rattle.std.specs.List.{position_or_len}
use Rattle.std.specs.Str.{IsAscii}
use denote.Text.{Utf8}
use denote.Shadow.{shadow}
use Rattle.ref_uri.specs.Characters.{has_whole_triples}
use Rattle.ref_uri.proofs.LastSlash.{is_slash}
use Rattle.ref_uri.proofs.GivenSegments.{Left}
use Rattle.ref_uri.proofs.dots.push_each_segment.Given as goal

abbrev pub invariant-segments : goal.invariant-segments
invariant-segments l =
    Left l.form l.start (string_bytes l.fn.buffer) (string_bytes l.buffer) l.fn.progress l.progress l.fn.path l.rest
    × IsAscii (string_bytes l.buffer) × (l.start ≤ length (string_bytes l.buffer)) × IsAscii l.rest × (has_whole_triples l.rest ≡ true) × (l.len ≡ position_or_len is_slash l.rest)
    × shadow (Utf8 l.rest)

abbrev pub decreases-segments : goal.decreases-segments
decreases-segments l = length l.rest
