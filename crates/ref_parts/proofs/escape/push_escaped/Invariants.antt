use Rattle.std.proofs.Common.{◌≡◌, ◌≤◌, ◌+◌, ◌++◌, length, take, string_bytes, string_len, string_capacity}
use denote.Text.{Utf8}
use denote.Shadow.{shadow}
use Rattle.ref_parts.specs.Pointer.{escape}
use Rattle.ref_parts.proofs.escape.push_escaped.Given as goal

abbrev pub invariant-runs : goal.invariant-runs
invariant-runs l = record {
  text : string_bytes l.buffer ++ escape l.rest ≡ string_bytes l.fn.buffer ++ escape l.fn.value;
  len : string_len l.buffer + length (escape l.rest) ≡ string_len l.fn.buffer + length (escape l.fn.value);
  grown : string_len l.fn.buffer ≤ string_len l.buffer;
  front : take (string_len l.fn.buffer) (string_bytes l.buffer) ≡ string_bytes l.fn.buffer;
  capacity : string_capacity l.fn.buffer ≤ string_capacity l.buffer;
  utf8 : shadow (Utf8 l.rest);
}

abbrev pub decreases-runs : goal.decreases-runs
decreases-runs l = length l.rest
