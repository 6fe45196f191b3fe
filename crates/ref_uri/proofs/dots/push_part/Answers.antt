use Rattle.std.proofs.Common.{string_bytes, slice_range, drop, ◌-◌, subst, sym}
use Rattle.std.specs.Str.{IsAscii}
use Rattle.std.proofs.lemmas.Str.{IsAscii-append, IsAscii-take, IsAscii-drop}
use Rattle.ref_uri.proofs.dots.push_part.Goals as goal

pub settle-requires-clause-buffer_ascii : goal.settle-requires-clause-buffer_ascii
settle-requires-clause-buffer_ascii c =
    let buffer = string_bytes c.push_slash.new.buffer in
    let ascii = c.in_ok-push_slash.ensures.ascii c.requires.buffer_ascii in
    let part = IsAscii-take (drop c.args.from buffer) (c.args.to - c.args.from) (IsAscii-drop buffer c.args.from ascii) in
    subst IsAscii (sym c.in_ok-extend_from_within.ensures.bytes) (IsAscii-append buffer (slice_range buffer c.args.from c.args.to) ascii part)
