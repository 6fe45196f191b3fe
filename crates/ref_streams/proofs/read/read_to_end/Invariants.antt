use Rattle.std.proofs.Common.{◌≡◌, ◌-◌, length, vec_len}
use Rattle.std.specs.Io.KnownBytes.{Consumes}
use Rattle.ref_streams.proofs.read.read_to_end.Given as goal

abbrev pub invariant-loop-n : goal.invariant-loop-n
invariant-loop-n g l =
    Consumes (g.R.Source.remaining l.initial.reader) (g.R.Source.remaining l.reader) l.bytes.items
    × (g.R.Source.failures l.reader ≡ g.R.Source.failures l.initial.reader) × (length l.buffer ≡ 4096)

abbrev pub decreases-loop-n : goal.decreases-loop-n
decreases-loop-n g l = 18446744073709551616 - vec_len l.bytes
