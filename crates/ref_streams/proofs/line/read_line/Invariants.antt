use Rattle.std.proofs.Common.{◌≡◌, true, IsTrue}
use Rattle.std.specs.Io.KnownBytes.{IsAtEnd}
use Rattle.ref_streams.specs.inner.Held.{bytes_held, Got, GaveForReads}
use Rattle.ref_streams.proofs.line.read_line.Given as goal

abbrev pub invariant-loop : goal.invariant-loop
invariant-loop g l = record {
  got : Got (g.R.Source.remaining l.initial.source) (g.R.Source.remaining l.source) (bytes_held l.initial.chunk) (bytes_held l.chunk) l.part l.initial.chunk.has_ended l.chunk.has_ended;
  end : (l.initial.chunk.has_ended ≡ true → IsTrue (g.R.Source.ended l.initial.source) × IsAtEnd (g.R.Source.remaining l.initial.source))
      → l.chunk.has_ended ≡ true → IsTrue (g.R.Source.ended l.source) × IsAtEnd (g.R.Source.remaining l.source);
  reads : GaveForReads l.counter (g.R.Source.remaining l.initial.source) (g.R.Source.remaining l.source) l.chunk.has_ended;
  count : g.R.Source.failures l.source ≡ g.R.Source.failures l.initial.source;
}
