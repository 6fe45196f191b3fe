use Rattle.std.proofs.Common.{◌≡◌, true, IsTrue}
use Rattle.std.specs.Io.KnownBytes.{IsAtEnd}
use Rattle.ref_streams.specs.inner.Held.{bytes_held, GaveForLines}
use Rattle.ref_streams.specs.inner.Answering.{Served}
use Rattle.ref_streams.proofs.service.serve.Given as goal

abbrev pub invariant-loop : goal.invariant-loop
invariant-loop g l = record {
  served : Served g.S.Service.may_answer l.initial.service l.service (g.R.Source.remaining l.initial.reader) (g.R.Source.remaining l.reader)
      (g.W.Sink.taken l.initial.writer) (g.W.Sink.taken l.writer) (bytes_held l.chunk) l.chunk.has_ended;
  lines : GaveForLines l.counter (g.R.Source.remaining l.initial.reader) (g.R.Source.remaining l.reader) (bytes_held l.chunk);
  end : l.chunk.has_ended ≡ true → IsTrue (g.R.Source.ended l.reader) × IsAtEnd (g.R.Source.remaining l.reader);
  reads : g.R.Source.failures l.reader ≡ g.R.Source.failures l.initial.reader;
  writes : g.W.Sink.failures l.writer ≡ g.W.Sink.failures l.initial.writer;
}
