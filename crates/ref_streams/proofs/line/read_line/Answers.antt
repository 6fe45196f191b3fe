use Rattle.std.proofs.Common.{sym, ◌∙◌, arith}
use Rattle.ref_streams.specs.inner.Held.{bytes_held}
use Rattle.ref_streams.proofs.Getting.{got_line, got_last, got_more, got_unfinished, reads_more, reads_all}
use Rattle.ref_streams.proofs.line.read_line.Goals as goal

pub returns-then-pass-clause-next : goal.returns-then-pass-clause-next
returns-then-pass-clause-next g c =
    got_line _ _ (bytes_held c.args.chunk.now) (bytes_held c.loop.chunk) (bytes_held c.pass.new.chunk) c.loop.part c.pass.new.part c.into_line.result c.args.chunk.now.has_ended c.loop.chunk.has_ended c.pass.new.chunk.has_ended
    c.loop.invariant.got c.if-pass.ensures.passed c.pass.ensures.ended c.into_line.ensures.value

pub returns-then-chunk-clause-next : goal.returns-then-chunk-clause-next
returns-then-chunk-clause-next g c =
    got_last _ _ (bytes_held c.args.chunk.now) (bytes_held c.loop.chunk) (bytes_held c.pass.new.chunk) c.loop.part c.pass.new.part c.into_last.result c.args.chunk.now.has_ended c.loop.chunk.has_ended c.pass.new.chunk.has_ended
    c.loop.invariant.got c.if-pass.ensures.passed c.pass.ensures.ended c.if-chunk.true c.into_last.ensures.value

pub loop-preserved : goal.loop-preserved
loop-preserved g c = record {
  got = got_more _ _ _ (bytes_held c.args.chunk.now) (bytes_held c.loop.chunk) (bytes_held c.pass.new.chunk) (bytes_held c.fill.new.self) c.loop.part c.pass.new.part c.args.chunk.now.has_ended c.loop.chunk.has_ended c.fill.new.self.has_ended
      c.loop.invariant.got c.if-pass.ensures.passed (sym c.pass.ensures.ended ∙ c.if-chunk.false) c.in-Ok.ensures.bytes;
  end = λ _ e. ((c.in-Ok.ensures.end e).1, (c.in-Ok.ensures.end e).2);
  count = c.in-Ok.ensures.count ∙ c.loop.invariant.count;
  reads = reads_more _ _ _ c.loop.counter (bytes_held c.fill.new.self) c.loop.chunk.has_ended c.fill.new.self.has_ended c.loop.invariant.reads (sym c.pass.ensures.ended ∙ c.if-chunk.false) c.in-Ok.ensures.bytes c.in-Ok.ensures.some;
}

pub returns-in-Err-clause-unfinished : goal.returns-in-Err-clause-unfinished
returns-in-Err-clause-unfinished g c _ =
    got_unfinished _ _ _ (bytes_held c.args.chunk.now) (bytes_held c.loop.chunk) (bytes_held c.pass.new.chunk) c.loop.part c.pass.new.part c.args.chunk.now.has_ended c.loop.chunk.has_ended
    c.loop.invariant.got c.if-pass.ensures.passed (sym c.pass.ensures.ended ∙ c.if-chunk.false) c.in-Err.ensures.kept

pub returns-clause-memory : goal.returns-clause-memory
returns-clause-memory g c _ = reads_all _ _ c.loop.counter c.loop.chunk.has_ended c.loop.invariant.reads (omega (arith, c.loop-test.false))
