use Rattle.std.proofs.Common.{[], sym, ◌∙◌, refl, rules, arith}
use Rattle.std.proofs.KnownBytes.{Consumes-nil}
use Rattle.std.proofs.lemmas.Bool.{false≢true}
use Rattle.ref_streams.specs.inner.Held.{bytes_held}
use Rattle.ref_streams.proofs.Serving.{err_always, served_none, served_more, served_all, served_so_far, served_whole, answered_so_far, served_in_part, unwritten, lines_none, lines_more, lines_all, long_line}
use Rattle.ref_streams.proofs.service.serve.Goals as goal

pub loop-init : goal.loop-init
loop-init g c = record {
  served = served_none g.S.Service.may_answer c.args.service.now _ _ (bytes_held c.new-chunk.result) c.new-chunk.result.has_ended c.new-chunk.ensures.held;
  lines = lines_none _ (bytes_held c.new-chunk.result) c.new-chunk.ensures.held;
  end = λ e. absurd (false≢true (sym c.new-chunk.ensures.ended ∙ e));
  reads = refl;
  writes = refl;
}

pub returns-in-None-clause-served : goal.returns-in-None-clause-served
returns-in-None-clause-served g c =
    let next = rw c.in-None.is at c.in_ok-answer.ensures.next in
    let (bytes, consumes, (none, empty, end, same), stays) = next in (
      c.in_ok-answer.ensures.end c.loop.invariant.end end,
      served_all g.S.Service.may_answer c.args.service.now c.loop.service c.next_answer.new.service _ _ _ _ _ (bytes_held c.loop.chunk) (bytes_held c.next_answer.new.chunk) c.loop.chunk.has_ended c.next_answer.new.chunk.has_ended
          c.loop.invariant.served next,
    )

pub loop-preserved : goal.loop-preserved
loop-preserved g c =
    let next = rw c.in-Some.is at c.in_ok-answer.ensures.next in
    record {
      served = served_more g.S.Service.may_answer c.args.service.now c.loop.service c.next_answer.new.service _ _ _ _ _ _ (bytes_held c.loop.chunk) (bytes_held c.next_answer.new.chunk) c.loop.chunk.has_ended c.next_answer.new.chunk.has_ended
          c.in-Some.answer c.loop.invariant.served next c.in_ok-write-in-Some.ensures.taken;
      lines = lines_more g.S.Service.may_answer c.loop.service c.next_answer.new.service _ _ _ c.loop.counter (bytes_held c.loop.chunk) (bytes_held c.next_answer.new.chunk) c.loop.chunk.has_ended c.next_answer.new.chunk.has_ended
          c.in-Some.answer c.loop.invariant.lines next;
      end = c.in_ok-answer.ensures.end c.loop.invariant.end;
      reads = c.in_ok-answer.ensures.count ∙ c.loop.invariant.reads;
      writes = c.in_ok-write-in-Some.ensures.kept ∙ c.loop.invariant.writes;
    }

pub returns-in_err-answer-clause-so_far : goal.returns-in_err-answer-clause-so_far
returns-in_err-answer-clause-so_far g c =
    err_always c.from_residual.result _ (λ _ _.
    served_so_far g.S.Service.may_answer c.args.service.now c.loop.service c.next_answer.new.service _ _ _ _ _ (bytes_held c.loop.chunk) c.loop.chunk.has_ended c.loop.invariant.served c.in_err-answer.ensures.gave c.in_err-answer.ensures.stays)

pub returns-in_err-answer-clause-answered : goal.returns-in_err-answer-clause-answered
returns-in_err-answer-clause-answered g c =
    err_always c.from_residual.result _ (λ _.
    answered_so_far g.S.Service.may_answer c.args.service.now c.next_answer.new.service _ _ _ _
    (served_so_far g.S.Service.may_answer c.args.service.now c.loop.service c.next_answer.new.service _ _ _ _ _ (bytes_held c.loop.chunk) c.loop.chunk.has_ended c.loop.invariant.served c.in_err-answer.ensures.gave c.in_err-answer.ensures.stays))

pub returns-in_err-write-in-Some-clause-answered : goal.returns-in_err-write-in-Some-clause-answered
returns-in_err-write-in-Some-clause-answered g c =
    let next = rw c.in-Some.is at c.in_ok-answer.ensures.next in
    err_always c.from_residual-in_err-write-in-Some.result _ (λ _.
    unwritten g.S.Service.may_answer c.args.service.now c.loop.service c.next_answer.new.service _ _ _ _ _ (bytes_held c.loop.chunk) (bytes_held c.next_answer.new.chunk) c.loop.chunk.has_ended c.next_answer.new.chunk.has_ended
    c.in-Some.answer c.loop.invariant.served next)

pub returns-clause-so_far : goal.returns-clause-so_far
returns-clause-so_far g c _ =
    served_so_far g.S.Service.may_answer c.args.service.now c.loop.service c.loop.service _ _ _ _ _ (bytes_held c.loop.chunk) c.loop.chunk.has_ended c.loop.invariant.served ([], Consumes-nil _, λ _. refl) refl

pub returns-clause-answered : goal.returns-clause-answered
returns-clause-answered g c =
    answered_so_far g.S.Service.may_answer c.args.service.now c.loop.service _ _ _ _
    (served_so_far g.S.Service.may_answer c.args.service.now c.loop.service c.loop.service _ _ _ _ _ (bytes_held c.loop.chunk) c.loop.chunk.has_ended c.loop.invariant.served ([], Consumes-nil _, λ _. refl) refl)

pub returns-in_err-answer-clause-before_read : goal.returns-in_err-answer-clause-before_read
returns-in_err-answer-clause-before_read g c is =
    served_whole g.S.Service.may_answer c.args.service.now c.loop.service c.next_answer.new.service _ _ _ _ _ (bytes_held c.loop.chunk) c.loop.chunk.has_ended c.loop.invariant.served
    (c.in_err-answer.ensures.unfinished (search rules)) c.in_err-answer.ensures.stays

pub returns-in_err-answer-clause-memory : goal.returns-in_err-answer-clause-memory
returns-in_err-answer-clause-memory g c is = long_line _ _ _ c.loop.counter (bytes_held c.loop.chunk) c.loop.invariant.lines (c.in_err-answer.ensures.memory (search rules))

pub returns-clause-memory : goal.returns-clause-memory
returns-clause-memory g c _ = lines_all _ _ c.loop.counter (bytes_held c.loop.chunk) c.loop.invariant.lines (omega (arith, c.loop-test.false))

pub returns-in_err-write-in-Some-clause-in_part : goal.returns-in_err-write-in-Some-clause-in_part
returns-in_err-write-in-Some-clause-in_part g c is =
    let next = rw c.in-Some.is at c.in_ok-answer.ensures.next in
    served_in_part g.S.Service.may_answer c.args.service.now c.loop.service c.next_answer.new.service _ _ _ _ _ _ (bytes_held c.loop.chunk) (bytes_held c.next_answer.new.chunk) c.loop.chunk.has_ended c.next_answer.new.chunk.has_ended
    c.in-Some.answer c.loop.invariant.served next c.in_err-write-in-Some.ensures.front
