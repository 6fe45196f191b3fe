use Rattle.std.proofs.Common.{sym, ap, ◌∙◌, subst}
use Rattle.std.proofs.lemmas.List.{take_rest}
use Rattle.ref_streams.proofs.Writing.{IsWritten, written_more, written_still}
use Rattle.ref_streams.proofs.sink.write_whole.Goals as goal
use Rattle.ref_streams.proofs.sink.write_whole.Goals.{in-Ok, in-Err}

pub loop-preserved : goal.loop-preserved
loop-preserved g c =
    let contents = g.W.Write.contents in
    let old = contents c.args.writer.now in
    let mid = contents c.loop.writer in
    let new = contents c.write.new.self in
    let bytes = c.args.bytes.now in
    let rest = c.loop.rest.now in
    elim c.match-write.branch [
      | in-Ok w ↦
          let cut = written_more old mid new bytes rest w.in-Ok.n c.loop.invariant w.in-Ok.ensures.bytes in
          subst (IsWritten old new bytes) (sym (take_rest rest w.in-Ok.n) ∙ ap (λ r. r.now) (sym w.rest-is)) cut
      | in-Err w ↦
          subst (λ r. IsWritten old new bytes r.now) (sym w.rest-is) (written_still old mid new bytes rest c.loop.invariant w.in-Err.ensures.bytes)
    ]
