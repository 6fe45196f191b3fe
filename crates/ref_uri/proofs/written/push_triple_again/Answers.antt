use Rattle.std.proofs.Common.{◌+◌, drop, string_bytes, arith}
use Rattle.std.proofs.lemmas.List.{length-drop}
use Rattle.ref_uri.proofs.NormalLemmas.{digits_in_front}
use Rattle.ref_uri.proofs.written.push_triple_again.Goals as goal

pub bounds-as_bytes-percent : goal.bounds-as_bytes-percent
bounds-as_bytes-percent c =
    let digits = digits_in_front (drop (c.args.percent + 1) (string_bytes c.args.buffer.now)) c.requires in
    omega (arith, digits.enough, length-drop (c.args.percent + 1) (string_bytes c.args.buffer.now))
