use Rattle.std.proofs.Common.{◌≡◌, ◌+◌, ◌<◌, ◌∷◌, add-one, drop, drop-cons, get_or, length, arith}
use Rattle.ref_yaml.specs.Escapes.{unescaped}
use Rattle.ref_yaml.specs.Passing.{reading_of}
use Rattle.ref_yaml.proofs.Texts.{passed}
use Rattle.ref_yaml.proofs.escape.unescaped.Goals as goal

pub loop-byte-preserved : goal.loop-byte-preserved
loop-byte-preserved c =
    let source = c.args.source.now in
    let at = c.loop-byte.byte-index in
    let v = rw c.in-Some.is at c.in_ok-next.ensures.value in
    let h : at < length source = omega arith in
    let d : drop at source ≡ get_or source at 0 ∷ drop (at + 1) source = rw (add-one, drop-cons source at 0) in
    passed (reading_of c.loop-byte.reading) (reading_of c.in-Some.next) (get_or source at 0) (drop (at + 1) source) c.loop-byte.out.items c.pass_byte.new.out.items v.0
    (unescaped source) v.1 v.2 (rw d at c.loop-byte.invariant)
