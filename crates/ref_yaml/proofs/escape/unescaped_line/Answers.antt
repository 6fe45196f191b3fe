use Rattle.std.proofs.Common.{◌≡◌, ◌≢◌, ◌≤◌, ℕ, List, ◌+◌, ◌-◌, ◌<◌, ◌∷◌, [], ◌++◌, All, Some, true, IsTrue, add-one, drop, drop-cons, get_or, length, option_map, arith}
use Rattle.std.proofs.lemmas.List.Elements.{All-cons}
use Rattle.ref_yaml.specs.Escapes.{nothing_read, by_byte, unescaped, unescaped_from}
use Rattle.ref_yaml.specs.Passing.{IsWithoutMark, reading_of}
use Rattle.ref_yaml.proofs.Texts.{passed, by_outside, in_line}
use Rattle.ref_yaml.proofs.escape.unescaped_line.Goals as goal
use Rattle.ref_yaml.proofs.escape.unescaped_line.Goals.{then-is_outside+then-byte-ne92+in_ok-push, else-is_outside+in_ok-next+in-Some}

pub loop-byte-preserved : goal.loop-byte-preserved
loop-byte-preserved c =
    let source = c.args.source.now in
    let part : List ℕ = c.after-rest.result.now in
    let l = c.loop-byte in
    let at = l.byte-index in
    let b : ℕ = get_or part at 0 in
    let rest : List ℕ = drop (at + 1) part in
    let h : at < length part = omega arith in
    let d : drop at part ≡ b ∷ rest = rw (add-one, drop-cons part at 0) in
    let line : IsWithoutMark 10 b = in_line b (omega arith) in
    let lines : All (IsWithoutMark 10) rest → All (IsWithoutMark 10) source = λ more. l.invariant.1 (rw d (All-cons (IsWithoutMark 10) b rest line more)) in
    let held = rw d at l.invariant.2 in
    elim c.if-is_outside.branch [
      | then-is_outside+then-byte-ne92+in_ok-push w ↦ rw (w.out-is, w.reading-is, w.is_outside-is) (
        l.invariant.0,
        lines,
        passed (reading_of l.reading) (reading_of l.reading) b rest l.out.items _ (b ∷ []) (unescaped source)
            (by_outside (reading_of l.reading) b (l.invariant.0 w.if-is_outside.true) w.if-byte-ne92.true) w.in_ok-push.ensures.items held,
      )
      | else-is_outside+in_ok-next+in-Some w ↦
          let v = rw w.in-Some.is at w.in_ok-next.ensures.value in
          rw (w.out-is, w.reading-is, w.is_outside-is)
          (w.is_outside_of-is_outside.ensures.value, lines, passed (reading_of l.reading) (reading_of w.in-Some.next) b rest l.out.items w.pass_byte.new.out.items v.0 (unescaped source) v.1 v.2 held)
    ]
