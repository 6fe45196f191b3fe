use Rattle.std.proofs.Common.{ℕ, List, ◌≡◌, ◌≢◌, ◌≤◌, ◌+◌, ◌<◌, ◌==◌, ◌&&◌, Bool, nat_lt, if◌then◌else◌, true, false, [], ◌∷◌, ◌++◌, add-one, drop, drop-cons, get_or, length, arith, refl, ap, sym, ◌∙◌}
use Rattle.std.proofs.Math.ListN.{drop_of_length-le}
use Rattle.std.proofs.lemmas.Bool.{lt-ltb, ne_eqb}
use Rattle.ref_yaml.specs.Block.{is_ended, chomped, folded_lines, folded_text}
use Rattle.ref_yaml.proofs.Chomping.{by_break, by_indent, by_inside, by_first, by_end}
use Rattle.ref_yaml.proofs.lines.folded_text.Goals as goal
use Rattle.ref_yaml.proofs.lines.folded_text.Goals.{then-byte-eq10, else-byte-eq10+then-is_inside+in_ok-push, else-byte-eq10+else-is_inside+then-byte-eq32+then-left-gt0, else-byte-eq10+else-is_inside+else-byte-eq32+in_ok-push_first, else-byte-eq32-via-then-byte-eq32+else-left-gt0, else-byte-eq32-via-else-byte-eq32}

pub loop-byte-preserved : goal.loop-byte-preserved
loop-byte-preserved c =
    let body = c.args.body.now in
    let at = c.loop-byte.byte-index in
    let l = c.loop-byte in
    let b : ℕ = get_or body at 0 in
    let rest : List ℕ = drop (at + 1) body in
    let end : List ℕ = if is_ended body then [] else 10 ∷ [] in
    let all : List ℕ = folded_text c.args.chomping c.args.indent body in
    let h : at < length body = omega arith in
    let d : drop at body ≡ b ∷ rest = rw (add-one, drop-cons body at 0) in
    let held = rw d at l.invariant.2 in
    elim c.if-byte-eq10.branch [
      | then-byte-eq10 w ↦ rw (w.out-is, w.left-is, w.is_inside-is, w.was_white-is, w.has_text-is, w.breaks-is)
          (omega arith, (λ f. absurd (cc)), by_break c.args.chomping l.breaks c.args.indent (if l.is_inside then 0 else l.left) b l.has_text l.is_inside l.was_white rest end l.out.items all w.if-byte-eq10.true held)
      | else-byte-eq10+then-is_inside+in_ok-push w ↦
          let inside = w.if-is_inside.true in
          let text = l.invariant.1 inside in
          rw (w.out-is, w.left-is, w.is_inside-is, w.was_white-is, w.has_text-is, w.breaks-is, w.in_ok-push.ensures.items, inside, text)
          (omega arith, (λ _. refl), by_inside c.args.chomping l.breaks c.args.indent b l.has_text l.was_white rest end l.out.items all w.if-byte-eq10.false (rw inside at held))
      | else-byte-eq10+else-is_inside+then-byte-eq32+then-left-gt0 w ↦
          let outside = w.if-is_inside.false in
          rw (w.out-is, w.left-is, w.is_inside-is, w.was_white-is, w.has_text-is, w.breaks-is, outside)
          (omega arith, (λ f. absurd (cc)), by_indent c.args.chomping l.breaks c.args.indent l.left b l.has_text false l.was_white rest end l.out.items all w.if-byte-eq32.true (lt-ltb 0 l.left w.if-left-gt0.true) (rw outside at held))
      | else-byte-eq10+else-is_inside+else-byte-eq32+in_ok-push_first w ↦
          let outside = w.if-is_inside.false in
          let other : ((b == 32) && nat_lt 0 l.left) ≡ false = elim w.else-byte-eq32.branch [
            | else-byte-eq32-via-then-byte-eq32+else-left-gt0 w' ↦ let none : l.left ≡ 0 = omega arith in rw (w'.if-byte-eq32.true, none) refl
            | else-byte-eq32-via-else-byte-eq32 w' ↦ rw (ne_eqb b 32 w'.if-byte-eq32.false) refl
          ] in
          rw (w.out-is, w.left-is, w.is_inside-is, w.was_white-is, w.has_text-is, w.breaks-is, w.in_ok-push_first.ensures.value, w.is_white-was_white.ensures.value)
          (omega arith, (λ _. refl), by_first c.args.chomping l.breaks c.args.indent l.left b l.has_text l.was_white rest end l.out.items all w.if-byte-eq10.false other (rw outside at held))
    ]

pub returns : goal.returns
returns c =
    let body = c.args.body.now in
    let l = c.loop-byte in
    let none : drop l.byte-index body ≡ [] = drop_of_length-le body (omega arith) in
    let last : Bool = is_ended body in
    record {
      value = rw (c.in_ok-push_last.ensures.value, c.missing_breaks.ensures.value)
          (ap (λ y. l.out.items ++ y) (sym (by_end c.args.chomping l.breaks l.has_text l.is_inside l.was_white last)) ∙ (rw none at l.invariant.2));
    }
