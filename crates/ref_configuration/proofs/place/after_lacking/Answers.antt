use Rattle.std.proofs.Common.{◌≡◌, ℕ, ◌<◌, ◌+◌, ◌∙◌, Some, None, false, get_or, take, length, map, sym, ap, arith}
use Rattle.std.proofs.lemmas.Grind.{common_steps}
use Rattle.ref_configuration.specs.inner.Beginnings.{told}
use Rattle.ref_configuration.specs.Places.{has, tells}
use Rattle.ref_configuration.proofs.Beginnings.{left_after, left_later, left_open, left_lacks}
use Rattle.ref_configuration.proofs.place.after_lacking.Goals as goal
use Rattle.ref_configuration.proofs.place.after_lacking.Goals.{then-as_bytes-end-eq10+in_ok-state_of+in-Lacks, then-as_bytes-end-eq10+in_ok-state_of+in-Open, else-as_bytes-end-eq10}

pub loop-end-preserved : goal.loop-end-preserved
loop-end-preserved c =
    let text = c.args.text.now in
    let end = c.loop-end.end in
    let begin = c.loop-end.begin in
    let test = has (map (λ key. key.now) c.args.above.now) c.args.item c.args.name.now in
    let within : end < length text = omega (arith, ap length c.as_bytes.ensures.value) in
    let same : get_or text end 0 ≡ get_or c.as_bytes.result.now end 0 = ap (λ s. get_or s end 0) (sym c.as_bytes.ensures.value) in
    let after = λ (b : ℕ). left_after test text b (end + 1) in
    elim c.if-as_bytes-end-eq10.branch [
      | then-as_bytes-end-eq10+in_ok-state_of+in-Lacks w ↦
          let front : w.range.result.now ≡ take end text = grind (arith, common_steps, w.range.ensures.value) in
          let says : tells test (take end text) ≡ Some false = ap (tells test) (sym front) ∙ sym w.in_ok-state_of.ensures ∙ ap told w.in-Lacks.is in
          (ap after w.begin-is ∙ left_lacks test text begin end within (same ∙ w.if-as_bytes-end-eq10.true) says ∙ c.loop-end.invariant.0, omega (arith, w.begin-is))
      | then-as_bytes-end-eq10+in_ok-state_of+in-Open w ↦
          let front : w.range.result.now ≡ take end text = grind (arith, common_steps, w.range.ensures.value) in
          let says : tells test (take end text) ≡ None = ap (tells test) (sym front) ∙ sym w.in_ok-state_of.ensures ∙ ap told w.in-Open.is in
          (ap after w.begin-is ∙ left_open test text begin end within (same ∙ w.if-as_bytes-end-eq10.true) says ∙ c.loop-end.invariant.0, omega (arith, w.begin-is, c.loop-end.invariant.1))
      | else-as_bytes-end-eq10 w ↦
          (ap after w.begin-is ∙ left_later test text begin end within (λ is. w.if-as_bytes-end-eq10.false (sym same ∙ is)) ∙ c.loop-end.invariant.0, omega (arith, w.begin-is, c.loop-end.invariant.1))
    ]
