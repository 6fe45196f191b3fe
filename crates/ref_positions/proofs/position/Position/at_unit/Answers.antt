use Rattle.std.proofs.Common.{◌≡◌, ◌<◌, ◌+◌, ◌∙◌, ap, ap₂, sym, length, below_more, arith, false}
use Rattle.ref_positions.specs.Lines.{is_beyond}
use Rattle.ref_positions.proofs.position.Position.at_unit.Goals as goal

-- each offset that was passed isn't beyond
pub loop-passed-preserved : goal.loop-passed-preserved
loop-passed-preserved c =
    let same = c.loop-passed.invariant.0 in
    let at = c.loop-passed.invariant.1 in
    let within : c.loop-passed.place.offset < length c.loop-passed.place.text.now = omega (arith, at, ap length same) in
    let here : is_beyond c.args.text.now c.args.line c.args.unit c.loop-passed.passed ≡ false =
    ap₂ (λ t k. is_beyond t c.args.line c.args.unit k) (sym same) (sym at) ∙ sym c.is_beyond.ensures.value ∙ c.if-is_beyond.false in (
      c.after_byte-place.ensures.text ∙ same,
      c.after_byte-place.ensures.next within ∙ ap (λ k. k + 1) at,
      below_more _ _ c.loop-passed.invariant.2 here,
    )
