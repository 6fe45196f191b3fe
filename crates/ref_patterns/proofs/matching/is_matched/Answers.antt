use Rattle.std.proofs.Common.{◌≡◌, ◌-◌, ◌∙◌, ℕ, length, drop, ap, subst, arith, le_refl}
use Rattle.ref_patterns.specs.Patterns.{matches}
use Rattle.ref_patterns.specs.inner.Ends.{AreOf}
use Rattle.ref_patterns.proofs.Ends.{end_at, whole}
use Rattle.ref_patterns.proofs.matching.is_matched.Goals as goal

-- all parts are passed, and the longest end is the path
pub returns : goal.returns
returns c =
    let none_left : length c.args.parts.now - c.loop-number.number ≡ 0 = omega (arith, c.loop-number-test.false) in
    let are = subst (λ (n : ℕ). AreOf (drop n c.args.parts.now) c.args.path.now c.loop-number.ends.are_matched.items) none_left c.loop-number.invariant in
    record {
      value =
          c.has.ensures.value
          ∙ end_at c.args.parts.now c.args.path.now c.loop-number.ends.are_matched.items (length c.args.path.now) are (le_refl (length c.args.path.now))
          ∙ ap (matches c.args.parts.now) (whole c.args.path.now);
    }
