use Rattle.std.proofs.Common.{◌+◌, ◌∷◌, [], ◌++◌, ◌∙◌, List, Bool, ap, ap₂, sym}
use Rattle.ref_patterns.specs.declared.pattern.Part.TheVariants as part
use Rattle.ref_patterns.specs.inner.Ends.{end_of}
use Rattle.ref_patterns.proofs.Ends.{character_end, after_end, few_after, more}
use Rattle.std.proofs.Common.{subst, ◌≤◌, ℕ}
use Rattle.ref_patterns.proofs.matching.Ends.with_character.Goals as goal

pub loop-bytes-preserved : goal.loop-bytes-preserved
loop-bytes-preserved c = (
  (λ p are.
      c.in_ok-push-2.ensures.value
      ∙ ap₂ (λ (l : List Bool) (b : Bool). l ++ b ∷ []) (c.loop-bytes.invariant.0 p are)
      (c.is_in_name-is_matched.ensures.value
      ∙ character_end p c.args.path.now c.args.self.now.are_matched.items c.loop-bytes.bytes c.loop-bytes.after are c.loop-bytes-test.true c.loop-bytes.invariant.2 c.loop-bytes.invariant.1)
      ∙ sym (more (part.Character ∷ p) c.args.path.now (c.loop-bytes.bytes + 1))),
  (after_end c.args.path.now c.loop-bytes.bytes c.loop-bytes.after c.loop-bytes-test.true c.loop-bytes.invariant.1
      ∙ ap (end_of c.args.path.now) (sym c.after_character-after.ensures.value)),
  subst (λ (n : ℕ). n ≤ c.loop-bytes.bytes + 1) (sym c.after_character-after.ensures.value) (few_after _ c.loop-bytes.bytes c.loop-bytes.after c.loop-bytes.invariant.2),
)
