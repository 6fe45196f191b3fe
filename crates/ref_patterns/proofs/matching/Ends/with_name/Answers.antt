use Rattle.std.proofs.Common.{◌+◌, ◌∷◌, [], ◌++◌, ◌∙◌, List, Bool, ap₂, sym}
use Rattle.ref_patterns.specs.declared.pattern.Part.TheVariants as part
use Rattle.ref_patterns.proofs.Ends.{name_end, name_none, end_at, more}
use Rattle.std.proofs.Common.{zero-le}
use Rattle.ref_patterns.proofs.matching.Ends.with_name.Goals as goal

pub loop-bytes-init : goal.loop-bytes-init
loop-bytes-init c = λ p are.
    let value = c.has-is_within.ensures.value ∙ end_at p c.args.path.now c.args.self.now.are_matched.items 0 are zero-le ∙ sym (name_none p c.args.path.now) in
    ((c.in_ok-push.ensures.value ∙ ap₂ (λ (l : List Bool) (b : Bool). l ++ b ∷ []) c.in_ok-ends.ensures.value value), value)

pub loop-bytes-preserved : goal.loop-bytes-preserved
loop-bytes-preserved c = λ p are.
    let longer = c.is_within-is_within.ensures.value ∙ name_end p c.args.path.now c.args.self.now.are_matched.items c.loop-bytes.is_within c.loop-bytes.bytes are c.loop-bytes-test.true (c.loop-bytes.invariant p are).1 in (
      (c.in_ok-push-2.ensures.value ∙ ap₂ (λ (l : List Bool) (b : Bool). l ++ b ∷ []) (c.loop-bytes.invariant p are).0 longer ∙ sym (more (part.Name ∷ p) c.args.path.now (c.loop-bytes.bytes + 1))),
      longer,
    )
