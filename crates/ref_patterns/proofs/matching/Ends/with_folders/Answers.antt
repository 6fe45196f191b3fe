use Rattle.std.proofs.Common.{◌+◌, ◌∷◌, [], ◌++◌, ◌∙◌, List, Bool, ap₂, sym}
use Rattle.ref_patterns.specs.declared.pattern.Part.TheVariants as part
use Rattle.ref_patterns.proofs.Ends.{slash_end, slash_none, folders_end, folders_none, end_at, more}
use Rattle.std.proofs.Common.{zero-le, arith}
use Rattle.ref_patterns.proofs.matching.Ends.with_folders.Goals as goal

pub loop-bytes-init : goal.loop-bytes-init
loop-bytes-init c = λ p are.
    let value = c.has.ensures.value ∙ end_at p c.args.path.now c.args.self.now.are_matched.items 0 are zero-le ∙ sym (folders_none p c.args.path.now) in
    ((c.in_ok-push.ensures.value ∙ ap₂ (λ (l : List Bool) (b : Bool). l ++ b ∷ []) c.in_ok-ends.ensures.value value), sym (slash_none p c.args.path.now))

pub loop-bytes-preserved : goal.loop-bytes-preserved
loop-bytes-preserved c = λ p are.
    let after = c.is_after-is_after.ensures.value ∙ slash_end p c.args.path.now c.args.self.now.are_matched.items c.loop-bytes.is_after c.loop-bytes.bytes are c.loop-bytes-test.true (c.loop-bytes.invariant p are).1 in
    let value = c.has_or-is_matched.ensures.value ∙ folders_end p c.args.path.now c.args.self.now.are_matched.items c.is_after-is_after.result (c.loop-bytes.bytes + 1) are (omega (arith, c.loop-bytes-test.true)) after in (
      (c.in_ok-push-2.ensures.value ∙ ap₂ (λ (l : List Bool) (b : Bool). l ++ b ∷ []) (c.loop-bytes.invariant p are).0 value ∙ sym (more (part.Folders ∷ p) c.args.path.now (c.loop-bytes.bytes + 1))),
      after,
    )
