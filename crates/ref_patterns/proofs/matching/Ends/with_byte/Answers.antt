use Rattle.std.proofs.Common.{◌+◌, ◌∷◌, [], ◌++◌, ◌∙◌, List, Bool, ap₂, sym}
use Rattle.ref_patterns.specs.declared.pattern.Part.TheVariants as part
use Rattle.ref_patterns.proofs.Ends.{byte_end, more}
use Rattle.ref_patterns.proofs.matching.Ends.with_byte.Goals as goal

pub loop-bytes-preserved : goal.loop-bytes-preserved
loop-bytes-preserved c = λ p are.
    c.in_ok-push-2.ensures.value
    ∙ ap₂ (λ (l : List Bool) (b : Bool). l ++ b ∷ []) (c.loop-bytes.invariant p are)
    (c.is_byte-is_matched.ensures.value ∙ byte_end p c.args.path.now c.args.self.now.are_matched.items c.args.byte c.loop-bytes.bytes are c.loop-bytes-test.true)
    ∙ sym (more (part.Byte c.args.byte ∷ p) c.args.path.now (c.loop-bytes.bytes + 1))
