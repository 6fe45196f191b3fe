use Rattle.std.proofs.Common.{◌+◌, ◌∷◌, [], ◌++◌, ◌∙◌, List, Bool, ap₂, sym}
use Rattle.ref_patterns.proofs.Ends.{nothing_none, nothing_more, more}
use Rattle.ref_patterns.proofs.matching.of_nothing.Goals as goal

pub loop-bytes-init : goal.loop-bytes-init
loop-bytes-init c = c.in_ok-push.ensures.value ∙ ap₂ (λ (l : List Bool) (b : Bool). l ++ b ∷ []) c.in_ok-ends.ensures.value (sym (nothing_none c.args.path.now))

pub loop-bytes-preserved : goal.loop-bytes-preserved
loop-bytes-preserved c =
    c.in_ok-push-2.ensures.value
    ∙ ap₂ (λ (l : List Bool) (b : Bool). l ++ b ∷ []) c.loop-bytes.invariant (sym (nothing_more c.args.path.now c.loop-bytes.bytes c.loop-bytes-test.true))
    ∙ sym (more [] c.args.path.now (c.loop-bytes.bytes + 1))
