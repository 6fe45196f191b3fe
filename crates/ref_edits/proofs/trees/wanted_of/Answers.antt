use Rattle.std.proofs.Common.{◌≡◌, ◌<◌, ap, sym, ◌∙◌, length, arith}
use Rattle.ref_edits.specs.Changed as spec
use Rattle.ref_edits.specs.declared.plan.Part.TheVariants.{Key, Text}
use Rattle.ref_edits.proofs.Saying.{with_own, with_other}
use Rattle.ref_edits.proofs.trees.wanted_of.Goals as goal
use Rattle.ref_edits.proofs.trees.wanted_of.Goals.{then-change-document+in_ok-note, else-change-document}

pub loop-change-preserved : goal.loop-change-preserved
loop-change-preserved c =
    let d = c.args.document in
    let cs = c.args.changes.now in
    let i = c.loop-change.change-index in
    let change = c.change-item.result in
    let before = spec.wanted_of c.loop-change.wanted in
    let within : i < length cs = omega arith in
    elim c.if-change-document.branch [
      | then-change-document+in_ok-note b ↦ (
        λ p. ap (λ w. (spec.wanted_of w).text p) b.wanted-is ∙ b.in_ok-note.ensures.text p
            ∙ with_own d Text p cs i change (before.text p) within c.change-item.is b.if-change-document.true (c.loop-change.invariant.0 p),
        λ p. ap (λ w. (spec.wanted_of w).key p) b.wanted-is ∙ b.in_ok-note.ensures.key p
            ∙ with_own d Key p cs i change (before.key p) within c.change-item.is b.if-change-document.true (c.loop-change.invariant.1 p),
      )
      | else-change-document b ↦ (
        λ p. ap (λ w. (spec.wanted_of w).text p) b.wanted-is
            ∙ with_other d Text p cs i change (before.text p) within c.change-item.is b.if-change-document.false (c.loop-change.invariant.0 p),
        λ p. ap (λ w. (spec.wanted_of w).key p) b.wanted-is
            ∙ with_other d Key p cs i change (before.key p) within c.change-item.is b.if-change-document.false (c.loop-change.invariant.1 p),
      )
    ]
