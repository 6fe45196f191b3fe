use Rattle.std.proofs.Common.{◌∙◌, ◌++◌, ap, sym}
use Rattle.ref_reach.specs.Places.{root_in}
use Rattle.ref_reach.specs.Views.{source_of}
use Rattle.ref_reach.proofs.Lists.{joined_step}
use Rattle.ref_reach.proofs.own.roots_of.Goals as goal

pub loop-number-preserved : goal.loop-number-preserved
loop-number-preserved c =
    let l = c.loop-number in
    let s = c.index-sources-number.result in
    c.in_ok-push_root.ensures ∙ ap (λ es. es ++ root_in (l.number, source_of s)) l.invariant
    ∙ sym (joined_step root_in source_of c.args.sources.now l.number s c.loop-number-test.true c.index-sources-number.is)
