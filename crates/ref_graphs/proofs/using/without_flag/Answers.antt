use Rattle.std.proofs.Common.{◌∙◌, ◌+◌, ◌++◌, ◌∷◌, [], get_or, if◌then◌else◌, false, ap, sym}
use Rattle.ref_graphs.proofs.Used.{numbers_more}
use Rattle.ref_graphs.proofs.using.without_flag.Goals as goal

pub loop-number-preserved : goal.loop-number-preserved
loop-number-preserved c =
    let l = c.loop-number in
    let flags = c.args.flags.now in
    c.in_ok-push_unless.ensures ∙ ap (λ m. m ++ (if get_or flags (l.number + 1) false then [] else (l.number + 1) ∷ [])) l.invariant
    ∙ sym (numbers_more flags c.args.around.now l.number c.loop-number-test.true)
