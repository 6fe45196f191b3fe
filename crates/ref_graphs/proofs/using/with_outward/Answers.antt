use Rattle.std.proofs.Common.{◌∙◌, ◌+◌, ◌++◌, ◌∷◌, [], map, take, get_or, ap, sym, append_assoc}
use Rattle.std.proofs.lemmas.List.{map_push}
use Rattle.ref_graphs.specs.Circles.{Step}
use Rattle.ref_graphs.specs.Views.{step_of}
use Rattle.ref_graphs.specs.inner.Using.{outward}
use Rattle.ref_graphs.proofs.Used.{outward_more}
use Rattle.ref_graphs.proofs.using.with_outward.Goals as goal

pub loop-number-preserved : goal.loop-number-preserved
loop-number-preserved c =
    let l = c.loop-number in
    let xs = c.args.around.now in
    let uses = map step_of c.args.uses.now in
    let one : Step = record { from = l.number + 1; to = get_or xs l.number 0 } in
    ap (map step_of) c.in_ok-push-2.ensures.items ∙ map_push step_of l.steps.items (record { from = l.number + 1; to = get_or xs l.number 0 })
    ∙ ap (λ m. m ++ one ∷ []) l.invariant ∙ append_assoc uses (outward (take l.number xs)) (one ∷ [])
    ∙ ap (λ o. uses ++ o) (sym (outward_more xs l.number 0 c.loop-number-test.true))
