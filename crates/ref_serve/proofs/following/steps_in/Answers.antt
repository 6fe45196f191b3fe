use Rattle.std.proofs.Common.{◌≡◌, ◌∷◌, ◌+◌, map, drop, ap, sym, ◌∙◌}
use Rattle.std.proofs.lemmas.List.{drop_more}
use Rattle.serde_json.specs.View.{items_view}
use Rattle.referencing.specs.Following.{step_of}
use Rattle.ref_calls.specs.Calls.{each_item}
use Rattle.ref_calls.proofs.Further.{in_front}
use Rattle.ref_serve.specs.Following.{step_in}
use Rattle.ref_serve.proofs.Steps.{steps_next}
use Rattle.ref_serve.proofs.following.steps_in.Goals as goal

pub loop-index-preserved : goal.loop-index-preserved
loop-index-preserved c =
    let l = c.loop-index in
    let items = c.args.items.now in
    let item = c.index-items-index.result in
    let rest = drop (l.index + 1) items in
    let draft = c.args.draft in
    let left : drop l.index items ≡ item ∷ rest = drop_more items l.index item c.loop-index-test.true ∙ ap (λ x. x ∷ rest) (sym c.index-items-index.is) in
    ap (λ ss. in_front (map step_of ss) (each_item (step_in draft) (l.index + 1) (items_view rest))) c.in_ok-push.ensures.items
    ∙ steps_next draft l.index l.steps.items c.in_ok-step.step item rest c.in_ok-step.ensures
    ∙ ap (λ xs. in_front (map step_of l.steps.items) (each_item (step_in draft) l.index (items_view xs))) (sym left) ∙ l.invariant
