use Rattle.std.proofs.Common.{◌≡◌, rules, Ok, IfOk, sym, subst}
use Rattle.serde_json.specs.View.{view}
use Rattle.ref_calls.specs.Outcome.{Answers}
use Rattle.ref_serve.specs.Where.{placed_by}
use Rattle.ref_serve.proofs.placing.placed_by.Goals as goal

pub returns-in-Ok : goal.returns-in-Ok
returns-in-Ok c d read answers keys =
    let draft : c.args.draft ≡ Ok c.in-Ok.draft = search rules in
    let is : read ≡ Ok c.in-Ok.draft = subst (λ r. Answers (λ x. x) r read) draft answers in
    subst (λ r. IfOk c.placed_own.result (λ v. view v ≡ placed_by r d (view c.args.error))) (sym is) (c.placed_own.ensures d keys)
