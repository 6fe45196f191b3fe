use Rattle.std.proofs.Common.{◌≡◌, None, Err, map, rules, sym, subst}
use Rattle.serde_json.specs.View.{view}
use Rattle.ref_definitions.specs.Follow.{followed_from}
use Rattle.ref_resolver.specs.Resolving.{resolver_of as resolver_view}
use Rattle.referencing.specs.Following.{step_of}
use Rattle.ref_calls.specs.Outcome.{Gives}
use Rattle.ref_serve.specs.Following.{IsFollowed, start_at, place_after}
use Rattle.ref_serve.specs.inner.Seen.{asked_view}
use Rattle.ref_serve.specs.inner.Steps.{followed_view, placed_at}
use Rattle.ref_serve.proofs.Steps.{result_stopped, result_found}
use Rattle.ref_serve.proofs.following.steps_result.Goals as goal

pub returns-in_err-followed : goal.returns-in_err-followed
returns-in_err-followed c =
    let asked = asked_view c.args.asked.now in
    let answer = followed_from asked.world 0 (start_at (resolver_view c.args.start)) (map step_of c.args.steps.now) in
    let same : c.from_residual.result ≡ Err c.in_err-followed.field-0.0 = search rules in
    let at = place_after asked.world None (start_at (resolver_view c.args.start)) (map step_of c.args.steps.now) in
    subst (Gives (IsFollowed asked at answer)) (sym same) (result_stopped asked at answer c.in_err-followed.field-0.0 (rw c.requires at c.in_err-followed.ensures.error))

pub returns : goal.returns
returns c =
    let asked = asked_view c.args.asked.now in
    let answer = followed_from asked.world 0 (start_at (resolver_view c.args.start)) (map step_of c.args.steps.now) in
    let at = place_after asked.world None (start_at (resolver_view c.args.start)) (map step_of c.args.steps.now) in
    result_found asked at (placed_at c.in_ok-followed.followed) answer (followed_view c.in_ok-followed.followed) (view c.in_ok-followed_object.field-0) (rw c.requires at c.in_ok-followed.ensures.place) (rw c.requires at c.in_ok-followed.ensures.ok) c.in_ok-followed_object.ensures
