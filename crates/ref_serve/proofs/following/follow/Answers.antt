use Rattle.std.proofs.Common.{◌≡◌, map, rules, subst}
use Rattle.serde_json.specs.View.{view}
use Rattle.referencing.specs.Following.{step_of}
use Rattle.ref_calls.specs.Calls.{draft_of}
use Rattle.ref_serve.specs.Results.{Then, asked_of, start_of}
use Rattle.ref_calls.specs.Outcome.{Gives}
use Rattle.ref_serve.specs.Following.{steps_of, IsFollowedFrom, IsFollowedBy, IsFollow}
use Rattle.ref_serve.specs.inner.Seen.{asked_view, start_view}
use Rattle.ref_serve.proofs.Giving.{gives_then}
use Rattle.ref_serve.proofs.following.follow.Goals as goal

pub returns : goal.returns
unfolding IsFollow
returns c =
    let d = view c.args.tree.now in
    let asked = asked_view c.in_ok-asked.asked in
    let start = start_view c.in_ok-asked-2.field-0 in
    let result = c.steps_result.result in
    let steps = c.in_ok-steps.steps.items in
    let lent : c.as_slice.result.now ≡ steps = search rules in
    gives_then (asked_of c.args.state.now d) asked (λ a. Then (start_of a d) (IsFollowedBy d)) result c.in_ok-asked.ensures
    (gives_then (start_of asked d) start (IsFollowedBy d) result c.in_ok-asked-2.ensures.start
    (gives_then (draft_of d) c.in_ok-draft.draft (λ draft. Then (steps_of draft d) (IsFollowedFrom start)) result c.in_ok-draft.ensures
    (gives_then (steps_of c.in_ok-draft.draft d) (map step_of steps) (IsFollowedFrom start) result c.in_ok-steps.ensures
    (subst (λ xs. Gives (IsFollowedFrom start (map step_of xs)) result) lent c.steps_result.ensures))))
