use Rattle.std.proofs.Common.{codes}
use Rattle.serde_json.specs.View.{view}
use Rattle.ref_calls.specs.Calls.{required_member}
use Rattle.ref_serve.specs.Results.{Then, asked_of, start_of, IsReference, IsLookup}
use Rattle.ref_serve.specs.inner.Seen.{asked_view, start_view}
use Rattle.ref_serve.proofs.Giving.{gives_then}
use Rattle.ref_serve.proofs.looking.lookup.Goals as goal

pub returns : goal.returns
unfolding IsLookup
returns c =
    let d = view c.args.tree.now in
    let asked = asked_view c.in_ok-asked.asked in
    let start = start_view c.in_ok-start.start in
    let result = c.referred.result in
    gives_then (asked_of c.args.state.now d) asked (λ a. Then (start_of a d) (λ s. Then (required_member (codes "reference") d) (IsReference s))) result c.in_ok-asked.ensures
    (gives_then (start_of asked d) start (λ s. Then (required_member (codes "reference") d) (IsReference s)) result c.in_ok-start.ensures.start
    (gives_then (required_member (codes "reference") d) (view c.in_ok-reference.reference.now) (IsReference start) result c.in_ok-reference.ensures c.referred.ensures))
