use Rattle.serde_json.specs.View.{view}
use Rattle.ref_serve.specs.Results.{Then, asked_of, start_of, IsRecursive, IsRecursiveCall}
use Rattle.ref_serve.specs.inner.Seen.{asked_view, start_view}
use Rattle.ref_serve.proofs.Giving.{gives_then}
use Rattle.ref_serve.proofs.looking.recursive.Goals as goal

pub returns : goal.returns
unfolding IsRecursiveCall IsRecursive
returns c =
    let d = view c.args.tree.now in
    let asked = asked_view c.in_ok-asked.asked in
    let start = start_view c.in_ok-start.start in
    gives_then (asked_of c.args.state.now d) asked (λ a. Then (start_of a d) (λ s. IsRecursive s.asked s.resolver)) c.found_or_stop.result c.in_ok-asked.ensures
    (gives_then (start_of asked d) start (λ s. IsRecursive s.asked s.resolver) c.found_or_stop.result c.in_ok-start.ensures.start c.found_or_stop.ensures)
