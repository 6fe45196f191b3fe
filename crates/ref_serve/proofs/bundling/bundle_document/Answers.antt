use Rattle.std.proofs.Common.{codes, subst}
use Rattle.serde_json.specs.View.{view}
use Rattle.ref_calls.specs.Outcome.{Gives}
use Rattle.ref_serve.specs.State.{registry_under}
use Rattle.ref_serve.specs.Results.{Then}
use Rattle.ref_serve.specs.Listings.{document_number, IsBundled, IsBundle}
use Rattle.ref_serve.proofs.Giving.{gives_then}
use Rattle.ref_serve.proofs.bundling.bundle_document.Goals as goal

pub returns : goal.returns
unfolding IsBundle
returns c =
    let d = view c.args.tree.now in
    let open_ = c.in_ok-_number.open.now in
    let document = c.in_ok-document.document in
    let result = c.bundled_whole.result in
    gives_then (registry_under c.args.state.now d (codes "registry")) (c.in_ok-_number._number, open_) (λ r. Then (document_number d) (IsBundled r.1.0)) result c.in_ok-_number.ensures
    (gives_then (document_number d) document (IsBundled open_.0) result c.in_ok-document.ensures (subst (λ w. Gives (IsBundled w document) result) c.registry.ensures.value c.bundled_whole.ensures))
