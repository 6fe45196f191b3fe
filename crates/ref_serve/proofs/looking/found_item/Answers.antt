use Rattle.serde_json.specs.Find.{as_str, as_array}
use Rattle.serde_json.specs.View.{view}
use Rattle.ref_resolver.specs.Resolving.{resolver_of as resolver_view}
use Rattle.ref_serve.specs.Results.{question_as}
use Rattle.ref_serve.specs.inner.Seen.{started}
use Rattle.ref_serve.proofs.ListOfReferences.{found_at_index, stopped_at_index}
use Rattle.ref_serve.proofs.looking.found_item.Goals as goal

pub returns-in-Ok : goal.returns-in-Ok
returns-in-Ok c =
    let d = view c.args.item.now in
    let start = started c.args.asked.now (resolver_view c.args.resolver.now) in
    found_at_index (question_as start (as_str d) (as_array d)) c.args.index (view c.in-Ok.object) c.in-Ok.ensures

pub returns-in-Err : goal.returns-in-Err
returns-in-Err c =
    let d = view c.args.item.now in
    let start = started c.args.asked.now (resolver_view c.args.resolver.now) in
    stopped_at_index (question_as start (as_str d) (as_array d)) c.args.index c.in-Err.stop c.at_index.result c.in-Err.ensures c.at_index.ensures
