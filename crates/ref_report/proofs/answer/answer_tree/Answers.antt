use Rattle.serde_json.specs.View.{view}
use Rattle.ref_report.specs.inner.View.{request_view}
use Rattle.ref_report.proofs.Floats.{request_without_floats}
use Rattle.ref_report.proofs.answer.answer_tree.Goals as goal

pub answer_request-requires : goal.answer_request-requires
answer_request-requires c = request_without_floats (view c.args.tree.now) (request_view c.in-Ok.request) c.in-Ok.ensures
