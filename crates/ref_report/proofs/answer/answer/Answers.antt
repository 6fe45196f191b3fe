use Rattle.std.proofs.lemmas.Result.{IfOk-weaker}
use Rattle.serde_json.specs.View.{view}
use Rattle.ref_report.specs.inner.View.{report_view}
use Rattle.ref_report.proofs.Reports.{report_of_tree, report_of_none}
use Rattle.ref_report.proofs.answer.answer.Goals as goal

pub returns-in-Ok : goal.returns-in-Ok
returns-in-Ok c = record {
  report = IfOk-weaker c.answer_tree.result _ _ (λ r is. report_of_tree c.args.bytes.now (view c.in-Ok.tree) (report_view r) c.in-Ok.ensures.tree is) c.answer_tree.ensures;
}

pub returns-in-Err-Because : goal.returns-in-Err-Because
returns-in-Err-Because c =
    let place = rw c.in-Err-Because.field-0-is at c.in-Err-Because.ensures.not_json in
    record {
      report = IfOk-weaker c.bad_report.result _ _ (λ r is. report_of_none c.args.bytes.now (report_view r) place.0 is) c.bad_report.ensures;
    }
