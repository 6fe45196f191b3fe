use Rattle.std.proofs.Common.{◌≡◌, [], map, unwrap_or, refl, ap}
use Rattle.std.proofs.lemmas.Result.{IfOk-weaker}
use Rattle.ref_definitions.specs.Pending.{builder_draft}
use Rattle.ref_report.specs.Report.{step_in, steps_of}
use Rattle.ref_report.specs.inner.View.{request_view, step_view, report_view}
use Rattle.ref_report.proofs.WorldsWithoutFloats.{world_without_floats}
use Rattle.ref_report.proofs.Reports.{meta_reported, prepare_reported, world_reported}
use Rattle.ref_report.proofs.answer.answer_request.Goals as goal

pub returns-in-Err : goal.returns-in-Err
returns-in-Err c =
    IfOk-weaker c.fault_report.result _ _ (λ r is. meta_reported (request_view c.args.request) c.in-Err.error (report_view r) c.in-Err.ensures.fault is) c.fault_report.ensures

pub returns-in-Err-world_of : goal.returns-in-Err-world_of
returns-in-Err-world_of c =
    IfOk-weaker c.fault_report-in-Err-world_of.result _ _
    (λ r is. prepare_reported (request_view c.args.request) (unwrap_or c.in-Ok.parent []) c.in-Err-world_of.error (report_view r) c.in-Ok.ensures.ok c.in-Err-world_of.ensures.fault is)
    c.fault_report-in-Err-world_of.ensures

pub world_report-requires : goal.world_report-requires
world_report-requires c = world_without_floats (request_view c.args.request) (unwrap_or c.in-Ok.parent []) c.in-Ok-world_of.registry c.requires c.in-Ok.ensures.ok c.in-Ok-world_of.ensures.ok

pub returns-in-Ok-world_of : goal.returns-in-Ok-world_of
returns-in-Ok-world_of c =
    let r = request_view c.args.request in
    let world = c.in-Ok-world_of.registry in
    let steps : map (step_in (builder_draft r.draft)) (map step_view c.as_slice-steps.result.now) ≡ steps_of r =
    ap (λ ss. map (step_in (builder_draft r.draft)) (map step_view ss)) c.as_slice-steps.ensures.value in
    IfOk-weaker c.world_report.result _ _
    (λ report is. world_reported r (unwrap_or c.in-Ok.parent []) world _ _ (report_view report) c.in-Ok.ensures.ok c.in-Ok-world_of.ensures.ok steps refl is)
    c.world_report.ensures
