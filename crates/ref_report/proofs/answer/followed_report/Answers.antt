use Rattle.std.proofs.Common.{map}
use Rattle.std.proofs.lemmas.Result.{IfOk-weaker}
use Rattle.ref_definitions.specs.Follow.{followed_steps}
use Rattle.referencing.specs.Following.{step_of, followed_of}
use Rattle.ref_report.specs.inner.View.{report_view}
use Rattle.ref_report.proofs.StepsWithoutFloats.{ends_without_floats}
use Rattle.ref_report.proofs.Reports.{last_without_floats, step_is, done_is}
use Rattle.ref_report.proofs.answer.followed_report.Goals as goal

pub done_report-requires : goal.done_report-requires
done_report-requires c =
    last_without_floats c.in-Ok.followed.last (ends_without_floats c.args.registry.now c.args.base (map step_of c.args.steps.now) (followed_of c.in-Ok.followed) c.requires c.in-Ok.ensures.gives)

pub returns-in-Ok : goal.returns-in-Ok
returns-in-Ok c =
    let answer = followed_steps c.args.registry.now c.args.base (map step_of c.args.steps.now) in
    IfOk-weaker c.done_report.result _ _ (λ report is. done_is answer (followed_of c.in-Ok.followed) (report_view report) c.in-Ok.ensures.gives is) c.done_report.ensures

pub returns-in-Err : goal.returns-in-Err
returns-in-Err c =
    let answer = followed_steps c.args.registry.now c.args.base (map step_of c.args.steps.now) in
    let fault = c.in-Err.fault in
    IfOk-weaker c.step_report.result _ _ (λ report is. step_is answer fault.step fault.error (report_view report) c.in-Err.ensures.gives is) c.step_report.ensures
