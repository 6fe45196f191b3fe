use Rattle.std.proofs.Common.{◌≡◌, map, ap, ◌∙◌}
use Rattle.std.proofs.lemmas.Result.{IfOk-weaker}
use Rattle.ref_definitions.specs.Follow.{followed_steps}
use Rattle.ref_definitions.specs.Pending.{builder_draft}
use Rattle.referencing.specs.Following.{step_of}
use Rattle.ref_report.specs.Report.{step_in, followed_report, lint_lines, with_lines}
use Rattle.ref_report.specs.inner.View.{step_view, report_view}
use Rattle.ref_report.proofs.answer.world_report.Goals as goal

pub returns : goal.returns
returns c =
    let world = c.args.registry.now in
    let steps : map step_of c.as_slice.result.now ≡ map (step_in (builder_draft c.args.draft)) (map step_view c.args.steps.now) =
    ap (map step_of) c.as_slice.ensures.value ∙ c.in_ok-steps.ensures
    ∙ ap (λ d. map (step_in d) (map step_view c.args.steps.now)) c.unwrap_or-draft.ensures in
    IfOk-weaker c.linted.result _ _
    (λ report is. is ∙ ap (λ lint. with_lines (lint_lines lint world) (report_view c.in_ok-report.report)) c.unwrap_or.ensures
    ∙ ap (with_lines _) (c.in_ok-report.ensures ∙ ap (λ s. followed_report (followed_steps world c.args.base s)) steps))
    c.linted.ensures
