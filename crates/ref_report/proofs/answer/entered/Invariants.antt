use Rattle.std.proofs.Common.{◌≡◌, ◌++◌, map, drop}
use Rattle.referencing.specs.Following.{step_of}
use Rattle.ref_report.specs.Report.{step_in}
use Rattle.ref_report.specs.inner.View.{step_view}
use Rattle.ref_report.proofs.answer.entered.Given as goal

abbrev pub invariant-loop-step : goal.invariant-loop-step
invariant-loop-step l =
    map step_of l.entered.items ++ map (step_in l.draft) (map step_view (drop l.step-index l.steps)) ≡ map (step_in l.draft) (map step_view l.steps)
