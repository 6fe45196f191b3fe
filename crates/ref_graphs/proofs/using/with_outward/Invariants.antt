use Rattle.std.proofs.Common.{◌≡◌, ◌++◌, map, take}
use Rattle.ref_graphs.specs.Views.{step_of}
use Rattle.ref_graphs.specs.inner.Using.{outward}
use Rattle.ref_graphs.proofs.using.with_outward.Given as goal

abbrev pub invariant-loop-step : goal.invariant-loop-step
invariant-loop-step l = map step_of l.steps.items ≡ map step_of (take l.step-index l.uses)

abbrev pub invariant-loop-number : goal.invariant-loop-number
invariant-loop-number l = map step_of l.steps.items ≡ map step_of l.uses ++ outward (take l.number l.around)
