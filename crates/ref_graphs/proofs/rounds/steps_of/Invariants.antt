use Rattle.std.proofs.Common.{◌≡◌, ◌++◌, map, drop}
use Rattle.ref_graphs.specs.Views.{step_of, lead_of}
use Rattle.ref_graphs.specs.inner.Rounds.{steps_of, numbers_from}
use Rattle.ref_graphs.proofs.rounds.steps_of.Given as goal

abbrev pub invariant-loop-number : goal.invariant-loop-number
invariant-loop-number l = record {
  list : map step_of l.steps.list.items ++ steps_of (map lead_of (drop l.number l.leads)) ≡ steps_of (map lead_of l.leads);
  by : l.steps.by.items ++ numbers_from l.number (map lead_of (drop l.number l.leads)) ≡ numbers_from 0 (map lead_of l.leads);
}
