use Rattle.std.proofs.Common.{◌≡◌, ◌++◌, map, take}
use Rattle.ref_graphs.specs.Views.{step_of}
use Rattle.ref_graphs.specs.inner.Rounds.{step_to}
use Rattle.ref_graphs.proofs.rounds.push_lead.Given as goal

abbrev pub invariant-loop-front : goal.invariant-loop-front
invariant-loop-front l = record {
  list : map step_of l.steps.list.items ≡ map step_of l.initial.steps.list.items ++ map (step_to l.lead.to) (take l.front-index l.fronts);
  by : l.steps.by.items ≡ l.initial.steps.by.items ++ map (λ f. l.number) (take l.front-index l.fronts);
}
