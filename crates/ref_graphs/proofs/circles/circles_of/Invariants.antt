use Rattle.std.proofs.Common.{◌≡◌, ℕ, ◌<◌, [], map, vec_len}
use Rattle.ref_graphs.specs.declared.circles.State.TheVariants.{New}
use Rattle.ref_graphs.specs.Views.{step_of}
use Rattle.ref_graphs.specs.inner.Circling.{state_at, trace_of, IsStack, Holds}
use Rattle.ref_graphs.proofs.circles.circles_of.Given as goal

abbrev pub invariant-loop-place : goal.invariant-loop-place
invariant-loop-place l = record {
  places : vec_len l.search.states ≡ l.count;
  stack : IsStack l.count (map step_of l.steps) (trace_of l.search l.list.items);
  none : l.search.stack.items ≡ [];
  holds : Holds l.count (map step_of l.steps) (trace_of l.search l.list.items);
  met : (p : ℕ) → p < l.place → state_at l.search.states.items p ≡ New → ⊥;
}
